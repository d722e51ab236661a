-- `names_rise`: what is left of the ids decides, behind the name of the last one.
use Rattle.containers.proofs.FieldLaws.{FieldsSeen}
use Rattle.containers.proofs.fields.names_rise.Given as goal

abbrev pub invariant-loop-i : goal.invariant-loop-i
invariant-loop-i l = FieldsSeen l.dictionary.names l.ids l.last.0 l.i
