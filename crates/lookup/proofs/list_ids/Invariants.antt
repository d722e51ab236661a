-- `list_ids`: those in front are listed.
use Rattle.lookup.proofs.IdLaws.{ListSeen}
use Rattle.lookup.proofs.list_ids.Given as goal

abbrev pub invariant-loop-i : goal.invariant-loop-i
invariant-loop-i l = ListSeen l.initial.ids l.ids l.i
