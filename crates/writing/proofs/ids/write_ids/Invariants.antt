-- `write_ids`: what is left is to be put behind what was put.
use Rattle.writing.proofs.IdLaws.{IdsSeen}
use Rattle.writing.proofs.ids.write_ids.Given as goal

abbrev pub invariant-loop-i : goal.invariant-loop-i
invariant-loop-i l = IdsSeen l.ranks l.ids l.initial.out l.out l.width l.start l.end l.to l.i
