-- `largest_of`: the largest of what was seen and what is left.
use Rattle.writing.proofs.IdLaws.{LargestSeen}
use Rattle.writing.proofs.ids.largest_of.Given as goal

abbrev pub invariant-loop-i : goal.invariant-loop-i
invariant-loop-i l = LargestSeen l.ranks l.ids l.i l.most.0
