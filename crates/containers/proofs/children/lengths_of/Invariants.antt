-- `lengths_of`: what the children still to come add to what was seen.
use Rattle.containers.proofs.LengthLaws.{LengthsSeen}
use Rattle.containers.proofs.children.lengths_of.Given as goal

abbrev pub invariant-loop-i : goal.invariant-loop-i
invariant-loop-i l = LengthsSeen l.area l.starts l.in_order l.from l.sum l.i
