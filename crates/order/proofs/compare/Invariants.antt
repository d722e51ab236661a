-- `compare`: the strings agree up to the place reached, and the first difference, or the end of one, decides.
use Rattle.order.specs.Agreed.{Agreed}
use Rattle.order.proofs.compare.Given as goal

abbrev pub invariant-loop-i : goal.invariant-loop-i
invariant-loop-i l = Agreed l.a l.b l.i
