-- `not_below`: the members that were passed have lower ids.
use Rattle.cutting.proofs.PassLaws.{PassSeen}
use Rattle.cutting.proofs.passing.not_below.Given as goal

abbrev pub invariant-loop-k : goal.invariant-loop-k
invariant-loop-k l = PassSeen l.s l.members l.from l.id l.k
