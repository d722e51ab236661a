-- `pass`: whatever the fields are, those from where it stands on name the same of what has an id of so much at least.
use Prim.Native.Nat.{◌-◌}
use Rattle.remainder.proofs.PassLaws.{PassSeen}
use Rattle.remainder.proofs.passing.pass.Given as goal

abbrev pub invariant-loop-place : goal.invariant-loop-place
invariant-loop-place l = PassSeen l.schema l.table l.from l.to l.id l.place

abbrev pub decreases-loop-place : goal.decreases-loop-place
decreases-loop-place l = l.to - l.place
