-- `walk`: whatever children the map is of, what was passed is held, and the walk stands where a child ends.
use Prim.Native.Nat.{◌-◌}
use lib.ListN.{length}
use Rattle.containers.proofs.WalkLaws.{WalkSeen}
use Rattle.containers.proofs.cover.walk.Given as goal

abbrev pub invariant-loop-place : goal.invariant-loop-place
invariant-loop-place l = WalkSeen l.area l.marks l.place

abbrev pub decreases-loop-place : goal.decreases-loop-place
decreases-loop-place l = length l.area - l.place
