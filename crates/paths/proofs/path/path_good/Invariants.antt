-- `path_good`: what is left of the pieces decides.
use Prim.Native.Nat.{◌-◌}
use lib.ListN.{length}
use Rattle.paths.proofs.PathLaws.{PathSeen}
use Rattle.paths.proofs.path.path_good.Given as goal

abbrev pub invariant-loop-at : goal.invariant-loop-at
invariant-loop-at l = PathSeen l.path l.at

abbrev pub decreases-loop-at : goal.decreases-loop-at
decreases-loop-at l = length l.path - l.at
