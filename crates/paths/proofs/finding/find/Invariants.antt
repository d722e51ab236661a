-- `find`: what is left of the path, from the current value, leads where the whole does.
use Prim.Native.Nat.{◌-◌}
use lib.ListN.{length}
use Rattle.paths.proofs.FindLaws.{FindSeen}
use Rattle.paths.proofs.finding.find.Given as goal

abbrev pub invariant-loop-at : goal.invariant-loop-at
invariant-loop-at l = FindSeen l.dictionary.names l.value l.path l.start l.end l.at

abbrev pub decreases-loop-at : goal.decreases-loop-at
decreases-loop-at l = length l.path - l.at
