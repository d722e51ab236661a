-- `merge`: what is left of the two runs is to be merged.
use Prim.Native.Nat.{◌-◌, ◌+◌}
use lib.ListN.{length}
use Rattle.ranking.proofs.MergeLaws.{MergeSeen}
use Rattle.ranking.proofs.sorting.merge.Given as goal

abbrev pub invariant-loop-i : goal.invariant-loop-i
invariant-loop-i l = MergeSeen l.dictionary.names l.first l.second l.out l.i l.j

abbrev pub decreases-loop-i : goal.decreases-loop-i
decreases-loop-i l = length l.first + length l.second - (l.i + l.j)
