-- `merge`: what is left of the ids and of the fields decides; each turn passes one of them.
use Prim.Native.Nat.{◌+◌, ◌-◌}
use lib.ListN.{length}
use Rattle.clashes.proofs.MergeLaws.{MergeSeen}
use Rattle.clashes.proofs.merging.merge.Given as goal

abbrev pub invariant-loop-i : goal.invariant-loop-i
invariant-loop-i l = MergeSeen l.dictionary.names l.ids l.schema l.from l.to l.field l.i

abbrev pub decreases-loop-i : goal.decreases-loop-i
decreases-loop-i l = (length l.ids - l.i) + (l.to - l.field)
