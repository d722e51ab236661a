-- `offsets_good`: up to the place reached the offsets do not fall, and the last one read stands there.
use Prim.Native.Nat.{◌≤◌}
use lib.ListN.{length}
use Rattle.dictionary.proofs.WalkLaws.{Walk}
use Rattle.dictionary.proofs.offsets_good.Given as goal

abbrev pub invariant-loop-i : goal.invariant-loop-i
invariant-loop-i l = (1 ≤ l.i) × (l.i ≤ length l.offsets) × Walk l.offsets l.last l.i
