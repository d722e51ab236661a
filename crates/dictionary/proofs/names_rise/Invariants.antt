-- `names_rise`: up to the place reached the names rise, and the offsets of the name there are the last two read.
use Prim.Native.Nat.{◌≤◌}
use lib.ListN.{length}
use Rattle.dictionary.proofs.WalkLaws.{Rise}
use Rattle.dictionary.proofs.names_rise.Given as goal

abbrev pub invariant-loop-i : goal.invariant-loop-i
invariant-loop-i l = (2 ≤ l.i) × (l.i ≤ length l.offsets) × Rise l.offsets l.area l.from l.to l.i
