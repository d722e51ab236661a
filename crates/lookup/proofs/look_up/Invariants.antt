-- `look_up`: names in front of `low` come before the name, names from `high` on come after it.
use Prim.Native.Nat.{◌-◌}
use Rattle.lookup.proofs.HalvingLaws.{LookSeen}
use Rattle.lookup.proofs.OrderedLaws.{names_in_order}
use Rattle.lookup.proofs.look_up.Given as goal

abbrev pub invariant-loop-low : goal.invariant-loop-low
invariant-loop-low l = LookSeen (names_in_order l.dictionary l.order) l.name l.low l.high

abbrev pub decreases-loop-low : goal.decreases-loop-low
decreases-loop-low l = l.high - l.low
