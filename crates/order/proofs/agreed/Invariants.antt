-- `agreed`: a turn passes eight bytes that make the same number in both strings, and so are the same bytes.
use Prim.Native.Nat.{◌*◌}
use Rattle.order.specs.Agreed.{Agreed}
use Rattle.order.proofs.agreed.Given as goal

abbrev pub invariant-loop-turn : goal.invariant-loop-turn
invariant-loop-turn l = Agreed l.a l.b (8 * l.turn)
