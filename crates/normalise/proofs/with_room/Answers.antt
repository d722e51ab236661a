-- `with_room`: the room is at least twice as long as the value.
use native.Mathlib.Omega.{arith}
use Rattle.normalise.proofs.with_room.Goals as goal

pub in_room-requires-2 : goal.in_room-requires-2
in_room-requires-2 c = let pre = c.requires in (pre.0, omega (arith, pre.1), omega arith)
