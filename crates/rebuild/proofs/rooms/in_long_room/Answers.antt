-- `in_long_room`: what has no room above the floor is too large.
use native.Mathlib.Omega.{arith}
use Rattle.rebuild.proofs.RoomLaws.{place_short, long_enough, tried_last}
use Rattle.rebuild.proofs.rooms.in_long_room.Goals as goal

pub in_room-tried-requires : goal.in_room-tried-requires
in_room-tried-requires g c = let pre = c.requires in
    (pre.0, long_enough {floor = 32768} (place_short pre.0) pre.1 pre.1 (omega arith), omega arith, omega arith, pre.2)

pub returns : goal.returns
returns g c = rw c.unwrap_or.ensures (tried_last c.in_room-tried.ensures (omega arith))
