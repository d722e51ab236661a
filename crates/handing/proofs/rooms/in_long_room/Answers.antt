-- `in_long_room`: a place that has no room in it makes a row that is too large.
use mathlib.Core.Path.{refl}
use native.Mathlib.Omega.{arith}
use Rattle.handing.proofs.RoomLaws.{value_short, tried_or}
use Rattle.handing.proofs.rooms.in_long_room.Goals as goal

pub write_out-tried-requires : goal.write_out-tried-requires
write_out-tried-requires c = let pre = c.requires in (pre.0, pre.1, pre.2, omega arith)

pub returns : goal.returns
returns c = λ ready. rw c.unwrap_or.ensures (tried_or (c.write_out-tried.ensures ready) (value_short ready) refl)
