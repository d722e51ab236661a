-- `with_room`: where no short room suffices nothing has been touched, so the long room answers.
use native.Mathlib.Omega.{arith}
use Rattle.rebuild.proofs.RoomLaws.{place_short, tried_told, tried_again}
use Rattle.rebuild.proofs.rooms.with_room.Goals as goal

pub returns-in-Some : goal.returns-in-Some
returns-in-Some c = tried_told c.in_short_room.ensures.was c.in-Some.is

pub in_long_room-requires-2 : goal.in_long_room-requires-2
in_long_room-requires-2 c = let short = place_short c.requires in (c.requires, omega (arith, short), omega arith)

pub returns : goal.returns
returns c = tried_again c.in_short_room.ensures.was c.in_default.is c.in_long_room-2.ensures
