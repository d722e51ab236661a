-- `with_room`: where the lent room does not suffice nothing has been touched, so the long room answers.
use borrow.Author.Rules.{rules}
use Rattle.handing.proofs.RoomLaws.{value_short, tried_told, tried_large, tried_again}
use Rattle.handing.proofs.rooms.with_room.Goals as goal

pub returns-then-room-eq-MOST_ROW : goal.returns-then-room-eq-MOST_ROW
returns-then-room-eq-MOST_ROW c = λ ready. tried_large (c.write_out-tried.ensures ready) c.in_default.is (value_short ready) (search rules)

pub returns-in-Some : goal.returns-in-Some
returns-in-Some c = λ ready. tried_told (c.write_out-tried.ensures ready) c.in-Some.is

pub returns : goal.returns
returns c = λ ready. tried_again (c.write_out-tried.ensures ready) c.in_default.is (c.in_long_room.ensures ready)
