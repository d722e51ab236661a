-- `in_short_room`: tables as long as the place may be, and a floor at twice that. A long one is tried in no room.
use Rattle.rebuild.proofs.RoomLaws.{untried}
use Rattle.rebuild.proofs.rooms.in_short_room.Goals as goal

pub returns-in_default : goal.returns-in_default
returns-in_default c = untried
