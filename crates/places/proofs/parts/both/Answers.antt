-- `both`: by the second frame's tag and its end.
use Rattle.places.proofs.PartLaws.{parts_second, second_cut, third_follows, both_there}
use Rattle.places.proofs.parts.both.Goals as goal

pub returns-then-body-end-ne66 : goal.returns-then-body-end-ne66
returns-then-body-end-ne66 c = search parts_second

pub returns-in_default : goal.returns-in_default
returns-in_default c = search second_cut

pub returns-then-last-body : goal.returns-then-last-body
returns-then-last-body c = search third_follows

pub returns : goal.returns
returns c = search both_there
