-- `field_at`: the child of a name is the one of the name's position among the ids.
use Rattle.paths.proofs.PlaceLaws.{field_is}
use Rattle.paths.proofs.places.field_at.Goals as goal

pub returns : goal.returns
returns c = field_is _ _ _ _ _ c.requires.2 _ c.position_of.ensures _ c.element_at.ensures
