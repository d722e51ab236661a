-- `lot_box`: only an object has a box, that of its fields.
use Rattle.boxes.proofs.DoubleLaws.{no_object}
use Rattle.boxes.proofs.SideLaws.{lawful_some, object_asks, lawful_object, object_box}
use Rattle.boxes.proofs.lot_box.Goals as goal

pub bounds-value-0 : goal.bounds-value-0
bounds-value-0 c = lawful_some c.requires

pub returns-in_default : goal.returns-in_default
returns-in_default c = no_object _ c.reading.ensures c.in_default.not-ObjectHead _ _

pub object-object-requires : goal.object-object-requires
object-object-requires c = object_asks c.requires c.reading.ensures c.in-ObjectHead.is

pub box_in-requires : goal.box_in-requires
box_in-requires c = lawful_object c.requires c.reading.ensures c.in-ObjectHead.is c.object-object.ensures.ids c.object-object.ensures.starts c.object-object.ensures.area

pub returns : goal.returns
returns c =
    object_box c.requires c.reading.ensures c.in-ObjectHead.is c.object-object.ensures.ids c.object-object.ensures.starts c.object-object.ensures.area _
    c.box_in.ensures
