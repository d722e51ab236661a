-- `into_field`: by the reading of the first byte, then what is found in the area.
use Rattle.paths.proofs.LawfulLaws.{lawful_some, object_asks}
use Rattle.paths.proofs.PartLaws.{field_asks, field_none, field_part, field_some}
use Rattle.paths.proofs.StepLaws.{no_object}
use Rattle.paths.proofs.finding.into_field.Goals as goal

pub bounds-s-0 : goal.bounds-s-0
bounds-s-0 c = lawful_some c.requires

pub returns-in_default : goal.returns-in_default
returns-in_default c = no_object _ _ c.args.s.now _ c.reading.ensures c.in_default.not-ObjectHead

pub object-object-requires : goal.object-object-requires
object-object-requires c = object_asks c.requires _ c.reading.ensures _ _ _ c.in-ObjectHead.is

pub field_at-requires : goal.field_at-requires
field_at-requires c = field_asks c.requires c.reading.ensures c.in-ObjectHead.is c.object-object.ensures.ids c.object-object.ensures.starts c.object-object.ensures.area

pub returns-in_err-field : goal.returns-in_err-field
returns-in_err-field c = rw c.from_residual.ensures (field_none c.requires c.reading.ensures c.in-ObjectHead.is c.object-object.ensures.ids c.object-object.ensures.starts c.object-object.ensures.area _ _ c.field_at.ensures c.in_err-field.was)

pub part_of-requires : goal.part_of-requires
part_of-requires c = field_part c.requires c.reading.ensures c.in-ObjectHead.is c.object-object.ensures.ids c.object-object.ensures.starts c.object-object.ensures.area _ _ c.field_at.ensures _ c.in_ok-field.was

pub returns : goal.returns
returns c = field_some c.requires c.reading.ensures c.in-ObjectHead.is c.object-object.ensures.ids c.object-object.ensures.starts c.object-object.ensures.area _ _ c.field_at.ensures _ c.in_ok-field.was _ c.part_of.ensures
