-- `into_element`: by the reading of the first byte, then what is found in the area.
use Rattle.paths.proofs.LawfulLaws.{lawful_some, array_asks}
use Rattle.paths.proofs.PartLaws.{element_asks, element_none, element_part, element_some}
use Rattle.paths.proofs.StepLaws.{no_array}
use Rattle.paths.proofs.finding.into_element.Goals as goal

pub bounds-s-0 : goal.bounds-s-0
bounds-s-0 c = lawful_some c.requires.1

pub returns-in_default : goal.returns-in_default
returns-in_default c = no_array _ c.args.s.now _ c.reading.ensures c.in_default.not-ArrayHead

pub array-array-requires : goal.array-array-requires
array-array-requires c = array_asks c.requires.1 _ c.reading.ensures _ _ c.in-ArrayHead.is

pub element_at-requires : goal.element_at-requires
element_at-requires c = element_asks c.requires.1 c.reading.ensures c.in-ArrayHead.is c.array-array.ensures.starts c.array-array.ensures.area

pub returns-in_err-element : goal.returns-in_err-element
returns-in_err-element c = rw c.from_residual.ensures (element_none c.requires.1 c.reading.ensures c.in-ArrayHead.is c.array-array.ensures.starts c.array-array.ensures.area _ _ c.element_at.ensures c.in_err-element.was)

pub part_of-requires : goal.part_of-requires
part_of-requires c = element_part c.requires.1 c.reading.ensures c.in-ArrayHead.is c.array-array.ensures.starts c.array-array.ensures.area _ _ c.element_at.ensures _ c.in_ok-element.was

pub returns : goal.returns
returns c = element_some c.requires.1 c.reading.ensures c.in-ArrayHead.is c.array-array.ensures.starts c.array-array.ensures.area _ _ c.element_at.ensures _ c.in_ok-element.was _ c.part_of.ensures
