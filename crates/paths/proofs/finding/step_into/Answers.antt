-- `step_into`: by the tag.
use Rattle.paths.proofs.StepLaws.{step-by_name, index_asks, step-by_index}
use Rattle.paths.proofs.finding.step_into.Goals as goal

pub returns-then-tag-eq96 : goal.returns-then-tag-eq96
returns-then-tag-eq96 c = step-by_name _ _ _ _ _ c.if-tag-eq96.true c.into_field.ensures

pub read-requires : goal.read-requires
read-requires c = index_asks _ _ c.if-tag-eq96.false c.requires.1

pub into_element-requires : goal.into_element-requires
into_element-requires c = (_, c.requires.0)

pub returns : goal.returns
returns c = step-by_index _ _ c.if-tag-eq96.false c.requires.1 _ _ _ _ c.read.ensures.0 c.into_element.ensures
