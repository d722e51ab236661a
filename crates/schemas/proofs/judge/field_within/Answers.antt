-- `field_within`: the field's frame, and in it the name's.
use borrow.Author.Rules.{rules}
use Rattle.schemas.proofs.FieldFrameLaws.{field_not, field_frame, field_body, field_is}
use Rattle.schemas.proofs.judge.field_within.Goals as goal

pub returns-else-tagged_within : goal.returns-else-tagged_within
returns-else-tagged_within c = field_not _ _ _ _ c.tagged_within.ensures c.if-tagged_within.false

pub frame_end-requires : goal.frame_end-requires
frame_end-requires c = field_frame _ _ _ _ c.tagged_within.ensures c.if-tagged_within.true c.requires.1

pub tagged_within-requires-then-tagged_within : goal.tagged_within-requires-then-tagged_within
tagged_within-requires-then-tagged_within c = search (rules, field_body)

pub returns-then-tagged_within : goal.returns-then-tagged_within
returns-then-tagged_within c = field_is _ _ _ _ c.tagged_within.ensures c.if-tagged_within.true _ c.frame_end.ensures _ c.tagged_within-then-tagged_within.ensures
