-- `mark_field`: no bytes, no mark; else the id that the table tells.
use mathlib.Core.Path.{sym, ◌∙◌}
use Rattle.gathering.proofs.PresentLaws.{field_absent, field_marked, field_nowhere}
use Rattle.gathering.proofs.present.mark_field.Goals as goal

pub returns-then-is_empty : goal.returns-then-is_empty
returns-then-is_empty c = field_absent _ _ _ c.if-is_empty.ensures

pub mark_id-requires : goal.mark_id-requires
mark_id-requires c = c.requires.1 _ (sym c.field_id.ensures ∙ c.in-Some.is)

pub returns-in-Some : goal.returns-in-Some
returns-in-Some c = c.mark_id.ensures ∙ field_marked _ _ _ c.if-is_empty.ensures (sym c.field_id.ensures ∙ c.in-Some.is)

pub returns-in_default : goal.returns-in_default
returns-in_default c = field_nowhere _ _ (sym c.field_id.ensures ∙ c.in_default.is)
