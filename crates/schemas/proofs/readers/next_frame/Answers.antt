-- `next_frame`: by the tag, which says what is passed over.
use mathlib.Core.Path.{◌∙◌}
use native.Mathlib.Omega.{arith}
use borrow.Author.Rules.{rules}
use Rattle.schemas.proofs.WalkLaws.{next_forward, next_field, next_column, next_other}
use Rattle.schemas.proofs.readers.next_frame.Goals as goal

pub bounds-schema-place : goal.bounds-schema-place
bounds-schema-place c = omega (arith, next_forward c.args.schema.now c.args.place)

pub field_node-requires : goal.field_node-requires
field_node-requires c = omega (arith, next_field c.args.schema.now c.args.place c.in-49.is)

pub returns-in-49 : goal.returns-in-49
returns-in-49 c = c.field_node.ensures ∙ next_field _ _ c.in-49.is

pub overflow_add-result : goal.overflow_add-result
overflow_add-result c = let ahead = next_forward c.args.schema.now c.args.place in search rules

pub returns-in-16 : goal.returns-in-16
returns-in-16 c = next_column c.args.schema.now c.args.place (λ e. omega arith) c.in-16.is

pub overflow_add-result-in_default : goal.overflow_add-result-in_default
overflow_add-result-in_default c = let ahead = next_forward c.args.schema.now c.args.place in search rules

pub returns-in_default : goal.returns-in_default
returns-in_default c = next_other c.args.schema.now c.args.place (λ e. omega arith) (λ e. omega arith)
