-- `admit`: the lengths, then the schema.
use mathlib.Core.Path.{sym, ◌∙◌}
use Rattle.register.proofs.RowAnswers.{too_long, schema_bad}
use Rattle.register.proofs.admit.Goals as goal

pub returns-then-schema-gt-MOST_SCHEMA : goal.returns-then-schema-gt-MOST_SCHEMA
returns-then-schema-gt-MOST_SCHEMA c = too_long _ _ c.then-schema-gt-MOST_SCHEMA.either

pub returns-then-not-good : goal.returns-then-not-good
returns-then-not-good c = schema_bad _ _ c.if-schema-gt-MOST_SCHEMA.false c.if-row-gt-MOST_ROW.false _ c.good.ensures c.if-not-good.true

pub returns : goal.returns
returns c = (sym c.good.ensures ∙ c.if-not-good.false, c.if-schema-gt-MOST_SCHEMA.false, c.if-row-gt-MOST_ROW.false)
