-- `lawful_value`: where the quick look says yes the walk would.
use mathlib.Core.Path.{sym, ◌∙◌}
use Rattle.documents.proofs.lawful_value.Goals as goal

pub returns-then-plainly_lawful : goal.returns-then-plainly_lawful
returns-then-plainly_lawful c = c.if-plainly_lawful.true ∙ sym (c.plainly_lawful.ensures c.if-plainly_lawful.true _)
