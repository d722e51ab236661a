-- `nameless`: a field that is present, by what the table tells.
use Rattle.places.proofs.RuleLaws.{nowhere_told}
use Rattle.places.proofs.rules.nameless.Goals as goal

pub returns-then-present : goal.returns-then-present
returns-then-present c = nowhere_told _ c.if-present.true _ c.field_id.ensures _ c.is_none.ensures
