-- `is_name`: bytes are the same where none comes before the other.
use mathlib.Core.Path.{◌∙◌}
use Rattle.paths.proofs.PositionLaws.{same_told}
use Rattle.paths.proofs.places.is_name.Goals as goal

pub returns : goal.returns
returns c = c.is_eq.ensures ∙ same_told _ _ _ c.name.ensures _ c.compare.ensures
