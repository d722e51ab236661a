-- `unsigned`: the machine's own two's complement is that of 01.
use mathlib.Core.Path.{ap, ◌∙◌}
use mir.Facts.{to_z-of_z}
use mir.Syntax.{w64}
use mir.Val.{of_z}
use Rattle.signed.proofs.SignedLaws.{held_by_eight}
use Rattle.signed.proofs.unsigned.Goals as goal

pub returns : goal.returns
returns c = c.cast_unsigned.ensures ∙ ap (of_z w64) (to_z-of_z c.ranges.z) ∙ held_by_eight _ c.ranges.z
