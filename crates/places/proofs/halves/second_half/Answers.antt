-- `second_half`: by the second frame's end.
use mathlib.Core.Path.{◌∙◌}
use Rattle.places.proofs.HalfLaws.{second_half_cut, third_half, both_halves}
use Rattle.places.proofs.halves.second_half.Goals as goal

pub returns-in_err-last : goal.returns-in_err-last
returns-in_err-last c = c.from_residual.ensures ∙ second_half_cut _ _ c.requires.0 c.requires.1 _ c.frame_at.ensures c.in_err-last.was

pub returns-then-last-row : goal.returns-then-last-row
returns-then-last-row c = third_half _ _ c.requires.0 c.requires.1 _ c.frame_at.ensures _ c.in_ok-last.was c.if-last-row.true

pub returns : goal.returns
returns c = both_halves _ _ c.requires.0 c.requires.1 _ c.frame_at.ensures _ c.in_ok-last.was c.if-last-row.false
