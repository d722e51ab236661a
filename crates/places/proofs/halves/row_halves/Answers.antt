-- `row_halves`: by the first frame's end.
use mathlib.Core.Path.{◌∙◌}
use Rattle.places.proofs.HalfLaws.{halves_none, halves_cut, half_ends, halves_one}
use Rattle.places.proofs.halves.row_halves.Goals as goal

pub returns-then-row-eq0 : goal.returns-then-row-eq0
returns-then-row-eq0 c = search halves_none

pub returns-in_err-middle : goal.returns-in_err-middle
returns-in_err-middle c = c.from_residual.ensures ∙ halves_cut _ c.if-row-eq0.false _ c.frame_at.ensures c.in_err-middle.was

pub returns-then-row-middle : goal.returns-then-row-middle
returns-then-row-middle c = halves_one _ c.if-row-eq0.false _ c.frame_at.ensures _ c.in_ok-middle.was c.if-row-middle.true

pub second_half-requires : goal.second_half-requires
second_half-requires c = (half_ends _ c.if-row-eq0.false _ c.frame_at.ensures _ c.in_ok-middle.was, c.if-row-middle.false)
