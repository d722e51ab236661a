-- `side_in`: where the name leads, and the double that is there.
use native.Mathlib.Omega.{arith}
use Rattle.boxes.proofs.SideLaws.{field_asks, no_side, side_fits, side_in_area, side_whole, side_read}
use Rattle.boxes.proofs.side_in.Goals as goal

pub field_at-requires : goal.field_at-requires
field_at-requires c = field_asks c.requires

pub returns-in_err-field : goal.returns-in_err-field
returns-in_err-field c = rw c.from_residual.ensures (no_side c.requires _ _ c.field_at.ensures c.in_err-field.was)

pub overflow_add-end : goal.overflow_add-end
overflow_add-end c = side_fits c.requires _ _ c.field_at.ensures _ c.in_ok-field.was (omega arith)

pub slice_bounds-double_in-end : goal.slice_bounds-double_in-end
slice_bounds-double_in-end c = side_in_area c.requires _ _ c.field_at.ensures _ c.in_ok-field.was

pub double_in-requires : goal.double_in-requires
double_in-requires c = side_whole c.requires _ _ c.field_at.ensures _ c.in_ok-field.was

pub returns : goal.returns
returns c = side_read c.requires _ _ c.field_at.ensures _ c.in_ok-field.was _ c.double_in.ensures
