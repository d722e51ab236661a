-- `element_at`: its start is read where it stands, and its length from there.
use native.Mathlib.Omega.{arith}
use Rattle.paths.proofs.PlaceLaws.{child_past, child_lost, child_found}
use Rattle.paths.proofs.places.element_at.Goals as goal

pub returns-then-len-index : goal.returns-then-len-index
returns-then-len-index c = child_past _ _ c.requires _ (omega arith)

pub returns-in_err-size : goal.returns-in_err-size
returns-in_err-size c =
    rw c.from_residual.ensures (child_lost _ _ c.requires _ (omega arith) _ c.get-start.ensures.0 _ c.child_extent.ensures c.in_err-size.was)

pub returns : goal.returns
returns c = child_found _ _ c.requires _ (omega arith) _ c.get-start.ensures.0 _ c.child_extent.ensures _ c.in_ok-size.was
