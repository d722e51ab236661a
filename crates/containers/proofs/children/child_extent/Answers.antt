-- `child_extent`: past the area, without a length, past the end, or there.
use native.Mathlib.Omega.{arith}
use borrow.Author.Rules.{rules}
use Rattle.containers.proofs.LengthLaws.{child_past, child_unknown, child_passes, child_known}
use Rattle.containers.proofs.children.child_extent.Goals as goal

pub returns-then-area-start : goal.returns-then-area-start
returns-then-area-start c = search (rules, child_past)

pub returns-in_err-size : goal.returns-in_err-size
returns-in_err-size c = rw c.from_residual.ensures (child_unknown _ _ _ c.extent_of.ensures c.in_err-size.was)

pub returns-then-area-start-2 : goal.returns-then-area-start-2
returns-then-area-start-2 c = child_passes _ _ _ c.extent_of.ensures _ c.in_ok-size.was (omega arith) (omega arith)

pub returns : goal.returns
returns c = child_known _ _ _ c.extent_of.ensures _ c.in_ok-size.was (omega arith) (omega arith)
