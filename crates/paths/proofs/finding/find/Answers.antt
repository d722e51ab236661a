use native.Mathlib.Omega.{arith}
use borrow.Author.Rules.{rules}
use Rattle.paths.proofs.FindLaws.{find_start, never_cut, next_in, step_asks, find_lost, start_fits, end_fits, find_next, find_done}
use Rattle.paths.proofs.finding.find.Goals as goal

pub loop-at-init : goal.loop-at-init
loop-at-init c = search (rules, find_start)

-- A path that keeps its rules is framed, ..
pub returns-in_err-next : goal.returns-in_err-next
returns-in_err-next c = absurd (never_cut c.loop-at.invariant c.loop-at-test.true c.frame_at.ensures c.in_err-next.was)

pub slice_bounds-step_into-count-in-loop-at : goal.slice_bounds-step_into-count-in-loop-at
slice_bounds-step_into-count-in-loop-at c = let inside = next_in c.loop-at.invariant c.loop-at-test.true c.frame_at.ensures _ c.in_ok-next.was in search rules

pub slice_bounds-step_into-start-in-loop-at : goal.slice_bounds-step_into-start-in-loop-at
slice_bounds-step_into-start-in-loop-at c = let inside = next_in c.loop-at.invariant c.loop-at-test.true c.frame_at.ensures _ c.in_ok-next.was in search rules

pub slice_bounds-step_into-end-in-loop-at : goal.slice_bounds-step_into-end-in-loop-at
slice_bounds-step_into-end-in-loop-at c = let inside = next_in c.loop-at.invariant c.loop-at-test.true c.frame_at.ensures _ c.in_ok-next.was in search rules

-- .. and each piece leads into a part, or nowhere.
pub step_into-requires : goal.step_into-requires
step_into-requires c = step_asks c.loop-at.invariant c.loop-at-test.true c.frame_at.ensures _ c.in_ok-next.was

pub returns-in_err-child : goal.returns-in_err-child
returns-in_err-child c = rw c.from_residual-in_err-child.ensures (find_lost c.loop-at.invariant c.loop-at-test.true c.frame_at.ensures _ c.in_ok-next.was _ c.step_into.ensures c.in_err-child.was)

pub overflow_add-start : goal.overflow_add-start
overflow_add-start c = start_fits c.loop-at.invariant c.loop-at-test.true c.frame_at.ensures _ c.in_ok-next.was _ c.step_into.ensures _ c.in_ok-child.was

pub overflow_add-end : goal.overflow_add-end
overflow_add-end c = end_fits c.loop-at.invariant c.loop-at-test.true c.frame_at.ensures _ c.in_ok-next.was _ c.step_into.ensures _ c.in_ok-child.was

pub loop-at-smaller : goal.loop-at-smaller
loop-at-smaller c = let inside = next_in c.loop-at.invariant c.loop-at-test.true c.frame_at.ensures _ c.in_ok-next.was in omega arith

pub loop-at-preserved : goal.loop-at-preserved
loop-at-preserved c = find_next c.loop-at.invariant c.loop-at-test.true c.frame_at.ensures _ c.in_ok-next.was _ c.step_into.ensures _ c.in_ok-child.was

pub returns : goal.returns
returns c = search (rules, find_done)
