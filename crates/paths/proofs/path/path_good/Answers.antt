use native.Mathlib.Omega.{arith}
use borrow.Author.Rules.{rules}
use Rattle.paths.proofs.PathLaws.{path_start, path_past, piece_inside, path_bad, path_next, path_done}
use Rattle.paths.proofs.path.path_good.Goals as goal

pub loop-at-init : goal.loop-at-init
loop-at-init c = path_start _

pub returns-in_default : goal.returns-in_default
returns-in_default c = path_past c.loop-at.invariant c.loop-at-test.true c.frame_at.ensures c.in_default.is

pub slice_bounds-step_good-count : goal.slice_bounds-step_good-count
slice_bounds-step_good-count c = let inside = piece_inside c.loop-at.invariant c.loop-at-test.true c.frame_at.ensures c.in-Some.is in search rules

pub slice_bounds-step_good-start : goal.slice_bounds-step_good-start
slice_bounds-step_good-start c = let inside = piece_inside c.loop-at.invariant c.loop-at-test.true c.frame_at.ensures c.in-Some.is in search rules

pub slice_bounds-step_good-end : goal.slice_bounds-step_good-end
slice_bounds-step_good-end c = let inside = piece_inside c.loop-at.invariant c.loop-at-test.true c.frame_at.ensures c.in-Some.is in search rules

pub returns-then-not-step_good : goal.returns-then-not-step_good
returns-then-not-step_good c =
    path_bad c.loop-at.invariant c.loop-at-test.true c.frame_at.ensures c.in-Some.is c.step_good.ensures c.if-not-step_good.true

pub loop-at-smaller : goal.loop-at-smaller
loop-at-smaller c = let inside = piece_inside c.loop-at.invariant c.loop-at-test.true c.frame_at.ensures c.in-Some.is in omega arith

pub loop-at-preserved : goal.loop-at-preserved
loop-at-preserved c =
    path_next c.loop-at.invariant c.loop-at-test.true c.frame_at.ensures c.in-Some.is c.step_good.ensures c.if-not-step_good.false

pub returns : goal.returns
returns c = path_done c.loop-at.invariant c.loop-at-test.false
