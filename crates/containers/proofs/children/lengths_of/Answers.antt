use native.Mathlib.Omega.{arith}
use borrow.Author.Rules.{rules}
use Rattle.containers.proofs.LengthLaws.{lengths_start, lengths_lost, lengths_end_fits, lengths_sum_fits, lengths_next, lengths_tiled, lengths_scattered}
use Rattle.containers.proofs.children.lengths_of.Goals as goal

pub loop-i-init : goal.loop-i-init
loop-i-init c = lengths_start _ _

pub returns-in_err-size : goal.returns-in_err-size
returns-in_err-size c = rw c.from_residual.ensures (lengths_lost c.loop-i.invariant (omega arith) _ c.get-start.ensures.0 _ c.child_extent.ensures c.in_err-size.was)

pub overflow_add-from : goal.overflow_add-from
overflow_add-from c = search (rules, lengths_end_fits)

pub overflow_add-sum : goal.overflow_add-sum
overflow_add-sum c = search (rules, lengths_sum_fits)

pub loop-i-preserved : goal.loop-i-preserved
loop-i-preserved c =
    lengths_next c.loop-i.invariant (omega arith) _ c.get-start.ensures.0 c.requires.1 _ c.child_extent.ensures _ c.in_ok-size.was _ c.follows-in_order.ensures

pub returns-then-follows : goal.returns-then-follows
returns-then-follows c = search (rules, lengths_tiled)

pub returns : goal.returns
returns c = search (rules, lengths_scattered)
