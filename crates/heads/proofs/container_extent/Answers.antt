-- `container_extent`: the count and the head are there, and the last offset is the head's last number.
use native.Mathlib.Omega.{arith}
use borrow.Author.Rules.{rules}
use Rattle.heads.proofs.ExtentLaws.{count_missing, last_inside, head_missing, head_told, count_below}
use Rattle.heads.proofs.container_extent.Goals as goal

pub returns-then-s-width : goal.returns-then-s-width
returns-then-s-width c = count_missing _ _ _ _ c.if-s-width.true

pub head_size-head-requires : goal.head_size-head-requires
head_size-head-requires c = (count_below c.read-count.ensures.1 (search rules), search rules, search rules, search rules)

pub returns-then-s-head : goal.returns-then-s-head
returns-then-s-head c = head_missing _ _ _ _ c.if-s-width.false c.read-count.ensures.0 c.head_size-head.ensures.0 c.if-s-head.true

pub overflow_sub-head : goal.overflow_sub-head
overflow_sub-head c = last_inside _ _ _ _ c.if-s-width.false c.read-count.ensures.0 c.head_size-head.ensures.0

pub read-last-requires : goal.read-last-requires
read-last-requires c = let inside =
    last_inside _ _ _ _ c.if-s-width.false c.read-count.ensures.0 c.head_size-head.ensures.0 in
    (omega arith, search rules, search rules)

pub overflow_add-result : goal.overflow_add-result
overflow_add-result c = record { fits = omega (arith, count_below c.read-last.ensures.1 c.requires.4) }

pub returns : goal.returns
returns c = head_told _ _ _ _ c.if-s-width.false c.read-count.ensures.0 c.head_size-head.ensures.0 c.if-s-head.false c.read-last.ensures.0
