use mathlib.Core.Path.{refl}
use native.Mathlib.Omega.{arith}
use borrow.Author.Rules.{rules}
use Rattle.marking.proofs.ChildLaws.{child_begins, child_plain, child_lost, child_asks, child_marked}
use Rattle.marking.proofs.InsideLaws.{inside_start, next_asks, inside_next, inside_done}
use Rattle.marking.proofs.ValueLaws.{some_level, value_begins, plain_marked, array_holds, array_asks, array_marked, object_holds, run_asks, object_asks, object_marked}
use Rattle.containers.proofs.OwnLaws.{child_end, child_in}
use Rattle.marking.proofs.+child_children_mark.Goals as goal

pub child-bounds-area-start : goal.child-bounds-area-start
child-bounds-area-start t c = search (rules, child_begins)

pub child-returns-then-area-start-lt2 : goal.child-returns-then-area-start-lt2
child-returns-then-area-start-lt2 t c = search (rules, child_plain)

pub child-returns-in_default : goal.child-returns-in_default
child-returns-in_default t c = search (rules, child_lost)

pub child-overflow_add-end : goal.child-overflow_add-end
child-overflow_add-end t c = search (rules, child_end)

pub child-slice_bounds-mark-end : goal.child-slice_bounds-mark-end
child-slice_bounds-mark-end t c = search (rules, child_in)

pub child-mark-requires : goal.child-mark-requires
child-mark-requires t c = let asks = child_asks c.requires _ c.child_extent.ensures _ c.in-Some.is in
    (omega (arith, c.decreases), asks)

pub child-returns : goal.child-returns
child-returns t c = search (rules, child_marked)

pub children-loop-i-init : goal.children-loop-i-init
children-loop-i-init t c = search (rules, inside_start)

pub children-child-requires : goal.children-child-requires
children-child-requires t c =
    (omega (arith, c.decreases), next_asks c.loop-i.invariant (omega arith) _ c.get-start.ensures.0 c.args.container.now.small)

pub children-loop-i-preserved : goal.children-loop-i-preserved
children-loop-i-preserved t c = inside_next c.loop-i.invariant (omega arith) _ c.get-start.ensures.0 _ c.child.ensures

pub children-returns : goal.children-returns
children-returns t c = inside_done c.loop-i.invariant (omega arith)

pub mark-bounds-s-0 : goal.mark-bounds-s-0
mark-bounds-s-0 t c = search (rules, value_begins)

pub mark-object-object-requires : goal.mark-object-object-requires
mark-object-object-requires t c = object_holds c.requires _ c.in-ObjectHead.ensures _ _ _ refl

pub mark-mark_run-requires : goal.mark-mark_run-requires
mark-mark_run-requires t c = run_asks c.requires _ c.in-ObjectHead.ensures _ _ _ refl c.object-object.ensures.ids

pub mark-overflow_sub-levels : goal.mark-overflow_sub-levels
mark-overflow_sub-levels t c = search (rules, some_level)

pub mark-children-requires : goal.mark-children-requires
mark-children-requires t c = let left = some_level c.requires in
    let object = c.object-object.ensures in
    let asks = object_asks c.requires _ c.in-ObjectHead.ensures _ _ _ refl object.ids object.starts object.area _ _ c.mark_run.ensures refl in
    (omega (arith, c.decreases), asks)

pub mark-array-array-requires : goal.mark-array-array-requires
mark-array-array-requires t c = array_holds c.requires _ c.in-ArrayHead.ensures _ _ refl

pub mark-overflow_sub-levels-in-ArrayHead : goal.mark-overflow_sub-levels-in-ArrayHead
mark-overflow_sub-levels-in-ArrayHead t c = search (rules, some_level)

pub mark-children-requires-in-ArrayHead : goal.mark-children-requires-in-ArrayHead
mark-children-requires-in-ArrayHead t c = let left = some_level c.requires in
    let array = c.array-array.ensures in
    let asks = array_asks c.requires _ c.in-ArrayHead.ensures _ _ refl array.starts array.area in
    (omega (arith, c.decreases), asks)

pub mark-returns-in-ObjectHead : goal.mark-returns-in-ObjectHead
mark-returns-in-ObjectHead t c = let object = c.object-object.ensures in
    object_marked c.requires _ c.in-ObjectHead.ensures _ _ _ refl object.ids object.starts object.area _ _ c.mark_run.ensures _ c.children.ensures

pub mark-returns-in-ArrayHead : goal.mark-returns-in-ArrayHead
mark-returns-in-ArrayHead t c = let array = c.array-array.ensures in
    array_marked c.requires _ c.in-ArrayHead.ensures _ _ refl array.starts array.area _ _ c.children-in-ArrayHead.ensures

pub mark-returns-in_default : goal.mark-returns-in_default
mark-returns-in_default t c = plain_marked c.requires _ c.of.ensures c.in_default.not-ObjectHead c.in_default.not-ArrayHead _
