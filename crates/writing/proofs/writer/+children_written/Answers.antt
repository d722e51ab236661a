use mathlib.Core.Path.{refl}
use native.Mathlib.Omega.{arith}
use borrow.Author.Rules.{rules}
use Rattle.containers.proofs.OwnLaws.{child_end, child_in}
use Rattle.writing.proofs.ChildrenLaws.{children_start, child_lost, child_ready, children_next, children_done}
use Rattle.writing.proofs.WriterLaws.{level_some, first_there, fixed_fits, short_fits, prefixed_there, prefixed_fits, fixed_ends, short_ends, prefixed_ends, nothing_ends, array_there, array_few, array_holding, array_lying, array_within, array_room, array_ends, object_there, object_least, object_few, object_ranked, object_holding, object_lying, object_within, object_room, object_ends}
use Rattle.writing.proofs.writer.+children_written.Goals as goal

pub children-loop-i-init : goal.children-loop-i-init
children-loop-i-init t c = rw c.len-i.ensures (children_start _ _ _ _ _ _)

pub children-overflow_add-to : goal.children-overflow_add-to
children-overflow_add-to t c = child_end _ _ _ c.child_extent.ensures _ c.in-Some.is c.requires.small

pub children-slice_bounds-written-end : goal.children-slice_bounds-written-end
children-slice_bounds-written-end t c = child_in _ _ _ c.child_extent.ensures _ c.in-Some.is

pub children-written-start-requires : goal.children-written-start-requires
children-written-start-requires t c = let ready = child_ready c.loop-i.invariant c.requires _ (omega arith) _ c.get-child.ensures.0 _ c.child_extent.ensures _ c.in-Some.is refl in
    (omega (arith, c.decreases), ready)

pub children-loop-i-preserved : goal.children-loop-i-preserved
children-loop-i-preserved t c = children_next c.loop-i.invariant c.requires _ (omega arith) _ c.get-child.ensures.0 _ c.child_extent.ensures _ c.in-Some.is refl c.written-start.ensures

pub children-returns-in_default : goal.children-returns-in_default
children-returns-in_default t c = child_lost c.loop-i.invariant c.requires _ (omega arith) _ c.get-child.ensures.0 _ c.child_extent.ensures c.in_default.is

pub children-returns : goal.children-returns
children-returns t c = search (rules, children_done)

pub written-bounds-s-0 : goal.written-bounds-s-0
written-bounds-s-0 t c = search (rules, first_there)

pub written-copied-requires : goal.written-copied-requires
written-copied-requires t c = search (rules, fixed_fits)

pub written-prefixed-requires : goal.written-prefixed-requires
written-prefixed-requires t c = search (rules, prefixed_there, prefixed_fits)

pub written-copied-requires-in-Short : goal.written-copied-requires-in-Short
written-copied-requires-in-Short t c = search (rules, short_fits)

pub written-object-object-requires : goal.written-object-object-requires
written-object-object-requires t c =
    (object_there c.requires _ c.of.ensures _ _ _ c.in-ObjectHead.is, object_least c.requires _ c.of.ensures _ _ _ c.in-ObjectHead.is)

pub written-overflow_sub-levels : goal.written-overflow_sub-levels
written-overflow_sub-levels t c = search (rules, level_some)

pub written-children-start-requires : goal.written-children-start-requires
written-children-start-requires t c = let o = c.object-object.ensures in
    (omega (arith, c.decreases, level_some c.requires), object_holding c.requires _ c.of.ensures _ _ _ c.in-ObjectHead.is _ _ _ o.area o.starts o.ids)

pub written-object_head-requires-clause-room : goal.written-object_head-requires-clause-room
written-object_head-requires-clause-room t c = let is = c.of.ensures in
    let e = c.in-ObjectHead.is in
    let o = c.object-object.ensures in
    let ended = c.children-start.ensures in (
      object_lying c.requires _ is _ _ _ e _ _ _ o.area o.starts o.ids refl ended,
      object_few c.requires _ is _ _ _ e _ _ _ o.area o.starts o.ids,
      object_within c.requires _ is _ _ _ e _ _ _ o.area o.starts o.ids refl ended,
      object_room c.requires _ is _ _ _ e _ _ _ o.area o.starts o.ids refl ended,
    )

pub written-object_head-requires-clause-ranked : goal.written-object_head-requires-clause-ranked
written-object_head-requires-clause-ranked t c = let o = c.object-object.ensures in
    object_ranked c.requires _ c.of.ensures _ _ _ c.in-ObjectHead.is _ _ _ o.area o.starts o.ids

pub written-array-array-requires : goal.written-array-array-requires
written-array-array-requires t c = array_there c.requires _ c.of.ensures _ _ c.in-ArrayHead.is

pub written-overflow_sub-levels-in-ArrayHead : goal.written-overflow_sub-levels-in-ArrayHead
written-overflow_sub-levels-in-ArrayHead t c = search (rules, level_some)

pub written-children-start-requires-in-ArrayHead : goal.written-children-start-requires-in-ArrayHead
written-children-start-requires-in-ArrayHead t c = let a = c.array-array.ensures in
    (omega (arith, c.decreases, level_some c.requires), array_holding c.requires _ c.of.ensures _ _ c.in-ArrayHead.is _ _ a.area a.starts)

pub written-array_head-requires : goal.written-array_head-requires
written-array_head-requires t c = let is = c.of.ensures in
    let e = c.in-ArrayHead.is in
    let a = c.array-array.ensures in
    let counted = c.len.ensures in
    let ended = c.children-start-in-ArrayHead.ensures in (
      array_lying c.requires _ is _ _ e _ _ a.area a.starts _ counted refl ended,
      array_few c.requires _ is _ _ e _ _ a.area a.starts _ counted,
      array_within c.requires _ is _ _ e _ _ a.area a.starts _ counted refl ended,
      array_room c.requires _ is _ _ e _ _ a.area a.starts _ counted refl ended,
    )

pub written-returns-in-Fixed : goal.written-returns-in-Fixed
written-returns-in-Fixed t c = search (rules, fixed_ends)

pub written-returns-in-Prefixed : goal.written-returns-in-Prefixed
written-returns-in-Prefixed t c = search (rules, prefixed_ends)

pub written-returns-in-Short : goal.written-returns-in-Short
written-returns-in-Short t c = search (rules, short_ends)

pub written-returns-in-ObjectHead : goal.written-returns-in-ObjectHead
written-returns-in-ObjectHead t c = let o = c.object-object.ensures in
    object_ends c.requires _ c.of.ensures _ _ _ c.in-ObjectHead.is _ _ _ o.area o.starts o.ids refl c.children-start.ensures c.object_head.ensures

pub written-returns-in-ArrayHead : goal.written-returns-in-ArrayHead
written-returns-in-ArrayHead t c = let a = c.array-array.ensures in
    array_ends c.requires _ c.of.ensures _ _ c.in-ArrayHead.is _ _ a.area a.starts _ c.len.ensures refl c.children-start-in-ArrayHead.ensures c.array_head.ensures

pub written-returns-in-Nothing : goal.written-returns-in-Nothing
written-returns-in-Nothing t c = search (rules, nothing_ends)
