use mathlib.Core.Path.{refl}
use native.Mathlib.Omega.{arith}
use borrow.Author.Rules.{rules}
use Rattle.places.proofs.PlaceLaws.{one_long, typed_long, both_long}
use Rattle.rebuilt.proofs.ThereLaws.{typed_kind, typed_level, typed_frame}
use Rattle.gathering.proofs.PlaceLaws.{left_begins, left_ends, behind_begins, leftover_asks, typed_asks, beside_asks, behind_asks, empty_marked, unframed_marked, leftover_marked, only_marked, both_marked, elements_asks, members_asks, none_marked, cell_marked, elements_marked, members_marked}
use Rattle.gathering.proofs.PlainLaws.{held-node_in, plain_marked}
use Rattle.gathering.proofs.WalkLaws.{list_start, list_done, list_whole, list_inner, list_end, list_asks, list_next, fields_start, fields_done, field_has, field_node-in, field_frame_in, field_whole, field_inner, field_end, field_asks, field_inside, fields_next}
use Rattle.gathering.proofs.walker.Walk.+held_list_places_object_places_place_typed.Goals as goal

pub held-plain-requires : goal.held-plain-requires
held-plain-requires t c = search (rules, held-node_in)

pub held-returns-then-plain : goal.held-returns-then-plain
held-returns-then-plain t c = search (rules, plain_marked)

pub list_places-loop-at-init : goal.list_places-loop-at-init
list_places-loop-at-init t c = search (rules, list_start)

pub list_places-returns-in_default : goal.list_places-returns-in_default
list_places-returns-in_default t c = search (rules, list_whole)

pub list_places-slice_bounds-held-count : goal.list_places-slice_bounds-held-count
list_places-slice_bounds-held-count t c = search (rules, list_inner)

pub list_places-slice_bounds-held-start : goal.list_places-slice_bounds-held-start
list_places-slice_bounds-held-start t c = search (rules, list_inner)

pub list_places-slice_bounds-held-end : goal.list_places-slice_bounds-held-end
list_places-slice_bounds-held-end t c = search (rules, list_end)

pub list_places-held-requires : goal.list_places-held-requires
list_places-held-requires t c = search (rules, list_asks)

pub list_places-loop-at-smaller : goal.list_places-loop-at-smaller
list_places-loop-at-smaller t c = let has = c.loop-at-test.true in
    let inner = list_inner c.loop-at.invariant has c.place_frame.ensures c.in-Some.is in search rules

pub list_places-loop-at-preserved : goal.list_places-loop-at-preserved
list_places-loop-at-preserved t c = search (rules, list_next)

pub list_places-returns : goal.list_places-returns
list_places-returns t c = search (rules, list_done)

pub object_places-loop-field-init : goal.object_places-loop-field-init
object_places-loop-field-init t c = search (rules, fields_start)

pub object_places-place_frame-requires : goal.object_places-place_frame-requires
object_places-place_frame-requires t c = search (rules, field_has)

pub object_places-returns-in_default : goal.object_places-returns-in_default
object_places-returns-in_default t c = search (rules, field_whole)

pub object_places-overflow_add-inner : goal.object_places-overflow_add-inner
object_places-overflow_add-inner t c = let has = field_has c.loop-field.invariant c.loop-field-test.true in search rules

pub object_places-slice_bounds-inside-count : goal.object_places-slice_bounds-inside-count
object_places-slice_bounds-inside-count t c = search (rules, field_inner)

pub object_places-slice_bounds-inside-start : goal.object_places-slice_bounds-inside-start
object_places-slice_bounds-inside-start t c = search (rules, field_inner)

pub object_places-slice_bounds-inside-end : goal.object_places-slice_bounds-inside-end
object_places-slice_bounds-inside-end t c = search (rules, field_end)

pub object_places-field_node-node-requires : goal.object_places-field_node-node-requires
object_places-field_node-node-requires t c = search (rules, field_node-in)

pub object_places-mark_field-requires : goal.object_places-mark_field-requires
object_places-mark_field-requires t c = field_asks c.loop-field.invariant c.loop-field-test.true

pub object_places-held-requires : goal.object_places-held-requires
object_places-held-requires t c = let left = c.loop-field-test.true in
    let asks = field_inside c.loop-field.invariant left c.place_frame.ensures c.in-Some.is _ c.field_node-node.ensures _ _ c.mark_field.ensures in
    (omega (arith, c.decreases), asks)

pub object_places-frame_end-field-requires : goal.object_places-frame_end-field-requires
object_places-frame_end-field-requires t c = search (rules, field_frame_in)

pub object_places-loop-field-preserved : goal.object_places-loop-field-preserved
object_places-loop-field-preserved t c = let left = c.loop-field-test.true in
    fields_next c.loop-field.invariant left c.place_frame.ensures c.in-Some.is _ c.field_node-node.ensures _ c.mark_field.ensures _ c.held.ensures _ c.frame_end-field.ensures

pub object_places-returns : goal.object_places-returns
object_places-returns t c = search (rules, fields_done)

pub place-slice_bounds-mark-count : goal.place-slice_bounds-mark-count
place-slice_bounds-mark-count t c = search (rules, one_long)

pub place-slice_bounds-mark-start : goal.place-slice_bounds-mark-start
place-slice_bounds-mark-start t c = search (rules, one_long)

pub place-mark-requires : goal.place-mark-requires
place-mark-requires t c = search (rules, leftover_asks)

pub place-slice_bounds-typed-count : goal.place-slice_bounds-typed-count
place-slice_bounds-typed-count t c = search (rules, typed_long)

pub place-slice_bounds-typed-start : goal.place-slice_bounds-typed-start
place-slice_bounds-typed-start t c = search (rules, typed_long)

pub place-typed-requires : goal.place-typed-requires
place-typed-requires t c = search (rules, typed_asks)

pub place-overflow_add-middle : goal.place-overflow_add-middle
place-overflow_add-middle t c = let long = both_long _ c.split.ensures c.in-Both.is in search rules

pub place-slice_bounds-mark-count-in-Both : goal.place-slice_bounds-mark-count-in-Both
place-slice_bounds-mark-count-in-Both t c = search (rules, left_begins)

pub place-slice_bounds-mark-start-in-Both : goal.place-slice_bounds-mark-start-in-Both
place-slice_bounds-mark-start-in-Both t c = search (rules, left_begins)

pub place-slice_bounds-mark-end-in-Both : goal.place-slice_bounds-mark-end-in-Both
place-slice_bounds-mark-end-in-Both t c = search (rules, left_ends)

pub place-mark-requires-in-Both : goal.place-mark-requires-in-Both
place-mark-requires-in-Both t c = search (rules, beside_asks)

pub place-slice_bounds-typed-count-in-Both : goal.place-slice_bounds-typed-count-in-Both
place-slice_bounds-typed-count-in-Both t c = search (rules, behind_begins)

pub place-slice_bounds-typed-start-in-Both : goal.place-slice_bounds-typed-start-in-Both
place-slice_bounds-typed-start-in-Both t c = search (rules, behind_begins)

pub place-typed-requires-in-Both : goal.place-typed-requires-in-Both
place-typed-requires-in-Both t c = let asks = behind_asks c.requires c.split.ensures c.in-Both.is _ _ _ refl c.mark-in-Both.ensures in
    (omega (arith, c.decreases), asks)

pub place-returns-in-Empty : goal.place-returns-in-Empty
place-returns-in-Empty t c = search (rules, empty_marked)

pub place-returns-in-Leftover : goal.place-returns-in-Leftover
place-returns-in-Leftover t c = search (rules, leftover_marked)

pub place-returns-in-Typed : goal.place-returns-in-Typed
place-returns-in-Typed t c = search (rules, only_marked)

pub place-returns-in-Both : goal.place-returns-in-Both
place-returns-in-Both t c = search (rules, both_marked)

pub place-returns-in-Unframed : goal.place-returns-in-Unframed
place-returns-in-Unframed t c = search (rules, unframed_marked)

pub typed-kind_at-requires : goal.typed-kind_at-requires
typed-kind_at-requires t c = search (rules, typed_kind)

pub typed-overflow_sub-levels : goal.typed-overflow_sub-levels
typed-overflow_sub-levels t c = search (rules, typed_level)

pub typed-list_places-requires : goal.typed-list_places-requires
typed-list_places-requires t c = let level = typed_level c.requires.there in
    (omega (arith, c.decreases), elements_asks c.requires c.kind_at.ensures c.in-List.is)

pub typed-frame_end-to-requires : goal.typed-frame_end-to-requires
typed-frame_end-to-requires t c = search (rules, typed_frame)

pub typed-overflow_sub-levels-in-Fields : goal.typed-overflow_sub-levels-in-Fields
typed-overflow_sub-levels-in-Fields t c = search (rules, typed_level)

pub typed-object_places-requires : goal.typed-object_places-requires
typed-object_places-requires t c = let level = typed_level c.requires.there in
    (omega (arith, c.decreases), members_asks c.requires c.kind_at.ensures c.in-Fields.is _ c.frame_end-to.ensures)

pub typed-returns-in-Leftover : goal.typed-returns-in-Leftover
typed-returns-in-Leftover t c = search (rules, none_marked)

pub typed-returns-in-Column : goal.typed-returns-in-Column
typed-returns-in-Column t c = search (rules, cell_marked)

pub typed-returns-in-List : goal.typed-returns-in-List
typed-returns-in-List t c = search (rules, elements_marked)

pub typed-returns-in-Fields : goal.typed-returns-in-Fields
typed-returns-in-Fields t c = search (rules, members_marked)
