use mathlib.Core.Path.{refl, sym, ◌∙◌}
use native.Mathlib.Omega.{arith}
use borrow.Author.Rules.{rules}
use lib.ListN.{length-take, length-drop}
use Rattle.places.proofs.PlaceLaws.{one_long, typed_long, both_long}
use Rattle.rebuilt.proofs.ThereLaws.{typed_kind, typed_level, typed_frame, typed_code, typed_cell, typed_never, place_framed}
use Rattle.building.proofs.CallLaws.{member_known, member_in, member_leftover, member_left, member_framed, member_node, member_whole, member_fits, member_place, member_placed}
use Rattle.building.proofs.LeftLaws.{left_read, left_container, left_least}
use Rattle.building.proofs.ListLaws.{list_noting, list_start, list_in, list_frame_in, list_whole, list_fits, list-place_ready, list_full, list_next, list_lying, list_few, list_put}
use Rattle.building.proofs.NotedLaws.{noted_start, noted_in, noted_member, noted_full, noted_next, noted_lying, noted_few, noted-ids_in, noted_ranked, noted_put}
use Rattle.building.proofs.ObjectLaws.{left_begins, object_some, object_sizes, object_put, object_notes}
use Rattle.building.proofs.PlacedLaws.{placed_empty, placed_left, placed_typed, placed_both, put_cell, put_list, put_fields}
use Rattle.building.proofs.ReadyLaws.{alone_ready, only_ready, beside_ready, elements_ready, members_ready}
use Rattle.building.proofs.builder.Build.+list_places_member_noted_places_object_places_place_typed.Goals as goal

pub list_places-note_elements-count-requires : goal.list_places-note_elements-count-requires
list_places-note_elements-count-requires t c = list_noting c.requires.1

pub list_places-loop-i-init : goal.list_places-loop-i-init
list_places-loop-i-init t c = search (rules, list_start)

pub list_places-spot-at-requires : goal.list_places-spot-at-requires
list_places-spot-at-requires t c = search (rules, list_in)

pub list_places-place_frame-requires : goal.list_places-place_frame-requires
list_places-place_frame-requires t c = search (rules, list_frame_in)

pub list_places-returns-in_err-to : goal.list_places-returns-in_err-to
list_places-returns-in_err-to t c = λ element stands. absurd (list_whole c.requires.1 c.loop-i.invariant c.loop-i-test.true _ c.spot-at.ensures c.place_frame.ensures c.in_err-to.was)

pub list_places-overflow_add-inner : goal.list_places-overflow_add-inner
list_places-overflow_add-inner t c = let fits = list_fits c.requires.1 c.loop-i.invariant c.loop-i-test.true _ c.spot-at.ensures c.place_frame.ensures c.in_ok-to.was in search rules

pub list_places-slice_bounds-inner-count : goal.list_places-slice_bounds-inner-count
list_places-slice_bounds-inner-count t c = let fits = list_fits c.requires.1 c.loop-i.invariant c.loop-i-test.true _ c.spot-at.ensures c.place_frame.ensures c.in_ok-to.was in search rules

pub list_places-slice_bounds-inner-start : goal.list_places-slice_bounds-inner-start
list_places-slice_bounds-inner-start t c = let fits = list_fits c.requires.1 c.loop-i.invariant c.loop-i-test.true _ c.spot-at.ensures c.place_frame.ensures c.in_ok-to.was in search rules

pub list_places-slice_bounds-inner-end : goal.list_places-slice_bounds-inner-end
list_places-slice_bounds-inner-end t c = let fits = list_fits c.requires.1 c.loop-i.invariant c.loop-i-test.true _ c.spot-at.ensures c.place_frame.ensures c.in_ok-to.was in search rules

pub list_places-place-requires : goal.list_places-place-requires
list_places-place-requires t c = let seen = c.loop-i.invariant in (
  omega (arith, c.decreases),
  (
    seen.room,
    list-place_ready c.requires.1 c.loop-i.invariant c.loop-i-test.true _ c.spot-at.ensures c.place_frame.ensures c.in_ok-to.was c.note_elements-count.auto.places refl _ _ (simp (length-take, length-drop) (omega arith)) refl,
  ),
)

pub list_places-returns-in_err-start : goal.list_places-returns-in_err-start
list_places-returns-in_err-start t c = λ element stands. rw c.from_residual-in_err-start.ensures (list_full c.requires.1 c.loop-i.invariant c.loop-i-test.true _ c.spot-at.ensures c.place_frame.ensures c.in_ok-to.was c.place.ensures c.in_err-start.was _ element stands)

pub list_places-loop-i-preserved : goal.list_places-loop-i-preserved
list_places-loop-i-preserved t c = list_next c.requires.1 c.loop-i.invariant c.loop-i-test.true _ c.spot-at.ensures c.place_frame.ensures c.in_ok-to.was c.place.ensures c.in_ok-start.was refl c.place.auto.ids c.place.new.places c.place.auto.places

pub list_places-array-requires : goal.list_places-array-requires
list_places-array-requires t c = let seen = c.loop-i.invariant in let over = c.loop-i-test.false in let same = seen.out_size in let fits = c.requires.0.within in
    (seen.room, list_lying c.requires.1 seen (omega arith), list_few c.requires.1 seen, omega arith)

pub list_places-returns : goal.list_places-returns
list_places-returns t c = let over = c.loop-i-test.false in list_put c.requires.1 c.loop-i.invariant (omega arith) c.array.ensures

pub member-returns-in_err-size : goal.member-returns-in_err-size
member-returns-in_err-size t c = λ one ready. absurd (member_known c.if-field-eq0.true c.child_extent.ensures c.in_err-size.was one ready)

pub member-overflow_add-left : goal.member-overflow_add-left
member-overflow_add-left t c = let fits = member_in c.if-field-eq0.true c.child_extent.ensures c.in_ok-size.was c.requires.1 in search rules

pub member-slice_bounds-left-end : goal.member-slice_bounds-left-end
member-slice_bounds-left-end t c = let fits = member_in c.if-field-eq0.true c.child_extent.ensures c.in_ok-size.was c.requires.1 in search rules

pub member-leftover-requires : goal.member-leftover-requires
member-leftover-requires t c = (c.requires.0, member_leftover c.if-field-eq0.true c.child_extent.ensures c.in_ok-size.was c.requires.1)

pub member-returns-then-field-eq0 : goal.member-returns-then-field-eq0
member-returns-then-field-eq0 t c = member_left c.if-field-eq0.true c.child_extent.ensures c.in_ok-size.was c.leftover.ensures

pub member-place_frame-requires : goal.member-place_frame-requires
member-place_frame-requires t c = member_framed c.if-field-eq0.false c.requires.1

pub member-returns-in_err-to : goal.member-returns-in_err-to
member-returns-in_err-to t c = λ one ready. absurd (member_whole c.if-field-eq0.false c.place_frame.ensures c.in_err-to.was one ready)

pub member-overflow_add-inner : goal.member-overflow_add-inner
member-overflow_add-inner t c = let fits = member_fits _ _ c.place_frame.ensures c.in_ok-to.was in search rules

pub member-field_node-node-requires : goal.member-field_node-node-requires
member-field_node-node-requires t c = member_node c.if-field-eq0.false c.requires.1

pub member-slice_bounds-inner-count : goal.member-slice_bounds-inner-count
member-slice_bounds-inner-count t c = let fits = member_fits _ _ c.place_frame.ensures c.in_ok-to.was in search rules

pub member-slice_bounds-inner-start : goal.member-slice_bounds-inner-start
member-slice_bounds-inner-start t c = let fits = member_fits _ _ c.place_frame.ensures c.in_ok-to.was in search rules

pub member-slice_bounds-inner-end : goal.member-slice_bounds-inner-end
member-slice_bounds-inner-end t c = let fits = member_fits _ _ c.place_frame.ensures c.in_ok-to.was in search rules

pub member-place-requires : goal.member-place-requires
member-place-requires t c = (omega (arith, c.decreases), (c.requires.0, member_place c.if-field-eq0.false c.place_frame.ensures c.in_ok-to.was c.requires.1 _ c.field_node-node.ensures))

pub member-returns : goal.member-returns
member-returns t c = member_placed c.if-field-eq0.false c.place_frame.ensures c.in_ok-to.was _ c.field_node-node.ensures c.place.ensures

pub noted_places-loop-i-init : goal.noted_places-loop-i-init
noted_places-loop-i-init t c = noted_start c.requires.0

pub noted_places-spot-at-requires : goal.noted_places-spot-at-requires
noted_places-spot-at-requires t c = let inside = noted_in c.requires.1 c.loop-i.invariant c.loop-i-test.true in omega arith

pub noted_places-spot-field-requires : goal.noted_places-spot-field-requires
noted_places-spot-field-requires t c = let inside = noted_in c.requires.1 c.loop-i.invariant c.loop-i-test.true in omega arith

pub noted_places-member-requires : goal.noted_places-member-requires
noted_places-member-requires t c = let seen = c.loop-i.invariant in (omega (arith, c.decreases), (seen.room, noted_member c.requires.1 c.loop-i.invariant c.loop-i-test.true _ _ c.spot-at.ensures c.spot-field.ensures _ _ (simp (length-take, length-drop) (omega arith)) (simp (length-take, length-drop) (omega arith))))

pub noted_places-returns-in_err-start : goal.noted_places-returns-in_err-start
noted_places-returns-in_err-start t c = λ ready. rw c.from_residual.ensures (noted_full ready c.loop-i.invariant c.loop-i-test.true _ _ c.spot-at.ensures c.spot-field.ensures _ _ (simp (length-take, length-drop) (omega arith)) (simp (length-take, length-drop) (omega arith)) c.member.ensures c.in_err-start.was _)

pub noted_places-loop-i-preserved : goal.noted_places-loop-i-preserved
noted_places-loop-i-preserved t c = noted_next c.requires.1 c.loop-i.invariant c.loop-i-test.true _ _ c.spot-at.ensures c.spot-field.ensures _ _ (simp (length-take, length-drop) (omega arith)) (simp (length-take, length-drop) (omega arith)) c.member.ensures c.in_ok-start.was _ refl c.member.new.places c.member.auto.places c.member.new.ids c.member.auto.ids

pub noted_places-new-members-requires : goal.noted_places-new-members-requires
noted_places-new-members-requires t c = let room = noted-ids_in c.requires.1 c.loop-i.invariant in (omega arith, omega arith, omega arith)

pub noted_places-object-requires : goal.noted_places-object-requires
noted_places-object-requires t c = let seen = c.loop-i.invariant in let over = c.loop-i-test.false in let same = seen.out_size in let fits = c.requires.0.within in
    record {
      room = (seen.room, noted_lying c.requires.1 seen c.new-members.ensures (omega arith), noted_few c.requires.1 seen c.new-members.ensures, omega arith);
      ranked = noted_ranked c.requires.1 seen c.new-members.ensures;
    }

pub noted_places-returns : goal.noted_places-returns
noted_places-returns t c = λ ready. let over = c.loop-i-test.false in noted_put ready c.loop-i.invariant c.new-members.ensures (omega arith) c.object.ensures

pub object_places-bounds-left-0 : goal.object_places-bounds-left-0
object_places-bounds-left-0 t c = search (rules, left_begins)

pub object_places-returns-in_default : goal.object_places-returns-in_default
object_places-returns-in_default t c = λ columns stand. let read = left_read c.requires.1.beside in absurd (c.in_default.not-ObjectHead _ _ _ (c.of.ensures ∙ read.is))

pub object_places-object-object-requires : goal.object_places-object-object-requires
object_places-object-object-requires t c = let is = sym c.of.ensures ∙ c.in-ObjectHead.is in (left_container c.requires.1.beside _ _ _ is, left_least c.requires.1.beside _ _ _ is)

pub object_places-note_fields-noted-requires : goal.object_places-note_fields-noted-requires
object_places-note_fields-noted-requires t c = let is = sym c.of.ensures ∙ c.in-ObjectHead.is in
    record {
      some_members = object_some c.requires.1 _ _ _ is c.object-object.ensures.ids c.object-object.ensures.starts;
      schema_len_bound = object_sizes c.requires.1 _ _ _ is c.object-object.ensures.ids c.object-object.ensures.starts;
    }

pub object_places-noted_places-requires : goal.object_places-noted_places-requires
object_places-noted_places-requires t c = (omega (arith, c.decreases), (c.requires.0, object_notes c.requires.1 _ _ _ (sym c.of.ensures ∙ c.in-ObjectHead.is) c.object-object.ensures.ids c.object-object.ensures.starts _ c.note_fields-noted.auto.places c.note_fields-noted.auto.ids c.note_fields-noted.ensures _ c.object-object.ensures.area))

pub object_places-returns : goal.object_places-returns
object_places-returns t c = λ columns stand. object_put c.requires.1 _ _ _ (sym c.of.ensures ∙ c.in-ObjectHead.is) c.object-object.ensures.ids c.object-object.ensures.starts _ c.note_fields-noted.auto.places c.note_fields-noted.auto.ids c.note_fields-noted.ensures columns stand _ c.object-object.ensures.area c.noted_places.ensures

pub place-slice_bounds-left-count : goal.place-slice_bounds-left-count
place-slice_bounds-left-count t c = search (rules, one_long)

pub place-slice_bounds-left-start : goal.place-slice_bounds-left-start
place-slice_bounds-left-start t c = search (rules, one_long)

pub place-leftover-requires : goal.place-leftover-requires
place-leftover-requires t c = search (rules, alone_ready)

pub place-slice_bounds-inner-count : goal.place-slice_bounds-inner-count
place-slice_bounds-inner-count t c = search (rules, typed_long)

pub place-slice_bounds-inner-start : goal.place-slice_bounds-inner-start
place-slice_bounds-inner-start t c = search (rules, typed_long)

pub place-typed-requires : goal.place-typed-requires
place-typed-requires t c = (omega (arith, c.decreases), (c.requires.0, search (rules, only_ready)))

pub place-overflow_add-inner : goal.place-overflow_add-inner
place-overflow_add-inner t c = let long = both_long _ c.split.ensures c.in-Both.is in search rules

pub place-slice_bounds-left-count-in-Both : goal.place-slice_bounds-left-count-in-Both
place-slice_bounds-left-count-in-Both t c = let long = both_long _ c.split.ensures c.in-Both.is in search rules

pub place-slice_bounds-left-start-in-Both : goal.place-slice_bounds-left-start-in-Both
place-slice_bounds-left-start-in-Both t c = let long = both_long _ c.split.ensures c.in-Both.is in search rules

pub place-slice_bounds-left-end-in-Both : goal.place-slice_bounds-left-end-in-Both
place-slice_bounds-left-end-in-Both t c = let long = both_long _ c.split.ensures c.in-Both.is in search rules

pub place-slice_bounds-inner-count-in-Both : goal.place-slice_bounds-inner-count-in-Both
place-slice_bounds-inner-count-in-Both t c = let long = both_long _ c.split.ensures c.in-Both.is in search rules

pub place-slice_bounds-inner-start-in-Both : goal.place-slice_bounds-inner-start-in-Both
place-slice_bounds-inner-start-in-Both t c = let long = both_long _ c.split.ensures c.in-Both.is in search rules

pub place-typed-requires-in-Both : goal.place-typed-requires-in-Both
place-typed-requires-in-Both t c = (omega (arith, c.decreases), (c.requires.0, beside_ready c.requires.1 c.split.ensures c.in-Both.is))

pub place-returns-in-Empty : goal.place-returns-in-Empty
place-returns-in-Empty t c = placed_empty _ _ _ _ _ _ c.split.ensures c.in-Empty.is c.null.ensures

pub place-returns-in-Leftover : goal.place-returns-in-Leftover
place-returns-in-Leftover t c = placed_left _ _ _ _ _ _ c.split.ensures c.in-Leftover.is c.leftover.ensures

pub place-returns-in-Typed : goal.place-returns-in-Typed
place-returns-in-Typed t c = placed_typed _ _ _ _ _ _ c.split.ensures c.in-Typed.is c.typed.ensures

pub place-returns-in-Both : goal.place-returns-in-Both
place-returns-in-Both t c = placed_both _ _ _ _ _ _ c.split.ensures c.in-Both.is c.typed-in-Both.ensures

pub place-returns-in-Unframed : goal.place-returns-in-Unframed
place-returns-in-Unframed t c = λ under stands. absurd (place_framed c.requires.1.there c.split.ensures c.in-Unframed.is)

pub typed-kind_at-requires : goal.typed-kind_at-requires
typed-kind_at-requires t c = typed_kind c.requires.1.there

pub typed-cell-requires : goal.typed-cell-requires
typed-cell-requires t c = let small = c.requires.1.enough.small in (c.requires.0, typed_code c.requires.1.there c.kind_at.ensures c.in-Column.is, typed_cell c.requires.1.there c.kind_at.ensures c.in-Column.is, omega arith)

pub typed-overflow_sub-levels : goal.typed-overflow_sub-levels
typed-overflow_sub-levels t c = let level = typed_level c.requires.1.there in search rules

pub typed-list_places-requires : goal.typed-list_places-requires
typed-list_places-requires t c = let level = typed_level c.requires.1.there in (omega (arith, c.decreases), (c.requires.0, elements_ready c.requires.1 c.kind_at.ensures c.in-List.is))

pub typed-frame_end-to-requires : goal.typed-frame_end-to-requires
typed-frame_end-to-requires t c = search (rules, typed_frame)

pub typed-overflow_sub-levels-in-Fields : goal.typed-overflow_sub-levels-in-Fields
typed-overflow_sub-levels-in-Fields t c = let level = typed_level c.requires.1.there in search rules

pub typed-object_places-requires : goal.typed-object_places-requires
typed-object_places-requires t c = let level = typed_level c.requires.1.there in (omega (arith, c.decreases), (c.requires.0, members_ready c.requires.1 c.kind_at.ensures c.in-Fields.is _ c.frame_end-to.ensures))

pub typed-returns-in-Leftover : goal.typed-returns-in-Leftover
typed-returns-in-Leftover t c = λ under stands. absurd (typed_never c.requires.1.there c.kind_at.ensures c.in-Leftover.is)

pub typed-returns-in-Column : goal.typed-returns-in-Column
typed-returns-in-Column t c = put_cell _ _ _ _ _ _ _ c.kind_at.ensures c.in-Column.is c.cell.ensures

pub typed-returns-in-List : goal.typed-returns-in-List
typed-returns-in-List t c = put_list _ _ _ _ _ _ _ c.kind_at.ensures c.in-List.is c.list_places.ensures

pub typed-returns-in-Fields : goal.typed-returns-in-Fields
typed-returns-in-Fields t c = put_fields _ _ _ _ _ _ _ c.kind_at.ensures c.in-Fields.is _ c.frame_end-to.ensures c.object_places.ensures
