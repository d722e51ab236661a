use mathlib.Core.Path.{sym, ◌∙◌}
use native.Mathlib.Omega.{arith}
use borrow.Author.Rules.{rules}
use lib.ListN.{length-take, length-drop}
use Rattle.places.proofs.PlaceLaws.{told_by, one_long, typed_long, both_long, place_empty, place_unframed, place_left, place_typed, place_both}
use Rattle.rows.proofs.QuickLaws.{some_node}
use Rattle.rows.proofs.WalkLaws.{left_ready_lem, typed_none, typed_cell, typed_elements, typed_members, ready_kind, ready_level, ready_frame, ready_code, ready_element, ready_fields, list_start, list_done, list_cut, list_fits, list_next, fields_start, fields_more, fields_done, field_node-in, field_frame_in, field_entry, field_ready, fields_few, fields_cut, fields_fit, fields_next}
use Rattle.rows.proofs.walker.Walk.+held_list_places_object_places_place_typed.Goals as goal

pub held-plainly_lawful-requires : goal.held-plainly_lawful-requires
held-plainly_lawful-requires t c = some_node c.requires.0

pub held-returns-then-plainly_lawful : goal.held-returns-then-plainly_lawful
held-returns-then-plainly_lawful t c = λ under stands. sym (c.plainly_lawful.ensures c.if-plainly_lawful.true _ _ under stands)

pub held-place-requires : goal.held-place-requires
held-place-requires t c = (omega (arith, c.decreases), c.requires)

pub held-returns : goal.held-returns
held-returns t c = c.place.ensures

pub list_places-loop-at-init : goal.list_places-loop-at-init
list_places-loop-at-init t c = list_start

pub list_places-returns-in_default : goal.list_places-returns-in_default
list_places-returns-in_default t c = let has = c.loop-at-test.true in
    list_cut c.loop-at.invariant has c.place_frame.ensures c.in_default.is

pub list_places-overflow_add-inner : goal.list_places-overflow_add-inner
list_places-overflow_add-inner t c = let has = c.loop-at-test.true in
    let fits = list_fits c.loop-at.invariant has c.place_frame.ensures c.in-Some.is in search rules

pub list_places-slice_bounds-held-count : goal.list_places-slice_bounds-held-count
list_places-slice_bounds-held-count t c = let has = c.loop-at-test.true in
    let fits = list_fits c.loop-at.invariant has c.place_frame.ensures c.in-Some.is in search rules

pub list_places-slice_bounds-held-start : goal.list_places-slice_bounds-held-start
list_places-slice_bounds-held-start t c = let has = c.loop-at-test.true in
    let fits = list_fits c.loop-at.invariant has c.place_frame.ensures c.in-Some.is in search rules

pub list_places-slice_bounds-held-end : goal.list_places-slice_bounds-held-end
list_places-slice_bounds-held-end t c = let has = c.loop-at-test.true in
    let fits = list_fits c.loop-at.invariant has c.place_frame.ensures c.in-Some.is in search rules

pub list_places-held-one-requires : goal.list_places-held-one-requires
list_places-held-one-requires t c = (omega (arith, c.decreases), (c.requires.0, simp (length-take, length-drop) (omega (arith, c.requires.1))))

pub list_places-loop-at-smaller : goal.list_places-loop-at-smaller
list_places-loop-at-smaller t c = let has = c.loop-at-test.true in
    let fits = list_fits c.loop-at.invariant has c.place_frame.ensures c.in-Some.is in
    search rules

pub list_places-loop-at-preserved : goal.list_places-loop-at-preserved
list_places-loop-at-preserved t c = let has = c.loop-at-test.true in
    list_next c.loop-at.invariant has c.place_frame.ensures c.in-Some.is _ c.held-one.ensures _ c.broken_if.ensures _ c.worse-verdict.ensures

pub list_places-returns : goal.list_places-returns
list_places-returns t c = list_done c.loop-at.invariant c.loop-at-test.false

pub object_places-loop-field-init : goal.object_places-loop-field-init
object_places-loop-field-init t c = fields_start c.requires.0 _

pub object_places-returns-then-body-at : goal.object_places-returns-then-body-at
object_places-returns-then-body-at t c = fields_few c.loop-field.invariant c.loop-field-test.true c.if-body-at.true

pub object_places-returns-in_default : goal.object_places-returns-in_default
object_places-returns-in_default t c = let has = c.if-body-at.false in
    fields_cut c.loop-field.invariant c.loop-field-test.true has c.place_frame.ensures c.in_default.is

pub object_places-overflow_add-inner : goal.object_places-overflow_add-inner
object_places-overflow_add-inner t c = let has = c.if-body-at.false in
    let fits = fields_fit c.loop-field.invariant c.loop-field-test.true has c.place_frame.ensures c.in-Some.is in
    search rules

pub object_places-field_node-node-requires : goal.object_places-field_node-node-requires
object_places-field_node-node-requires t c = field_node-in c.loop-field.invariant c.loop-field-test.true

pub object_places-slice_bounds-held-count : goal.object_places-slice_bounds-held-count
object_places-slice_bounds-held-count t c = let has = c.if-body-at.false in
    let fits = fields_fit c.loop-field.invariant c.loop-field-test.true has c.place_frame.ensures c.in-Some.is in
    search rules

pub object_places-slice_bounds-held-start : goal.object_places-slice_bounds-held-start
object_places-slice_bounds-held-start t c = let has = c.if-body-at.false in
    let fits = fields_fit c.loop-field.invariant c.loop-field-test.true has c.place_frame.ensures c.in-Some.is in
    search rules

pub object_places-slice_bounds-held-end : goal.object_places-slice_bounds-held-end
object_places-slice_bounds-held-end t c = let has = c.if-body-at.false in
    let fits = fields_fit c.loop-field.invariant c.loop-field-test.true has c.place_frame.ensures c.in-Some.is in
    search rules

pub object_places-held-one-requires : goal.object_places-held-one-requires
object_places-held-one-requires t c = (omega (arith, c.decreases), (field_ready c.loop-field.invariant c.loop-field-test.true c.requires.0.tabled _ c.field_node-node.ensures, simp (length-take, length-drop) (omega (arith, c.requires.1))))

pub object_places-nameless-unnamed-requires : goal.object_places-nameless-unnamed-requires
object_places-nameless-unnamed-requires t c = field_entry c.loop-field.invariant c.loop-field-test.true c.requires.0.tabled

pub object_places-frame_end-field-requires : goal.object_places-frame_end-field-requires
object_places-frame_end-field-requires t c = field_frame_in c.loop-field.invariant c.loop-field-test.true

pub object_places-loop-field-smaller : goal.object_places-loop-field-smaller
object_places-loop-field-smaller t c = let ends = c.frame_end-field.ensures in let left = c.loop-field-test.true in search rules

pub object_places-loop-field-preserved : goal.object_places-loop-field-preserved
object_places-loop-field-preserved t c = let has = c.if-body-at.false in
    fields_next c.loop-field.invariant c.loop-field-test.true has c.place_frame.ensures c.in-Some.is _ c.field_node-node.ensures _ c.held-one.ensures _ c.nameless-unnamed.ensures _ c.broken_if.ensures _ c.worse-verdict.ensures _ c.frame_end-field.ensures

pub object_places-returns-then-at-body : goal.object_places-returns-then-at-body
object_places-returns-then-at-body t c = fields_more c.loop-field.invariant c.loop-field-test.false c.if-at-body.true

pub object_places-returns : goal.object_places-returns
object_places-returns t c = fields_done c.loop-field.invariant c.loop-field-test.false c.if-at-body.false

pub place-slice_bounds-alone-count : goal.place-slice_bounds-alone-count
place-slice_bounds-alone-count t c = let long = one_long _ c.split.ensures c.in-Leftover.is in search rules

pub place-slice_bounds-alone-start : goal.place-slice_bounds-alone-start
place-slice_bounds-alone-start t c = let long = one_long _ c.split.ensures c.in-Leftover.is in search rules

pub place-slice_bounds-alone-end : goal.place-slice_bounds-alone-end
place-slice_bounds-alone-end t c = let long = one_long _ c.split.ensures c.in-Leftover.is in search rules

pub place-alone-requires : goal.place-alone-requires
place-alone-requires t c = left_ready_lem c.requires.0

pub place-slice_bounds-typed-count : goal.place-slice_bounds-typed-count
place-slice_bounds-typed-count t c = let long = typed_long _ c.split.ensures c.in-Typed.is in search rules

pub place-slice_bounds-typed-start : goal.place-slice_bounds-typed-start
place-slice_bounds-typed-start t c = let long = typed_long _ c.split.ensures c.in-Typed.is in search rules

pub place-slice_bounds-typed-end : goal.place-slice_bounds-typed-end
place-slice_bounds-typed-end t c = let long = typed_long _ c.split.ensures c.in-Typed.is in search rules

pub place-typed-requires : goal.place-typed-requires
place-typed-requires t c = (omega (arith, c.decreases), (c.requires.0, simp (length-take, length-drop) (omega (arith, c.requires.1))))

pub place-overflow_add-middle : goal.place-overflow_add-middle
place-overflow_add-middle t c = let long = both_long _ c.split.ensures c.in-Both.is in search rules

pub place-slice_bounds-typed-count-in-Both : goal.place-slice_bounds-typed-count-in-Both
place-slice_bounds-typed-count-in-Both t c = let long = both_long _ c.split.ensures c.in-Both.is in search rules

pub place-slice_bounds-typed-start-in-Both : goal.place-slice_bounds-typed-start-in-Both
place-slice_bounds-typed-start-in-Both t c = let long = both_long _ c.split.ensures c.in-Both.is in search rules

pub place-slice_bounds-typed-end-in-Both : goal.place-slice_bounds-typed-end-in-Both
place-slice_bounds-typed-end-in-Both t c = let long = both_long _ c.split.ensures c.in-Both.is in search rules

pub place-typed-right-requires : goal.place-typed-right-requires
place-typed-right-requires t c = (omega (arith, c.decreases), (c.requires.0, simp (length-take, length-drop) (omega (arith, c.requires.1))))

pub place-slice_bounds-beside-count : goal.place-slice_bounds-beside-count
place-slice_bounds-beside-count t c = let long = both_long _ c.split.ensures c.in-Both.is in search rules

pub place-slice_bounds-beside-start : goal.place-slice_bounds-beside-start
place-slice_bounds-beside-start t c = let long = both_long _ c.split.ensures c.in-Both.is in search rules

pub place-slice_bounds-beside-end : goal.place-slice_bounds-beside-end
place-slice_bounds-beside-end t c = let long = both_long _ c.split.ensures c.in-Both.is in search rules

pub place-beside-requires : goal.place-beside-requires
place-beside-requires t c = left_ready_lem c.requires.0

pub place-returns-in-Empty : goal.place-returns-in-Empty
place-returns-in-Empty t c = λ under stands. sym (place_empty under _ _ _ (told_by _ c.split.ensures c.in-Empty.is))

pub place-returns-in-Leftover : goal.place-returns-in-Leftover
place-returns-in-Leftover t c = λ under stands. c.alone.ensures under stands ∙ sym (place_left under _ _ _ (told_by _ c.split.ensures c.in-Leftover.is))

pub place-returns-in-Typed : goal.place-returns-in-Typed
place-returns-in-Typed t c = λ under stands. c.typed.ensures under stands ∙ sym (place_typed under _ _ _ (told_by _ c.split.ensures c.in-Typed.is))

pub place-returns-in-Both : goal.place-returns-in-Both
place-returns-in-Both t c = λ under stands. c.beside.ensures under stands ∙ rw (c.typed-right.ensures under stands) (sym (place_both under _ _ _ _ (told_by _ c.split.ensures c.in-Both.is)))

pub place-returns-in-Unframed : goal.place-returns-in-Unframed
place-returns-in-Unframed t c = λ under stands. sym (place_unframed under _ _ _ (told_by _ c.split.ensures c.in-Unframed.is))

pub typed-kind_at-requires : goal.typed-kind_at-requires
typed-kind_at-requires t c = ready_kind c.requires.0

pub typed-good-requires : goal.typed-good-requires
typed-good-requires t c = ready_code c.requires.0 c.kind_at.ensures c.in-Column.is

pub typed-overflow_sub-levels : goal.typed-overflow_sub-levels
typed-overflow_sub-levels t c = let level = ready_level c.requires.0 in search rules

pub typed-list_places-requires : goal.typed-list_places-requires
typed-list_places-requires t c = let level = ready_level c.requires.0 in
    (omega (arith, c.decreases), (ready_element c.requires.0 c.kind_at.ensures c.in-List.is, c.requires.1))

pub typed-frame_end-to-requires : goal.typed-frame_end-to-requires
typed-frame_end-to-requires t c = ready_frame c.requires.0

pub typed-overflow_sub-levels-in-Fields : goal.typed-overflow_sub-levels-in-Fields
typed-overflow_sub-levels-in-Fields t c = let level = ready_level c.requires.0 in search rules

pub typed-object_places-requires : goal.typed-object_places-requires
typed-object_places-requires t c = let level = ready_level c.requires.0 in
    (omega (arith, c.decreases), (ready_fields c.requires.0 c.kind_at.ensures c.in-Fields.is _ c.frame_end-to.ensures, c.requires.1))

pub typed-returns-in-Leftover : goal.typed-returns-in-Leftover
typed-returns-in-Leftover t c = typed_none c.kind_at.ensures _ _ c.in-Leftover.is

pub typed-returns-in-Column : goal.typed-returns-in-Column
typed-returns-in-Column t c = typed_cell c.kind_at.ensures _ _ c.in-Column.is _ c.good.ensures _ c.parsed.ensures

pub typed-returns-in-List : goal.typed-returns-in-List
typed-returns-in-List t c = typed_elements c.kind_at.ensures _ _ c.in-List.is _ c.list_places.ensures

pub typed-returns-in-Fields : goal.typed-returns-in-Fields
typed-returns-in-Fields t c = typed_members c.kind_at.ensures _ _ c.in-Fields.is _ c.frame_end-to.ensures _ c.object_places.ensures
