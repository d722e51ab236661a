use native.Mathlib.Omega.{arith}
use borrow.Author.Rules.{rules}
use Rattle.noting.proofs.FieldLaws.{members_start, run_ranked, count_fits, place_there, field_frame, field_entry, place_whole, field_known, last_room, members_done, members_absent, member_room, found_there, members_present}
use Rattle.noting.proofs.members.note_fields.Goals as goal

pub loop-field-init : goal.loop-field-init
loop-field-init c = search (rules, members_start)

pub place_frame-requires : goal.place_frame-requires
place_frame-requires c = search (rules, place_there)

-- The places of a lawful object are whole, ..
pub returns-in_default : goal.returns-in_default
returns-in_default c = absurd (place_whole c.loop-field.invariant c.loop-field-test.true c.place_frame.ensures c.in_default.is)

pub frame_end-behind-requires : goal.frame_end-behind-requires
frame_end-behind-requires c = search (rules, field_frame)

pub field_id-requires : goal.field_id-requires
field_id-requires c = search (rules, field_entry)

-- .. and a field that is present has an id.
pub returns-in_default-field_id : goal.returns-in_default-field_id
returns-in_default-field_id c = absurd
    (field_known c.loop-field.invariant c.loop-field-test.true c.place_frame.ensures c.in-Some.is c.if-at-end.true
    c.field_id.ensures c.in_default-field_id.is)

pub note_field-next-requires : goal.note_field-next-requires
note_field-next-requires c = let seen = c.loop-field.invariant in
    let left = c.loop-field-test.true in
    let pre = c.requires in
    let present = c.if-at-end.true in
    let id = found_there seen left c.place_frame.ensures c.in-Some.is present c.field_id.ensures c.in-Some-field_id.is in (
      pre.some_members.1,
      run_ranked pre.some_members.0,
      seen.left_in,
      member_room seen left c.place_frame.ensures c.in-Some.is present pre.schema_len_bound.2 pre.schema_len_bound.3,
      id.0,
      id.1,
      omega (arith, place_there seen left, pre.schema_len_bound.1),
      omega (arith, field_frame seen left, pre.schema_len_bound.0),
    )

pub overflow_sub-n : goal.overflow_sub-n
overflow_sub-n c = c.note_field-next.ensures.forward

pub overflow_add-n : goal.overflow_add-n
overflow_add-n c = (count_fits c.loop-field.invariant c.note_field-next.ensures.forward c.note_field-next.ensures.within c.requires.schema_len_bound.2 c.well_formed.1.1.1.1.1.1.1.1.0.0).0

pub overflow_add-n-then-at-end : goal.overflow_add-n-then-at-end
overflow_add-n-then-at-end c = (count_fits c.loop-field.invariant c.note_field-next.ensures.forward c.note_field-next.ensures.within c.requires.schema_len_bound.2 c.well_formed.1.1.1.1.1.1.1.1.0.0).1

pub loop-field-preserved-in-Some-field_id : goal.loop-field-preserved-in-Some-field_id
loop-field-preserved-in-Some-field_id c = members_present c.loop-field.invariant c.loop-field-test.true c.place_frame.ensures c.in-Some.is c.frame_end-behind.ensures c.if-at-end.true
    c.field_id.ensures c.in-Some-field_id.is c.note_field-next.ensures

pub loop-field-preserved : goal.loop-field-preserved
loop-field-preserved c = search (rules, members_absent)

-- Behind the last field, all that is left of the leftover's members.
pub note_left-last-requires : goal.note_left-last-requires
note_left-last-requires c = let pre = c.requires in
    let seen = c.loop-field.invariant in
    (pre.some_members.1, run_ranked pre.some_members.0, seen.left_in, last_room seen c.loop-field-test.false pre.schema_len_bound.2 pre.schema_len_bound.3)

pub overflow_sub-result : goal.overflow_sub-result
overflow_sub-result c = c.note_left-last.ensures.forward

pub overflow_add-result : goal.overflow_add-result
overflow_add-result c = (count_fits c.loop-field.invariant c.note_left-last.ensures.forward c.note_left-last.ensures.within c.requires.schema_len_bound.2 c.well_formed.1.1.1.1.1.1.1.1.0.0).0

pub returns : goal.returns
returns c = members_done c.loop-field.invariant c.loop-field-test.false (λ i. omega (arith, c.type_inv.ranks i)) c.note_left-last.ensures
