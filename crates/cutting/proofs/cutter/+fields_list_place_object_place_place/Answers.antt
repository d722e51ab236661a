use native.Mathlib.Omega.{arith}
use borrow.Author.Rules.{rules}
use mathlib.Core.Path.{refl, sym, ◌∙◌}
use Rattle.putting.proofs.PutLaws.{told_length, told_room}
use Rattle.cutting.proofs.FieldsLaws.{fields_none, first_run, first_in_table, first_framed, first_named, first_falls, here_run, next_ready, fields_full, put_missing, member_part-there, member_ready, put_member}
use Rattle.cutting.proofs.ListLaws.{list_first, put-no_array, list_container, list_start, list_there, element_ready, list_full, list_next, list_put}
use Rattle.cutting.proofs.NodeLaws.{node_kind, node_level, node_framed, node_headed, put_leftover, put_column, list_ready, put_list, object_ready, put_object}
use Rattle.cutting.proofs.ObjectLaws.{object_first, put-no_object, object_container, places_asked, typed_asked, left_asked, fields_ready, rest_ready, places_full, typed_full, left_full, object_put}
use Rattle.cutting.proofs.MissingLaws.{some_fields, put_all_missing}
use Rattle.cutting.proofs.cutter.+fields_list_place_object_place_place.Goals as goal

pub fields-returns-then-from-to : goal.fields-returns-then-from-to
fields-returns-then-from-to t c = search (rules, fields_none)

pub fields-missing-requires : goal.fields-missing-requires
fields-missing-requires t c = (c.requires.0, c.requires.1, some_fields c.requires.2)

pub fields-returns-then-members-k : goal.fields-returns-then-members-k
fields-returns-then-members-k t c = λ ready. put_all_missing ready c.if-members-k.true c.missing.ensures

pub fields-member_from-here-requires : goal.fields-member_from-here-requires
fields-member_from-here-requires t c = search (rules, first_run, first_in_table)

pub fields-frame_end-next-requires : goal.fields-frame_end-next-requires
fields-frame_end-next-requires t c = search (rules, first_framed)

pub fields-fields-requires : goal.fields-fields-requires
fields-fields-requires t c = let falls = first_falls c.requires.2 c.if-from-to.false c.frame_end-next.ensures in (omega (arith, c.decreases), (c.requires.0, c.requires.1, (next_ready c.requires.2 c.if-from-to.false c.member_from-here.ensures c.frame_end-next.ensures refl refl)))

pub fields-returns-in_err-start : goal.fields-returns-in_err-start
fields-returns-in_err-start t c = λ ready. rw c.from_residual.ensures (fields_full ready c.if-from-to.false c.member_from-here.ensures c.frame_end-next.ensures refl refl (c.fields.ensures (next_ready ready c.if-from-to.false c.member_from-here.ensures c.frame_end-next.ensures refl refl)) c.in_err-start.was)

pub fields-is_member-requires : goal.fields-is_member-requires
fields-is_member-requires t c = (here_run c.requires.2 c.if-from-to.false c.member_from-here.ensures, first_in_table c.requires.2 c.if-from-to.false)

pub fields-field_node-requires : goal.fields-field_node-requires
fields-field_node-requires t c = first_named c.requires.2 c.if-from-to.false

pub fields-part_at-requires : goal.fields-part_at-requires
fields-part_at-requires t c = member_part-there c.requires.2 c.if-from-to.false c.member_from-here.ensures (sym c.is_member.ensures ∙ c.if-is_member.true)

pub fields-place-requires : goal.fields-place-requires
fields-place-requires t c = let done = (c.fields.ensures (next_ready c.requires.2 c.if-from-to.false c.member_from-here.ensures c.frame_end-next.ensures refl refl)) in (omega (arith, c.decreases), (told_room done c.requires.0 c.in_ok-start.was, (let same = told_length done c.requires.0.within c.in_ok-start.was in omega (arith, c.requires.1)), (member_ready c.requires.2 c.if-from-to.false c.member_from-here.ensures (sym c.is_member.ensures ∙ c.if-is_member.true) c.field_node.ensures c.part_at.ensures (c.fields.auto.notes) (c.fields.auto.ids))))

pub fields-returns-then-is_member : goal.fields-returns-then-is_member
fields-returns-then-is_member t c = λ ready. put_member ready c.if-from-to.false c.member_from-here.ensures (sym c.is_member.ensures ∙ c.if-is_member.true) c.field_node.ensures c.part_at.ensures (c.fields.auto.notes) (c.fields.auto.ids) c.frame_end-next.ensures refl refl c.requires.0.within (c.fields.ensures (next_ready ready c.if-from-to.false c.member_from-here.ensures c.frame_end-next.ensures refl refl)) c.in_ok-start.was (c.place.ensures (member_ready ready c.if-from-to.false c.member_from-here.ensures (sym c.is_member.ensures ∙ c.if-is_member.true) c.field_node.ensures c.part_at.ensures (c.fields.auto.notes) (c.fields.auto.ids)))

pub fields-empty-requires : goal.fields-empty-requires
fields-empty-requires t c = let done = (c.fields.ensures (next_ready c.requires.2 c.if-from-to.false c.member_from-here.ensures c.frame_end-next.ensures refl refl)) in (told_room done c.requires.0 c.in_ok-start.was, (let same = told_length done c.requires.0.within c.in_ok-start.was in omega (arith, c.requires.1)))

pub fields-returns : goal.fields-returns
fields-returns t c = λ ready. put_missing ready c.if-from-to.false c.member_from-here.ensures c.frame_end-next.ensures refl refl (sym c.is_member.ensures ∙ c.if-is_member.false) c.requires.0.within (c.fields.ensures (next_ready ready c.if-from-to.false c.member_from-here.ensures c.frame_end-next.ensures refl refl)) c.in_ok-start.was c.empty.ensures

pub list_place-bounds-s-0 : goal.list_place-bounds-s-0
list_place-bounds-s-0 t c = let first = list_first c.requires.2 in search rules

pub list_place-returns-in_default : goal.list_place-returns-in_default
list_place-returns-in_default t c = λ ready. put-no_array ready c.of.ensures c.in_default.not-ArrayHead c.place.ensures

pub list_place-members_of-members-requires : goal.list_place-members_of-members-requires
list_place-members_of-members-requires t c = list_container c.requires.2 c.of.ensures c.in-ArrayHead.is

pub list_place-loop-i-init : goal.list_place-loop-i-init
list_place-loop-i-init t c = list_start c.of.ensures c.in-ArrayHead.is c.members_of-members.ensures c.requires.0

pub list_place-part_at-element-requires : goal.list_place-part_at-element-requires
list_place-part_at-element-requires t c = let seen = c.loop-i.invariant in let most = seen.within in let left = c.loop-i-test.true in list_there c.requires.2 c.of.ensures c.in-ArrayHead.is c.members_of-members.ensures (omega arith)

pub list_place-place-requires-in-loop-i : goal.list_place-place-requires-in-loop-i
list_place-place-requires-in-loop-i t c = let seen = c.loop-i.invariant in let most = seen.within in let left = c.loop-i-test.true in (omega (arith, c.decreases), (seen.room, omega (arith, seen.out_size, c.requires.1), element_ready c.requires.2 c.of.ensures c.in-ArrayHead.is c.members_of-members.ensures (omega arith) c.part_at-element.ensures seen.notes_size seen.ids_size))

pub list_place-returns-in_err-start : goal.list_place-returns-in_err-start
list_place-returns-in_err-start t c = let seen = c.loop-i.invariant in let most = seen.within in let left = c.loop-i-test.true in λ ready. rw c.from_residual.ensures (list_full c.of.ensures c.in-ArrayHead.is c.members_of-members.ensures seen c.requires.0.within _ (omega arith) c.part_at-element.ensures c.place-in-loop-i.ensures ready c.in_err-start.was)

pub list_place-loop-i-preserved : goal.list_place-loop-i-preserved
list_place-loop-i-preserved t c = let seen = c.loop-i.invariant in let most = seen.within in let left = c.loop-i-test.true in list_next c.of.ensures c.in-ArrayHead.is c.members_of-members.ensures seen c.requires.0.within _ (omega arith) c.part_at-element.ensures c.place-in-loop-i.ensures c.requires.2 c.in_ok-start.was (c.place-in-loop-i.auto.notes) (c.place-in-loop-i.auto.ids)

pub list_place-enclosed-requires : goal.list_place-enclosed-requires
list_place-enclosed-requires t c = let seen = c.loop-i.invariant in (seen.room, seen.below, omega (arith, seen.out_size, c.requires.0.within), omega (arith, seen.out_size, c.requires.1), omega arith)

pub list_place-returns : goal.list_place-returns
list_place-returns t c = let seen = c.loop-i.invariant in let over = c.loop-i-test.false in λ ready. list_put c.of.ensures c.in-ArrayHead.is c.members_of-members.ensures seen c.requires.0.within (omega arith) c.enclosed.ensures ready

pub object_place-bounds-s-0 : goal.object_place-bounds-s-0
object_place-bounds-s-0 t c = let first = object_first c.requires.2 in search rules

pub object_place-returns-in_default : goal.object_place-returns-in_default
object_place-returns-in_default t c = λ ready. put-no_object ready c.of.ensures c.in_default.not-ObjectHead c.place.ensures

pub object_place-members_of-members-requires : goal.object_place-members_of-members-requires
object_place-members_of-members-requires t c = object_container c.requires.2 c.of.ensures c.in-ObjectHead.is

pub object_place-fields-requires : goal.object_place-fields-requires
object_place-fields-requires t c = let within = c.requires.2.stand.within in let short = c.requires.2.ground.schema_short in (omega (arith, c.decreases), (c.requires.0, c.requires.1, fields_ready c.requires.2 c.of.ensures c.in-ObjectHead.is c.members_of-members.ensures))

pub object_place-returns-in_err-places : goal.object_place-returns-in_err-places
object_place-returns-in_err-places t c = λ ready. rw c.from_residual.ensures (places_full ready c.of.ensures c.in-ObjectHead.is c.members_of-members.ensures refl refl (c.fields.ensures (fields_ready ready c.of.ensures c.in-ObjectHead.is c.members_of-members.ensures)) c.in_err-places.was)

pub object_place-head-requires : goal.object_place-head-requires
object_place-head-requires t c = places_asked c.requires.2 c.of.ensures c.in-ObjectHead.is c.members_of-members.ensures refl refl c.requires.0 c.requires.1 (c.fields.ensures (fields_ready c.requires.2 c.of.ensures c.in-ObjectHead.is c.members_of-members.ensures)) c.in_ok-places.was

pub object_place-returns-in_err-typed : goal.object_place-returns-in_err-typed
object_place-returns-in_err-typed t c = λ ready. rw c.from_residual-in_err-typed.ensures (typed_full ready c.of.ensures c.in-ObjectHead.is c.members_of-members.ensures refl refl c.requires.0.within (c.fields.ensures (fields_ready ready c.of.ensures c.in-ObjectHead.is c.members_of-members.ensures)) c.in_ok-places.was c.head.ensures c.in_err-typed.was)

pub object_place-rest-requires : goal.object_place-rest-requires
object_place-rest-requires t c = let asked = typed_asked c.requires.2 c.of.ensures c.in-ObjectHead.is c.members_of-members.ensures refl refl c.requires.0 c.requires.1 (c.fields.ensures (fields_ready c.requires.2 c.of.ensures c.in-ObjectHead.is c.members_of-members.ensures)) c.in_ok-places.was c.head.ensures c.in_ok-typed.was in (asked.0, asked.1, rest_ready c.requires.2 c.of.ensures c.in-ObjectHead.is c.members_of-members.ensures (c.fields.auto.notes) (c.fields.auto.ids))

pub object_place-returns-in_err-start : goal.object_place-returns-in_err-start
object_place-returns-in_err-start t c = λ ready. rw c.from_residual-in_err-start.ensures (left_full ready c.of.ensures c.in-ObjectHead.is c.members_of-members.ensures (c.fields.auto.notes) (c.fields.auto.ids) c.requires.0.within (c.fields.ensures (fields_ready ready c.of.ensures c.in-ObjectHead.is c.members_of-members.ensures)) c.in_ok-places.was c.head.ensures c.in_ok-typed.was (c.rest.ensures (rest_ready ready c.of.ensures c.in-ObjectHead.is c.members_of-members.ensures (c.fields.auto.notes) (c.fields.auto.ids))) c.in_err-start.was)

pub object_place-head-requires-2 : goal.object_place-head-requires-2
object_place-head-requires-2 t c = left_asked c.requires.2 c.of.ensures c.in-ObjectHead.is c.members_of-members.ensures (c.fields.auto.notes) (c.fields.auto.ids) c.requires.0 c.requires.1 (c.fields.ensures (fields_ready c.requires.2 c.of.ensures c.in-ObjectHead.is c.members_of-members.ensures)) c.in_ok-places.was c.head.ensures c.in_ok-typed.was (c.rest.ensures (rest_ready c.requires.2 c.of.ensures c.in-ObjectHead.is c.members_of-members.ensures (c.fields.auto.notes) (c.fields.auto.ids))) c.in_ok-start.was

pub object_place-shape_of-notes : goal.object_place-shape_of-notes
object_place-shape_of-notes t c = (c.rest.auto.notes) ∙ (c.fields.auto.notes)

pub object_place-shape_of-ids : goal.object_place-shape_of-ids
object_place-shape_of-ids t c = (c.rest.auto.ids) ∙ (c.fields.auto.ids)

pub object_place-returns : goal.object_place-returns
object_place-returns t c = λ ready. object_put ready c.of.ensures c.in-ObjectHead.is c.members_of-members.ensures (c.fields.auto.notes) (c.fields.auto.ids) c.requires.0.within (c.fields.ensures (fields_ready ready c.of.ensures c.in-ObjectHead.is c.members_of-members.ensures)) c.in_ok-places.was c.head.ensures c.in_ok-typed.was (c.rest.ensures (rest_ready ready c.of.ensures c.in-ObjectHead.is c.members_of-members.ensures (c.fields.auto.notes) (c.fields.auto.ids))) c.in_ok-start.was c.head-2.ensures

pub place-kind_at-requires : goal.place-kind_at-requires
place-kind_at-requires t c = search (rules, node_kind)

pub place-column-requires : goal.place-column-requires
place-column-requires t c = search (rules, node_headed)

pub place-overflow_sub-levels : goal.place-overflow_sub-levels
place-overflow_sub-levels t c = search (rules, node_level)

pub place-list_place-requires : goal.place-list_place-requires
place-list_place-requires t c = let level = node_level c.requires.2 in (omega (arith, c.decreases), (c.requires.0, c.requires.1, list_ready c.requires.2 c.kind_at.ensures c.in-List.is))

pub place-frame_end-to-requires : goal.place-frame_end-to-requires
place-frame_end-to-requires t c = search (rules, node_framed)

pub place-overflow_sub-levels-in-Fields : goal.place-overflow_sub-levels-in-Fields
place-overflow_sub-levels-in-Fields t c = search (rules, node_level)

pub place-object_place-requires : goal.place-object_place-requires
place-object_place-requires t c = let level = node_level c.requires.2 in (omega (arith, c.decreases), (c.requires.0, c.requires.1, object_ready c.requires.2 c.kind_at.ensures c.in-Fields.is c.frame_end-to.ensures))

pub place-returns-in-Leftover : goal.place-returns-in-Leftover
place-returns-in-Leftover t c = search (rules, put_leftover)

pub place-returns-in-Column : goal.place-returns-in-Column
place-returns-in-Column t c = search (rules, put_column)

pub place-returns-in-List : goal.place-returns-in-List
place-returns-in-List t c = λ ready. put_list ready c.kind_at.ensures c.in-List.is (c.list_place.ensures (list_ready ready c.kind_at.ensures c.in-List.is))

pub place-returns-in-Fields : goal.place-returns-in-Fields
place-returns-in-Fields t c = λ ready. put_object ready c.kind_at.ensures c.in-Fields.is c.frame_end-to.ensures (c.object_place.ensures (object_ready ready c.kind_at.ensures c.in-Fields.is c.frame_end-to.ensures))
