-- `note_field`: the lower ones, and the member behind them.
use native.Mathlib.Omega.{arith}
use Rattle.noting.proofs.MemberLaws.{less_room, field_room, field_added}
use Rattle.noting.proofs.members.note_field.Goals as goal

pub note_left-next-requires : goal.note_left-next-requires
note_left-next-requires c = let pre = c.requires in
    (pre.0, pre.1, pre.2, less_room pre.3 _ (omega arith))

pub overflow_sub-next : goal.overflow_sub-next
overflow_sub-next c = c.note_left-next.ensures.forward

pub note-requires : goal.note-requires
note-requires c = let pre = c.requires in
    (field_room c.note_left-next.ensures pre.3, pre.5, pre.6, pre.7)

pub returns : goal.returns
returns c = field_added c.note_left-next.ensures _ c.normal_of-normal.ensures c.note.ensures
