use mathlib.Core.Bool.{not}
use mathlib.Core.Path.{ap, ◌∙◌}
use borrow.Author.Rules.{rules}
use Rattle.remainder.proofs.NoteLaws.{note_start, note_done, note_id, note_fields, note_tabled, note_entry, note_number, note_place, note_ids, note_named, note_left_lem}
use Rattle.remainder.proofs.left.note_left.Goals as goal
use Rattle.remainder.proofs.left.note_left.Goals.{then-not-names_id, else-not-names_id}

pub loop-k-init : goal.loop-k-init
loop-k-init c = search (rules, note_start)

pub id_at-id-requires : goal.id_at-id-requires
id_at-id-requires c = search (rules, note_id)

pub pass-place-requires : goal.pass-place-requires
pass-place-requires c = (search (rules, note_fields), search (rules, note_tabled))

pub names_id-requires : goal.names_id-requires
names_id-requires c = search (rules, note_entry)

pub overflow_cast-notes : goal.overflow_cast-notes
overflow_cast-notes c = search (rules, note_number)

pub bounds-notes-n : goal.bounds-notes-n
bounds-notes-n c = search (rules, note_place)

pub write-requires : goal.write-requires
write-requires c = search (rules, note_ids)

-- A member is noted, or it is named.
pub loop-k-preserved : goal.loop-k-preserved
loop-k-preserved c = let pre = c.requires in
    elim c.if-not-names_id.branch [
      | then-not-names_id w ↦ note_left_lem c.loop-k.invariant c.loop-k-test.true c.id_at-id.ensures c.pass-place.ensures c.names_id.ensures pre
          (ap not w.if-not-names_id.true) w.notes-is (w.ids-is ∙ w.write.ensures) w.n-is
      | else-not-names_id w ↦ search (rules, note_named)
    ]

pub returns : goal.returns
returns c = search (rules, note_done)
