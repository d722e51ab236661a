-- `note_fields`: what is left of the fields and of the leftover's members is merged behind what stands in the tables.
use Prim.Native.Nat.{◌-◌}
use lib.ListN.{length}
use Rattle.noting.specs.Notes.{left_notes}
use Rattle.noting.proofs.FieldLaws.{MembersSeen}
use Rattle.noting.proofs.members.note_fields.Given as goal

abbrev pub invariant-loop-field : goal.invariant-loop-field
invariant-loop-field l = MembersSeen l.ranks l.schema l.table l.from l.to l.lefts (left_notes l.lefts l.starts) (length l.lefts) l.body l.initial.places l.initial.ids l.places l.ids l.n l.left l.field l.at

abbrev pub decreases-loop-field : goal.decreases-loop-field
decreases-loop-field l = l.to - l.field
