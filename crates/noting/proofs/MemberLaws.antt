-- A typed member noted behind the lower ones of a leftover: it stands where the merge puts it.
use mathlib.Core.List.{List, [], ◌∷◌}
use mathlib.Core.Path.{◌≡◌, ap, ◌∙◌}
use Prim.Native.Nat.{ℕ, ◌+◌, ◌-◌, ◌≤◌}
use native.Mathlib.Omega.{arith}
use lib.ListN.{get_or, drop}
use Rattle.noting.proofs.AddedLaws.{added_behind}
use Rattle.noting.specs.Adding.{NoteRoom, Added, LeftAdded, FieldAdded, high_notes}
use Rattle.noting.specs.Notes.{Note, note_rank}

pub less_room : {places ids : List ℕ} {most : ℕ} → NoteRoom places ids most → (fewer : ℕ) → fewer ≤ most → NoteRoom places ids fewer
less_room room fewer h = record { places_room = omega (arith, room.places_room); ids_room = omega (arith, room.ids_room) }

module _ {ranks : List ℕ} {lefts : List Note} {from count : ℕ} {places₀ ids₀ : List ℕ} {n : ℕ} {places ids : List ℕ} {next bound : ℕ}
    (lower : LeftAdded ranks lefts from count bound places₀ ids₀ n places ids next) where
  pub field_room : NoteRoom places₀ ids₀ (n + (count - from) + 1) → NoteRoom places ids (n + (next - from) + 1)
  field_room room =
      let added = lower.added in
      record {
        places_room = omega (arith, room.places_room, added.places_size, lower.forward, lower.within);
        ids_room = omega (arith, room.ids_room, added.ids_size, lower.forward, lower.within);
      }

  pub field_added : (note : Note) → bound ≡ get_or ranks note.id 0 → {places-after ids-after : List ℕ}
      → Added (note ∷ []) places ids (n + (next - from)) places-after ids-after (n + (next - from) + 1)
      → FieldAdded ranks lefts note from count places₀ ids₀ n places-after ids-after next
  field_added note ranked one =
      let bound-is : bound ≡ note_rank ranks note = unfold note_rank in ranked in
      record {
        forward = lower.forward;
        within = lower.within;
        left = lower.left ∙ ap (λ (b : ℕ). high_notes ranks b (drop from lefts)) bound-is;
        added = rw (← bound-is) (added_behind lower.added one);
      }
