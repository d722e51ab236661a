-- Notes added behind those that stand in the tables: one, and some behind others.
use mathlib.Core.List.{List, [], ◌∷◌, ◌++◌, map, append_assoc, append-nil, map-append}
use mathlib.Core.Path.{◌≡◌, refl, sym, ap, ◌∙◌}
use Prim.Native.Nat.{ℕ, suc, ◌+◌, ◌*◌, ◌≤◌, ◌<◌}
use native.Mathlib.Numerals.{add-one}
use native.Mathlib.Omega.{arith}
use lib.ListN.{length, get_or, set, length-append, length-set, length-map}
use lib.Seq.{get_or-set_same, get_or-set_other}
use Rattle.numbers.specs.Little.{number, number_bytes, put_at}
use Rattle.paper.specs.Bounds.{most_walked}
use Rattle.paper.specs.Words.{numbers}
use Rattle.numbers.proofs.NumberLaws.{length-number_bytes, read_back}
use Rattle.numbers.proofs.PutLaws.{length_put}
use Rattle.noting.proofs.FrontLaws.{one_further, numbers_put}
use Rattle.noting.specs.Adding.{NoteRoom, Added}
use Rattle.noting.specs.Notes.{Note, Noted}

-- ---- one note

-- A note that the code has entered.
pub record Entered (note : Note) (places ids : List ℕ) (n : ℕ) (places-after ids-after : List ℕ) : Type 0 where
  pub room : NoteRoom places ids (n + 1)
  pub low : note.id < most_walked
  pub put : places-after ≡ set (set places (2 * n) note.place) (2 * n + 1) note.field
  pub wrote : ids-after ≡ put_at ids (2 * n) (number_bytes 2 note.id)

module _ {note : Note} {places ids : List ℕ} {n : ℕ} {places-after ids-after : List ℕ} (entered : Entered note places ids n places-after ids-after) where
  two : 2 * n + 2 ≤ length places
  two = let room = entered.room.places_room in omega arith

  written : suc n * 2 ≤ length ids
  written = let room = entered.room.ids_room in omega arith

  places_long : length places-after ≡ length places
  places_long = ap length entered.put ∙ simp (length-set)

  ids_long : length ids-after ≡ length ids
  ids_long =
      let room = entered.room.ids_room in
      let size : length (number_bytes 2 note.id) ≡ 2 = length-number_bytes 2 note.id in
      ap length entered.wrote ∙ length_put ids (2 * n) (number_bytes 2 note.id) (omega arith)

  entry_kept : (j : ℕ) → j < 2 * n → get_or places-after j 0 ≡ get_or places j 0
  entry_kept j h =
      ap (λ (l : List ℕ). get_or l j 0) entered.put
      ∙ get_or-set_other (set places (2 * n) note.place) (2 * n + 1) j note.field 0 (λ e. omega arith)
      ∙ get_or-set_other places (2 * n) j note.place 0 (λ e. omega arith)

  place_entered : get_or places-after (2 * n) 0 ≡ note.place
  place_entered =
      let room = two in
      ap (λ (l : List ℕ). get_or l (2 * n) 0) entered.put
      ∙ get_or-set_other (set places (2 * n) note.place) (2 * n + 1) (2 * n) note.field 0 (λ e. omega arith)
      ∙ get_or-set_same places (2 * n) note.place 0 (omega arith)

  field_entered : get_or places-after (2 * n + 1) 0 ≡ note.field
  field_entered =
      let room = two in
      let size : length (set places (2 * n) note.place) ≡ length places = length-set places (2 * n) note.place in
      ap (λ (l : List ℕ). get_or l (2 * n + 1) 0) entered.put
      ∙ get_or-set_same (set places (2 * n) note.place) (2 * n + 1) note.field 0 (omega arith)

  ids_entered : numbers 2 (n + 1) ids-after ≡ numbers 2 n ids ++ (note.id ∷ [])
  ids_entered =
      let same : 2 * n ≡ n * 2 = omega arith in
      let back : number (number_bytes 2 note.id) ≡ note.id = read_back 2 note.id entered.low in
      ap (numbers 2 (n + 1)) entered.wrote
      ∙ rw (add-one n, same, numbers_put 2 n ids (number_bytes 2 note.id) (omega arith) (length-number_bytes 2 note.id) written, back)

  each_entered : (f : Note → ℕ) (entry : ℕ → ℕ) (notes : List Note) → n ≡ length notes → ((k : ℕ) → k < n → entry k ≡ get_or (map f notes) k 0) → entry n ≡ f note
      → (k : ℕ) → k < n + 1 → entry k ≡ get_or (map f (notes ++ (note ∷ []))) k 0
  each_entered f entry notes size each last k h =
      rw (map-append f notes (note ∷ [])) (one_further entry (map f notes) (f note) (length-map notes f ∙ sym size) each last k h)

  pub one_added : Added (note ∷ []) places ids n places-after ids-after (n + 1)
  one_added =
      record {
        places_size = places_long;
        ids_size = ids_long;
        noted = λ notes noted.
            record {
              size = ap (λ (k : ℕ). k + 1) noted.size ∙ sym (length-append notes (note ∷ []));
              places_room = rw places_long entered.room.places_room;
              ids_room = rw ids_long entered.room.ids_room;
              ids_are = ids_entered ∙ ap (λ (l : List ℕ). l ++ (note.id ∷ [])) noted.ids_are ∙ sym (map-append (λ (m : Note). m.id) notes (note ∷ []));
              place_is = each_entered (λ m. m.place) (λ k. get_or places-after (2 * k) 0) notes noted.size
                  (λ k h. entry_kept (2 * k) (omega arith) ∙ noted.place_is k h) place_entered;
              field_is = each_entered (λ m. m.field) (λ k. get_or places-after (2 * k + 1) 0) notes noted.size
                  (λ k h. entry_kept (2 * k + 1) (omega arith) ∙ noted.field_is k h) field_entered;
            };
      }

-- ---- none, and some behind others

pub none_added : (places ids : List ℕ) (n : ℕ) → Added [] places ids n places ids n
none_added places ids n = record { places_size = refl; ids_size = refl; noted = λ notes noted. rw (append-nil notes) noted }

module _ {first second : List Note} {places₀ ids₀ places₁ ids₁ places₂ ids₂ : List ℕ} {n₀ n₁ n₂ : ℕ} where
  pub added_behind : Added first places₀ ids₀ n₀ places₁ ids₁ n₁ → Added second places₁ ids₁ n₁ places₂ ids₂ n₂
      → Added (first ++ second) places₀ ids₀ n₀ places₂ ids₂ n₂
  added_behind a b =
      record {
        places_size = b.places_size ∙ a.places_size;
        ids_size = b.ids_size ∙ a.ids_size;
        noted = λ notes noted. rw (← append_assoc notes first second) (b.noted (notes ++ first) (a.noted notes noted));
      }

-- Notes added to none are all that stand there.
pub all_added : {notes : List Note} {places ids places-after ids-after : List ℕ} {n : ℕ} → Added notes places ids 0 places-after ids-after n
    → Noted notes places-after ids-after n
all_added added =
    added.noted []
    (record {
      size = refl;
      places_room = omega arith;
      ids_room = omega arith;
      ids_are = unfold numbers in refl;
      place_is = λ k h. absurd (omega arith);
      field_is = λ k h. absurd (omega arith);
    })
