-- The loop that notes the members that are left, for each reading of what was lent.
use mathlib.Core.Bool.{Bool, true, false, not}
use mathlib.Core.List.{List, append-nil}
use mathlib.Core.Path.{◌≡◌, refl, sym, ◌∙◌}
use Prim.Native.Nat.{ℕ, ◌+◌, ◌*◌, ◌/◌, ◌≤◌, ◌<◌}
use native.Mathlib.Omega.{arith}
use borrow.Author.Tests.{not-true, not-false}
use lib.ListN.{length, set, length-set}
use Rattle.fields.specs.Telling.{entry_place}
use Rattle.members.proofs.FromLaws.{no_member}
use Rattle.members.proofs.HeldLaws.{held_from}
use Rattle.members.specs.Members.{IdThere, member_id}
use Rattle.members.specs.declared.Members.{Members}
use Rattle.numbers.proofs.NumberLaws.{length-number_bytes}
use Rattle.numbers.proofs.PutLaws.{length_put}
use Rattle.numbers.specs.Little.{number_bytes, put_at}
use Rattle.paper.specs.Bounds.{most_walked}
use Rattle.paper.specs.Meaning.{no_fields}
use Rattle.paper.specs.Normal.{field_names, member_bytes}
use Rattle.paper.specs.Shredding.{unnamed}
use Rattle.paper.specs.Words.{numbers}
use Rattle.remainder.specs.Left.{noted_parts, SomeReady, AllLeft}
use Rattle.remainder.specs.Passing.{names_id, Fielded, AllPassed}
use Rattle.remainder.proofs.LeftLaws.{LeftSeen, fielded, entry_there, first, seen_named, seen_left}

pub record NoteSeen (schema table : List ℕ) (from to : ℕ) (s : List ℕ) (m : Members) (notes₀ ids₀ notes ids : List ℕ) (n place k : ℕ) : Type 0 where
  pub few : n ≤ k
  pub within : k ≤ m.count
  pub notes_size : length notes ≡ length notes₀
  pub ids_size : length ids ≡ length ids₀
  pub each : (some : SomeReady schema table from to s m (length notes₀) (length ids₀)) → LeftSeen some.ready notes ids n place k

pub note_start : (schema table : List ℕ) (from to : ℕ) (s : List ℕ) (m : Members) (notes ids : List ℕ) → NoteSeen schema table from to s m notes ids notes ids 0 from 0
note_start schema table from to s m notes ids =
    record {
      few = omega arith;
      within = omega arith;
      notes_size = refl;
      ids_size = refl;
      each = λ some.
          record {
            columns = some.ready.columns;
            left = some.ready.fs;
            stand = some.ready.stand;
            told = some.ready.told;
            members = held_from some.ready.held;
            rise = some.ready.rise;
            there = some.ready.there;
            noted = record { room = omega arith; there = λ i h. absurd (omega arith) };
            parts_whole = refl;
            ids_whole = unfold numbers in refl;
          };
    }

module _ {schema table : List ℕ} {from to : ℕ} {s : List ℕ} {m : Members} {notes₀ ids₀ notes ids : List ℕ} {n place k : ℕ}
    (seen : NoteSeen schema table from to s m notes₀ ids₀ notes ids n place k) where
  pub note_done : m.count ≤ k → AllLeft schema table from to s m (length notes₀) (length ids₀) notes ids n
  unfolding unnamed member_bytes field_names
  note_done over =
      record {
        each = λ some.
            let last = seen.each some in
            let none : last.left ≡ no_fields = no_member last.members over in
            let few = seen.few in
            let within = seen.within in
            let same = seen.ids_size in
            let room = some.ready.ids_room in
            record {
              within = omega arith;
              noted = last.noted;
              parts_are = sym (last.parts_whole ∙ rw none (append-nil (noted_parts s m notes n)));
              ids_room = omega arith;
              ids_are = sym (last.ids_whole ∙ rw none (append-nil (numbers 2 n ids)));
            };
      }

  -- What a turn asks, by any reading.
  module _ (some : SomeReady schema table from to s m (length notes₀) (length ids₀)) (h : k < m.count) where
    pub note_id : IdThere s m k
    note_id = (first (seen.each some) h).id_there

    pub note_fields : Fielded schema table place to
    note_fields = fielded (seen.each some)

    pub note_tabled : length schema / 9 ≤ length table
    note_tabled = some.ready.ground.tabled

    pub note_entry : {id next : ℕ} → AllPassed schema table place to id next → next < to → entry_place next < length table
    note_entry passed here = entry_there (seen.each some) (passed.each (fielded (seen.each some))) here

    pub note_number : k < most_walked
    note_number = let below = note_id.few in omega arith

    pub note_place : n < length notes
    note_place = let few = seen.few in let same = seen.notes_size in let room = some.ready.notes_room in omega arith

    pub note_ids : 2 * n + 2 ≤ length ids
    note_ids = let few = seen.few in let same = seen.ids_size in let room = some.ready.ids_room in omega arith

  module _ (h : k < m.count) {id : ℕ} (id_is : id ≡ member_id s m k) {next : ℕ} (passed : AllPassed schema table place to id next)
      {names : Bool} (told : names ≡ names_id table next to id) where
    pub note_named : not names ≡ false → {notes₁ ids₁ : List ℕ} {n₁ : ℕ} → notes₁ ≡ notes → ids₁ ≡ ids → n₁ ≡ n
        → NoteSeen schema table from to s m notes₀ ids₀ notes₁ ids₁ n₁ next (k + 1)
    note_named e notes-are ids_are n-is =
        let few = seen.few in
        rw (notes-are, ids_are, n-is)
        (record {
          few = omega arith;
          within = omega arith;
          notes_size = seen.notes_size;
          ids_size = seen.ids_size;
          each = λ some. seen_named (seen.each some) h id_is (passed.each (fielded (seen.each some))) (sym told ∙ not-false names e);
        })

    pub note_left_lem : SomeReady schema table from to s m (length notes₀) (length ids₀) → not names ≡ true
        → {notes₁ ids₁ : List ℕ} {n₁ : ℕ} → notes₁ ≡ set notes n k → ids₁ ≡ put_at ids (2 * n) (number_bytes 2 id) → n₁ ≡ n + 1
        → NoteSeen schema table from to s m notes₀ ids₀ notes₁ ids₁ n₁ next (k + 1)
    note_left_lem some e notes-are ids_are n-is =
        let few = seen.few in
        let room : 2 * n + length (number_bytes 2 id) ≤ length ids = rw length-number_bytes (note_ids some h) in
        rw (notes-are, ids_are, n-is)
        (record {
          few = omega arith;
          within = omega arith;
          notes_size = length-set notes n k ∙ seen.notes_size;
          ids_size = length_put ids (2 * n) (number_bytes 2 id) room ∙ seen.ids_size;
          each = λ some.
              seen_left (seen.each some) h id_is (passed.each (fielded (seen.each some))) (sym told ∙ not-true names e) (note_place some h) (note_ids some h);
        })
