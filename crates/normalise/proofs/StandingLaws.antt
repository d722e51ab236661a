-- A scalar that is its own normal form: by its first byte, and that it is handed out as it stands, without names.
use Rattle.paper.specs.Refusals.{DocumentAnswer}
use Rattle.std.specs.Prelude.{Some}
use mathlib.Core.Bool.{Bool, true, false, cond, ◌&&◌, and-false}
use mathlib.Core.List.{List, []}
use mathlib.Core.Path.{◌≡◌, refl, sym, ap, ◌∙◌}
use Prim.Native.Nat.{ℕ, ◌-◌, ◌/◌, ◌%◌, ◌≤◌, ◌<◌}
use native.Mathlib.Omega.{arith}
use borrow.Author.Tests.{le-leb, lt-leb, ne_eqb, ltb-true}
use lib.Dec.{leb, ltb, eqb}
use lib.ListN.{length, get_or}
use Rattle.dictionary.specs.Lent.{LentNames}
use Rattle.marking.proofs.UsedIdLaws.{ids_used}
use Rattle.marking.specs.Ids.{ids_by, ids_in, holds}
use Rattle.names.proofs.UsedLaws.{names_are}
use Rattle.names.specs.Used.{used_in}
use Rattle.naming.specs.Chosen.{chosen_names, Chosen}
use Rattle.normalise.specs.Answered.{Answered, Lent, Standing}
use Rattle.paper.proofs.WordLaws.{never}
use Rattle.paper.specs.FirstBytes.{length_prefixed, payload_sizes, primitive_reading, kind_reading, reading_of}
use Rattle.paper.specs.Limits.{most_levels}
use Rattle.paper.specs.Meaning.{Doc}
use Rattle.paper.specs.Metadata.{rising}
use Rattle.paper.specs.Normal.{names_used, normal_form}
use Rattle.paper.specs.Operations.{written}
use Rattle.paper.specs.Values.{meaning_of, names_at}
use Rattle.paper.specs.Words.{at, among, all_below, joined}
use Rattle.paper.specs.declared.Reading.TheVariants.{Fixed, Prefixed, Short}
use Rattle.paper.specs.declared.Reading.{Reading}
use Rattle.writing.proofs.MeaningLaws.{rewritten_is}
use Rattle.writing.specs.Rewritten.{shortened, rewritten_by, rewritten}
use Rattle.writing.specs.Written.{Right}

-- ---- by the first byte

module _ (s : List ℕ) where
  by_reading : (r : Reading) → reading_of (at s 0) ≡ r
      → ((inner : List ℕ → List ℕ) (ranks : List ℕ) → rewritten_by inner ranks r s ≡ s) → ((inner : List ℕ → List ℕ) → ids_by inner r s ≡ []) → Standing s
  unfolding rewritten ids_in
  by_reading r e same none_used =
      record {
        same = λ ranks. ap (λ (q : Reading). rewritten_by (rewritten (most_levels - 1) ranks) ranks q s) e ∙ same _ ranks;
        none_used = ap (λ (q : Reading). ids_by (ids_in (most_levels - 1)) q s) e ∙ none_used _;
      }

  pub short_stands : at s 0 % 4 ≡ 1 → Standing s
  unfolding reading_of kind_reading rewritten_by ids_by
  short_stands e = by_reading (Short (at s 0 / 4)) (rw e) (λ inner ranks. refl) (λ inner. refl)

  module _ (kind : at s 0 % 4 ≡ 0) (known : at s 0 ≤ 80) where
    primitive_stands : eqb (at s 0 / 4) 16 && leb (length s) 68 ≡ false → Standing s
    unfolding reading_of kind_reading primitive_reading
    primitive_stands kept = go (eqb (get_or payload_sizes (at s 0 / 4) 0) length_prefixed) (rw (kind, le-leb (at s 0 / 4) 20 (omega arith)))
      where
        go : (b : Bool) → reading_of (at s 0) ≡ cond b (Prefixed (at s 0 / 4)) (Fixed (at s 0 / 4) (get_or payload_sizes (at s 0 / 4) 0)) → Standing s
        go true e = by_reading (Prefixed (at s 0 / 4)) e (λ inner ranks. unfold rewritten_by shortened in rw kept) (λ inner. unfold ids_by in refl)
        go false e = by_reading (Fixed (at s 0 / 4) _) e (λ inner ranks. unfold rewritten_by in refl) (λ inner. unfold ids_by in refl)

    pub other_stands : (at s 0 ≡ 64 → ⊥) → Standing s
    other_stands other = primitive_stands (rw (ne_eqb (at s 0 / 4) 16 (λ e. other (omega (arith, e)))))

    pub long_stands : ltb 68 (length s) ≡ true → Standing s
    long_stands long = primitive_stands (rw (lt-leb (length s) 68 (ltb-true 68 (length s) long), and-false (eqb (at s 0 / 4) 16)))

-- ---- it is handed out without names

pub no_choice : {dictionary : LentNames} {v : List ℕ} → Lent dictionary v → Chosen dictionary []
unfolding all_below joined names_at
no_choice lent = record { few = omega arith; known = refl; small = lent.metadata_short; short = omega arith }

pub stands_answers : {dictionary : LentNames} {v : List ℕ} → Lent dictionary v → ((i : ℕ) → get_or v i 0 < 256) → (b : Bool) → (b ≡ true → Standing v) → b ≡ true
    → {first first' second second' : List ℕ} {a : DocumentAnswer}
    → ((d : Doc) → chosen_names dictionary.names [] ≡ names_used d → v ≡ (normal_form d).value → Answered (written d) first first' second second' a)
    → (d : Doc) → meaning_of most_levels dictionary.names v ≡ Some d → Answered (written d) first first' second second' a
unfolding normal_form names_at holds rising
stands_answers {dictionary} {v} lent bytes b told e answers d means =
    let standing = told e in
    let short = lent.value_short in
    let exact : (name : List ℕ) → among name [] ≡ used_in name d =
    λ name. ap (λ (ids : List ℕ). among name (names_at dictionary.names ids)) (sym standing.none_used) ∙ ids_used most_levels dictionary.names v d means name in
    let right : Right dictionary.names (names_used d) [] (ids_in most_levels v) =
    λ id held. never (sym (sym (ap (holds id) standing.none_used) ∙ held)) in
    let own = sym (standing.same []) ∙ rewritten_is most_levels dictionary.names (names_used d) [] v d means bytes (omega arith) right in
    answers d (names_are d [] refl exact) own
