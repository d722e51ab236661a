-- A value under a column: by its first byte it is a cell exactly when its type is the column's.
use mathlib.Core.Bool.{Bool, true, false, cond}
use mathlib.Core.List.{List, [], ◌∷◌}
use mathlib.Core.Path.{◌≡◌, refl, sym, ap, ◌∙◌}
use Prim.Native.Nat.{ℕ, zero, suc, ◌+◌, ◌*◌, ◌≤◌}
use native.Mathlib.Omega.{arith}
use borrow.Author.Tests.{eqb-true, eqb-false, ne_eqb}
use lib.Dec.{leb, eqb}
use lib.ListN.{length, drop}
use lib.Seq.{drop_at}
use Rattle.enclosing.specs.Frames.{place_of, typed_if, fixed_place, column_place, Headed}
use Rattle.forms.proofs.FirstByteLaws.{short_reading, string_reading, binary_reading, fixed_reading}
use Rattle.forms.proofs.ScalarLaws.{prefixed_length, payload_parts}
use Rattle.forms.specs.WellFormed.{scalar_good, well_formed_by, well_formed}
use Rattle.members.proofs.HeldLaws.{array_reads, object_reads}
use Rattle.members.proofs.ShapeLaws.{value_there}
use Rattle.numbers.proofs.NumberLaws.{length-number_bytes}
use Rattle.numbers.specs.Little.{number_bytes}
use Rattle.paper.proofs.WordLaws.{never}
use Rattle.paper.specs.Cells.{takes, cell_bytes}
use Rattle.paper.specs.FirstBytes.{length_prefixed, payload_sizes, primitive_reading, kind_reading, reading_of}
use Rattle.paper.specs.Limits.{most_value}
use Rattle.paper.specs.Meaning.{Scalar, boolean, payload, text, Doc, null, scalar, array, object}
use Rattle.paper.specs.Metadata.{Dictionary}
use Rattle.paper.specs.Normal.{prefixed_bytes, text_bytes, scalar_bytes, value_bytes}
use Rattle.paper.specs.Rows.{typed, leftover, cell}
use Rattle.paper.specs.Schemas.{Column, column, column_code}
use Rattle.paper.specs.Shredding.{cut, cut_scalar, place_bytes, typed_bytes}
use Rattle.paper.specs.Words.{at}
use Rattle.paper.specs.declared.Reading.TheVariants.{Prefixed}
use Rattle.paper.specs.declared.Reading.{Reading}

-- What is typed or left over, by a test.
by_test : (names : Dictionary) (said : Column) (a : Scalar) (b : Bool)
    → place_bytes names (cond b (typed (cell said a)) (leftover (scalar a))) ≡ typed_if b (cell_bytes said a) (scalar_bytes a)
unfolding place_bytes typed_bytes typed_if place_of value_bytes
by_test names said a true = refl
by_test names said a false = refl

-- Of the types that only values have, none is a column's code.
no_code : (code other : ℕ) → column_code code ≡ true → column_code other ≡ false → eqb code other ≡ false
no_code code other known unknown = ne_eqb code other (λ e. never (sym known ∙ ap column_code e ∙ unknown))

behind_length : (type : ℕ) (s : List ℕ) → drop 5 (prefixed_bytes type s) ≡ s
unfolding prefixed_bytes
behind_length type s = drop_at ((4 * type) ∷ number_bytes 4 (length s)) s 5 (ap suc (length-number_bytes 4 (length s)))

module _ (said : Column) (known : column_code said.code ≡ true) where
  abbrev code : ℕ
  code = said.code

  -- The place of a scalar, by what its first byte says.
  abbrev Cut : Scalar → Type 0
  Cut a = column_place code (reading_of (at (scalar_bytes a) 0)) (scalar_bytes a) ≡ typed_if (takes said a) (cell_bytes said a) (scalar_bytes a)

  true_cut : Cut (boolean true)
  unfolding scalar_bytes takes cell_bytes column_place fixed_place typed_if reading_of kind_reading primitive_reading payload_sizes length_prefixed
  true_cut = go (eqb code 1)
    where
      go : (b : Bool) → cond b (place_of 0x42 (0x01 ∷ [])) (cond b (place_of 0x42 []) (place_of 0x41 (0x04 ∷ []))) ≡ cond b (place_of 0x42 (0x01 ∷ [])) (place_of 0x41 (0x04 ∷ []))
      go true = refl
      go false = refl

  false_cut : Cut (boolean false)
  unfolding scalar_bytes takes cell_bytes column_place fixed_place typed_if reading_of kind_reading primitive_reading payload_sizes length_prefixed column_code
  false_cut = rw (no_code code 2 known refl) (go (eqb code 1))
    where
      go : (b : Bool) → cond b (place_of 0x42 (0x00 ∷ [])) (place_of 0x41 (0x08 ∷ [])) ≡ cond b (place_of 0x42 (0x00 ∷ [])) (place_of 0x41 (0x08 ∷ []))
      go true = refl
      go false = refl

  -- With its length in front, and of a fixed size.
  prefixed_cut : (type : ℕ) (s : List ℕ) → reading_of (4 * type) ≡ Prefixed type
      → column_place code (reading_of (at (prefixed_bytes type s) 0)) (prefixed_bytes type s) ≡ typed_if (eqb code type) s (prefixed_bytes type s)
  unfolding column_place
  prefixed_cut type s says =
      let first : reading_of (at (prefixed_bytes type s) 0) ≡ Prefixed type = unfold prefixed_bytes in says in
      rw (first, behind_length type s)

  fixed_cut : (type : ℕ) (s : List ℕ) → 3 ≤ type → fixed_place code type ((4 * type) ∷ s) ≡ typed_if (eqb code type) s ((4 * type) ∷ s)
  unfolding fixed_place typed_if
  fixed_cut type s least = rw (ne_eqb type 1 (λ e. omega arith), ne_eqb type 2 (λ e. omega arith)) (go (eqb code 1) refl)
    where
      go : (b : Bool) → eqb code 1 ≡ b
          → cond b (place_of 0x41 ((4 * type) ∷ s)) (cond (eqb code type) (place_of 0x42 s) (place_of 0x41 ((4 * type) ∷ s)))
          ≡ cond (eqb code type) (place_of 0x42 s) (place_of 0x41 ((4 * type) ∷ s))
      go true e = let one = eqb-true code 1 e in rw (ne_eqb code type (λ f. omega arith))
      go false e = refl

  payload_cut : (type : ℕ) (s : List ℕ) → scalar_good (payload type s) ≡ true → Cut (payload type s)
  unfolding scalar_bytes takes cell_bytes column_place fixed_place
  payload_cut type s good = go (eqb type 15) refl
    where
      go : (b : Bool) → eqb type 15 ≡ b
          → column_place code (reading_of (at (cond b (prefixed_bytes type s) ((4 * type) ∷ s)) 0)) (cond b (prefixed_bytes type s) ((4 * type) ∷ s))
          ≡ typed_if (eqb code type) s (cond b (prefixed_bytes type s) ((4 * type) ∷ s))
      go true e = let binary : type ≡ 15 = eqb-true type 15 e in prefixed_cut type s (rw binary binary_reading)
      go false e =
          let parts = payload_parts type s good in
          rw (fixed_reading type parts.most (eqb-false type 15 e) parts.no_string) (fixed_cut type s parts.least)

  text_cut : (s : List ℕ) → Cut (text s)
  unfolding scalar_bytes takes cell_bytes column_place text_bytes
  text_cut s = go (leb (length s) 63)
    where
      go : (b : Bool) → column_place code (reading_of (at (cond b ((4 * length s + 1) ∷ s) (prefixed_bytes 16 s)) 0)) (cond b ((4 * length s + 1) ∷ s) (prefixed_bytes 16 s))
          ≡ typed_if (eqb code 16) s (cond b ((4 * length s + 1) ∷ s) (prefixed_bytes 16 s))
      go true = rw (short_reading (length s))
      go false = prefixed_cut 16 s string_reading

  scalar_cut : (a : Scalar) → scalar_good a ≡ true → Cut a
  scalar_cut (boolean true) good = true_cut
  scalar_cut (boolean false) good = false_cut
  scalar_cut (payload type s) good = payload_cut type s good
  scalar_cut (text s) good = text_cut s

  -- Null, an array and an object are no column's.
  null_cut : (names : Dictionary) → place_bytes names (leftover null) ≡ column_place code (reading_of 0) (0x00 ∷ [])
  unfolding place_bytes value_bytes column_place fixed_place typed_if place_of reading_of kind_reading primitive_reading payload_sizes length_prefixed column_code
  null_cut names = rw (no_code code 0 known refl) (go (eqb code 1))
    where
      go : (b : Bool) → place_of 0x41 (0x00 ∷ []) ≡ cond b (place_of 0x41 (0x00 ∷ [])) (place_of 0x41 (0x00 ∷ []))
      go true = refl
      go false = refl

  left_cut : (names : Dictionary) (d : Doc) (r : Reading) → reading_of (at (value_bytes names d) 0) ≡ r → column_place code r (value_bytes names d) ≡ place_of 0x41 (value_bytes names d)
      → place_bytes names (leftover d) ≡ column_place code (reading_of (at (value_bytes names d) 0)) (value_bytes names d)
  unfolding place_bytes place_of
  left_cut names d r says left = sym (rw says left)

  pub column_cut : (names : Dictionary) (depth : ℕ) (d : Doc) → well_formed depth d ≡ true
      → place_bytes names (cut (column said) d) ≡ column_place code (reading_of (at (value_bytes names d) 0)) (value_bytes names d)
  unfolding well_formed well_formed_by cut cut_scalar value_bytes column_place
  column_cut names zero d good = never (sym good)
  column_cut names (suc depth) null good = null_cut names
  column_cut names (suc depth) (scalar a) good = by_test names said a (takes said a) ∙ sym (scalar_cut a good)
  column_cut names (suc depth) (array ds) good = left_cut names (array ds) _ (array_reads _) refl
  column_cut names (suc depth) (object fs) good = left_cut names (object fs) _ (object_reads _ _) refl

-- ---- what a column asks of a value

-- A reading that is no length in front.
not_prefixed : {A : Type 0} {r : Reading} {kind : ℕ} → (r ≡ Prefixed kind → ◌≡◌ {A = ℕ} 0 1) → r ≡ Prefixed kind → A
not_prefixed other says = let z = other says in absurd (omega arith)

scalar_prefix : (a : Scalar) → scalar_good a ≡ true → (kind : ℕ) → reading_of (at (scalar_bytes a) 0) ≡ Prefixed kind → 5 ≤ length (scalar_bytes a)
unfolding scalar_bytes text_bytes reading_of kind_reading primitive_reading payload_sizes length_prefixed
scalar_prefix (boolean true) good kind says = not_prefixed (λ e. cc) says
scalar_prefix (boolean false) good kind says = not_prefixed (λ e. cc) says
scalar_prefix (payload type s) good kind says = go (eqb type 15) refl says
  where
    go : (b : Bool) → eqb type 15 ≡ b → reading_of (at (cond b (prefixed_bytes type s) ((4 * type) ∷ s)) 0) ≡ Prefixed kind
        → 5 ≤ length (cond b (prefixed_bytes type s) ((4 * type) ∷ s))
    go true e reads = rw (prefixed_length type s) (omega arith)
    go false e reads =
        let parts = payload_parts type s good in
        let fixed = fixed_reading type parts.most (eqb-false type 15 e) parts.no_string in
        not_prefixed (λ f. cc) (sym fixed ∙ reads)
scalar_prefix (text s) good kind says = go (leb (length s) 63) says
  where
    go : (b : Bool) → reading_of (at (cond b ((4 * length s + 1) ∷ s) (prefixed_bytes 16 s)) 0) ≡ Prefixed kind
        → 5 ≤ length (cond b ((4 * length s + 1) ∷ s) (prefixed_bytes 16 s))
    go true reads = not_prefixed (λ f. cc) (sym (short_reading (length s)) ∙ reads)
    go false reads = rw (prefixed_length 16 s) (omega arith)

value_prefix : (names : Dictionary) (depth : ℕ) (d : Doc) → well_formed depth d ≡ true → (kind : ℕ) → reading_of (at (value_bytes names d) 0) ≡ Prefixed kind
    → 5 ≤ length (value_bytes names d)
unfolding well_formed well_formed_by value_bytes reading_of kind_reading primitive_reading payload_sizes length_prefixed
value_prefix names zero d good kind says = never (sym good)
value_prefix names (suc depth) null good kind says = not_prefixed (λ f. cc) says
value_prefix names (suc depth) (scalar a) good kind says = scalar_prefix a good kind says
value_prefix names (suc depth) (array ds) good kind says = not_prefixed (λ f. cc) (sym (array_reads _) ∙ says)
value_prefix names (suc depth) (object fs) good kind says = not_prefixed (λ f. cc) (sym (object_reads _ _) ∙ says)

pub value_headed : (names : Dictionary) (depth : ℕ) (d : Doc) → well_formed depth d ≡ true → length (value_bytes names d) ≤ most_value → Headed (value_bytes names d)
value_headed names depth d good short =
    record { first = omega (arith, value_there names d); prefix = value_prefix names depth d good; short = short }
