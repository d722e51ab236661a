-- The answers of the reader of one cell: one law for each, with the tests that led there.
use Rattle.std.specs.Prelude.{Option, None, Some, Ok, Err}
use mathlib.Core.Bool.{Bool, true, false, not, cond}
use mathlib.Core.List.{List}
use mathlib.Core.Path.{◌≡◌, refl, sym, ap, ◌∙◌}
use Prim.Native.Nat.{ℕ, ◌≤◌, ◌<◌}
use native.Mathlib.Omega.{arith}
use borrow.Author.Tests.{eq-eqb, ne_eqb, eqb-true, eqb-false, le-leb, lt-leb, not-true, not-false}
use Rattle.std.proofs.lemmas.Bool.Decides.{nat_tests}
use lib.Dec.{leb, eqb}
use lib.Ieee.{of_bits, nan_bits, binary32, binary64}
use lib.ListN.{length, get_or, take, drop, length-drop}
use lib.Seq.{take_all}
use Rattle.cells.specs.Sized.{NumberSized}
use Rattle.cells.proofs.CodeLaws.{number_sized}
use Rattle.numbers.specs.Little.{number, number_at}
use Rattle.signed.specs.Signed.{signed_of}
use Rattle.paper.specs.Cells.{body_kind, cell_by, cell_meaning, number_cell, handed_out}
use Rattle.paper.specs.FirstBytes.{payload_sizes}
use Rattle.paper.specs.Limits.{most_cell}
use Rattle.paper.specs.Meaning.{Scalar, payload, text_meaning}
use Rattle.paper.specs.Operations.{cell_answer}
use Rattle.paper.specs.Refusals.{require, obtain, Outcome}
use Rattle.paper.specs.Schemas.{column_code, column_of}
use Rattle.paper.specs.Words.{at, given, is_there}
use Rattle.paper.specs.declared.Cell.TheVariants.{Boolean, Integer, Float, Double, FloatNan, DoubleNan, Length, Uuid}
use Rattle.paper.specs.declared.Cell.{Cell}
use Rattle.paper.specs.declared.Refusal.TheVariants.{TooLong, BadSchema, BadRow}
use Rattle.paper.proofs.WordLaws.{never, some_there}

-- ---- which bytes are good

abbrev Means : (code : ℕ) → List ℕ → Option Scalar
Means code s = cell_meaning (record { code = code }) s

module _ (code : ℕ) (s : List ℕ) where
  pub yes_no-size : code ≡ 1 → (length s ≡ 1 → ⊥) → eqb (length s) 1 ≡ is_there (Means code s)
  unfolding cell_meaning body_kind cell_by given is_there
  yes_no-size e n = grind (arith, nat_tests)

  pub yes_no-content : code ≡ 1 → length s ≡ 1 → leb (at s 0) 1 ≡ is_there (Means code s)
  unfolding cell_meaning body_kind cell_by given is_there
  yes_no-content e size = grind (arith, nat_tests)

  -- 15 is binary, 16 string
  pub bytes_good : 15 ≤ code → code < 17 → true ≡ is_there (Means code s)
  unfolding cell_meaning body_kind cell_by text_meaning is_there
  bytes_good h k = grind (arith, nat_tests)

  module _ (one : code ≡ 1 → ⊥) (binary : code ≡ 15 → ⊥) (string : code ≡ 16 → ⊥) where
    sized_means : Means code s ≡ given (eqb (length s) (get_or payload_sizes code 0)) (Some (payload code s))
    unfolding cell_meaning body_kind cell_by
    sized_means = rw (ne_eqb code 1 one, ne_eqb code 15 binary, ne_eqb code 16 string)

    pub sized_good : (size : ℕ) → size ≡ get_or payload_sizes code 0 → eqb (length s) size ≡ is_there (Means code s)
    unfolding given is_there
    sized_good size is = rw (sized_means, ← is) (go (eqb (length s) size))
      where
        go : (b : Bool) → b ≡ is_there (given b (Some (payload code s)))
        go true = refl
        go false = refl

    pub sized_there : is_there (Means code s) ≡ true → length s ≡ get_or payload_sizes code 0
    sized_there there = eqb-true (length s) (get_or payload_sizes code 0) (sized_good (get_or payload_sizes code 0) refl ∙ there)

-- ---- what good bytes are handed out as

abbrev Handed : (code : ℕ) → List ℕ → Outcome Cell
Handed code s = (obtain (Means code s) BadRow λ value. Ok (handed_out value))

module _ (code : ℕ) (s : List ℕ) (there : is_there (Means code s) ≡ true) where
  yes_no-there : code ≡ 1 → length s ≡ 1
  yes_no-there e = go (eqb (length s) 1) refl
    where
      go : (b : Bool) → eqb (length s) 1 ≡ b → length s ≡ 1
      go true f = eqb-true (length s) 1 f
      go false f = never (sym (yes_no-size code s e (eqb-false (length s) 1 f) ∙ there) ∙ f)

  pub yes_no-some : code ≡ 1 → 0 < length s
  yes_no-some e = let size = yes_no-there e in omega arith

  pub yes_no-read : code ≡ 1 → Ok (Boolean (eqb (at s 0) 1)) ≡ Handed code s
  unfolding cell_meaning body_kind cell_by given obtain handed_out
  yes_no-read e =
      let size = yes_no-there e in
      let known : leb (at s 0) 1 ≡ true = yes_no-content code s e size ∙ there in
      rw (e, eq-eqb (length s) 1 size, known)

  pub bytes_read : 15 ≤ code → code < 17 → Ok (Length (length s)) ≡ Handed code s
  unfolding cell_meaning body_kind cell_by text_meaning obtain handed_out
  bytes_read h k = grind (arith, nat_tests)

  pub number_asked : column_code code ≡ true → (code ≡ 1 → ⊥) → (code ≡ 15 → ⊥) → (code ≡ 16 → ⊥) → NumberSized code (length s)
  number_asked known one binary string = number_sized code (length s) known one binary string (sized_there code s one binary string there)

  pub number_read : (code ≡ 1 → ⊥) → (code ≡ 15 → ⊥) → (code ≡ 16 → ⊥) → {r : Cell} → r ≡ number_cell code s → Ok r ≡ Handed code s
  unfolding given obtain handed_out
  number_read one binary string {r} is =
      let size = sized_there code s one binary string there in
      rw (sized_means code s one binary string, eq-eqb (length s) (get_or payload_sizes code 0) size, ne_eqb code 15 binary) (ap Ok is)

-- ---- in the order of the refusals

pub there_good : (code : ℕ) (s : List ℕ) (b : Bool) → b ≡ is_there (Means code s) → not b ≡ false → is_there (Means code s) ≡ true
there_good code s b is e = sym is ∙ not-false b e

module _ (code : ℕ) (s : List ℕ) where
  pub too_long : most_cell < length s → Err TooLong ≡ cell_answer code s
  unfolding cell_answer require
  too_long h = rw (lt-leb (length s) most_cell h)

  module _ (fits : length s ≤ most_cell) {known : Bool} (is_Known : known ≡ column_code code) where
    pub no_code : not known ≡ true → Err BadSchema ≡ cell_answer code s
    unfolding cell_answer require obtain column_of given
    no_code e = rw (le-leb (length s) most_cell fits, ← is_Known, not-true known e)

    module _ (right : not known ≡ false) where
      pub known_code : column_code code ≡ true
      known_code = sym is_Known ∙ not-false known right

      judged_answer : Handed code s ≡ cell_answer code s
      unfolding cell_answer require obtain column_of given
      judged_answer = rw (le-leb (length s) most_cell fits, ← is_Known, not-false known right)

      pub no_meaning : (b : Bool) → b ≡ is_there (Means code s) → not b ≡ true → Err BadRow ≡ cell_answer code s
      no_meaning b is e = go (Means code s) refl ∙ judged_answer
        where
          go : (x : Option Scalar) → Means code s ≡ x → Err BadRow ≡ (obtain x BadRow λ value. Ok (handed_out value))
          go None f = unfold obtain in refl
          go (Some value) f = never (sym (some_there (Means code s) f) ∙ sym is ∙ not-true b e)

      pub meaning : {r : Cell} → Ok r ≡ Handed code s → Ok r ≡ cell_answer code s
      meaning e = e ∙ judged_answer

-- ---- numbers

-- The number of all bytes.
pub number_all : (s : List ℕ) (size : ℕ) → length s ≡ size → number_at s 0 size ≡ number s
unfolding number_at
number_all s size e = rw (take_all size s (omega arith))

module _ (code : ℕ) (s : List ℕ) where
  pub double_read : {bits : ℕ} {r : Cell} → code ≡ 7 → length s ≡ 8 → bits ≡ number_at s 0 8
      → r ≡ cond (nan_bits binary64 bits) (DoubleNan bits) (Double (of_bits binary64 bits)) → r ≡ number_cell code s
  unfolding number_cell
  double_read e size is told = rw (e, ← number_all s 8 size, ← is) told

  pub float_read : {bits : ℕ} {r : Cell} → code ≡ 14 → length s ≡ 4 → bits ≡ number_at s 0 4
      → r ≡ cond (nan_bits binary32 bits) (FloatNan bits) (Float (of_bits binary32 bits)) → r ≡ number_cell code s
  unfolding number_cell
  float_read e size is told = rw (e, ← number_all s 4 size, ← is) told

  pub uuid_read : {first second : ℕ} → code ≡ 20 → length s ≡ 16 → first ≡ number_at s 0 8 → second ≡ number_at s 8 8
      → Uuid first second ≡ number_cell code s
  unfolding number_cell number_at
  uuid_read {first} {second} e size is_first is-second =
      let rest : take 8 (drop 8 s) ≡ drop 8 s = take_all 8 (drop 8 s) (rw length-drop (omega arith)) in
      rw (e, is_first, is-second, rest)

  pub integer_read : (code ≡ 7 → ⊥) → (code ≡ 14 → ⊥) → (code ≡ 20 → ⊥)
      → Integer (signed_of (length s) (number_at s 0 (length s))) ≡ number_cell code s
  unfolding number_cell
  integer_read d f u = rw (ne_eqb code 7 d, ne_eqb code 14 f, ne_eqb code 20 u, number_all s (length s) refl)
