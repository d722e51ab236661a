-- Values with nothing inside that could break a rule: by their first byte, and that they are lawful where they fill their
-- bytes.
use mathlib.Core.Bool.{Bool, true, false, cond, not, ◌&&◌}
use mathlib.Core.List.{List}
use mathlib.Core.Path.{◌≡◌, refl, sym, ◌∙◌}
use Prim.Native.Nat.{ℕ, zero, suc, ◌/◌, ◌%◌, ◌≤◌, ◌<◌}
use native.Mathlib.Omega.{arith}
use borrow.Author.Tests.{le-leb, lt-leb, leb-true}
use lib.Dec.{leb, eqb}
use lib.ListN.{get_or, drop}
use Rattle.paper.specs.FirstBytes.{length_prefixed, payload_sizes, primitive_reading, kind_reading, reading_of}
use Rattle.paper.specs.Metadata.{Dictionary}
use Rattle.paper.specs.Values.{meaning_of, whole}
use Rattle.paper.specs.Words.{at, is_there}
use Rattle.paper.specs.declared.Reading.TheVariants.{Fixed, Prefixed, Short, ObjectHead, ArrayHead, Nothing}
use Rattle.paper.specs.declared.Reading.{Reading}
use Rattle.values.specs.Insides.{plain_by}
use Rattle.numbers.proofs.Table.{entry}
use Rattle.paper.proofs.WordLaws.{never}
use Rattle.values.proofs.PrimitiveLaws.{primitive_plain}
use Rattle.values.proofs.ValueLaws.{value_fixed, value_prefixed, value_short}

-- ---- by the first byte

-- The two types whose payload has its length in front are no decimals.
unmarked : (code : ℕ) → code ≤ 20 → eqb (get_or payload_sizes code 0) length_prefixed ≡ true → not (leb 8 code && leb code 10) ≡ true
unfolding payload_sizes length_prefixed
unmarked code h e = rw e at (entry right payload_sizes refl code (omega arith))
  where
    right : ℕ → ℕ → Bool
    right k x = cond (eqb x 255) (not (leb 8 k && leb k 10)) true

plain_primitive : (code : ℕ) → plain_by (primitive_reading code) ≡ leb code 20 && not (leb 8 code && leb code 10)
unfolding primitive_reading plain_by
plain_primitive code = known (leb code 20) refl
  where
    told : code ≤ 20 → (mark : Bool) → eqb (get_or payload_sizes code 0) length_prefixed ≡ mark
        → plain_by (cond mark (Prefixed code) (Fixed code (get_or payload_sizes code 0))) ≡ not (leb 8 code && leb code 10)
    told h true e = sym (unmarked code h e)
    told h false e = refl

    known : (small : Bool) → leb code 20 ≡ small
        → plain_by (cond small (cond (eqb (get_or payload_sizes code 0) length_prefixed) (Prefixed code) (Fixed code (get_or payload_sizes code 0))) Nothing)
        ≡ small && not (leb 8 code && leb code 10)
    known true e = told (leb-true code 20 e) (eqb (get_or payload_sizes code 0) length_prefixed) refl
    known false e = refl

module _ (first : ℕ) where
  pub plain_short : first % 4 ≡ 1 → true ≡ plain_by (reading_of first)
  unfolding reading_of kind_reading plain_by
  plain_short e = rw e

  pub plain_container : (first % 4 ≡ 1 → ⊥) → (first % 4 ≡ 0 → ⊥) → false ≡ plain_by (reading_of first)
  unfolding reading_of kind_reading plain_by
  plain_container not-one not-zero = go (first % 4) refl
    where
      with_bits : (b : Bool) (r : Reading) → plain_by r ≡ false → false ≡ plain_by (cond b r Nothing)
      with_bits true r e = sym e
      with_bits false r e = refl

      go : (kind : ℕ) → first % 4 ≡ kind → false ≡ plain_by (kind_reading kind (first / 4))
      go zero e = absurd (not-zero e)
      go (suc zero) e = absurd (not-one e)
      go (suc (suc zero)) e = with_bits (eqb (first / 4 / 32) 0) _ refl
      go (suc (suc (suc more))) e = with_bits (eqb (first / 4 / 8) 0) _ refl

  module _ (e : first % 4 ≡ 0) where
    by_code : plain_by (reading_of first) ≡ leb (first / 4) 20 && not (leb 8 (first / 4) && leb (first / 4) 10)
    unfolding reading_of kind_reading
    by_code = rw e (plain_primitive (first / 4))

    pub plain_low : first / 4 < 8 → true ≡ plain_by (reading_of first)
    plain_low h = sym (by_code ∙ rw (le-leb (first / 4) 20 (omega arith), lt-leb 8 (first / 4) h))

    pub plain_decimal : 8 ≤ first / 4 → first / 4 ≤ 10 → false ≡ plain_by (reading_of first)
    plain_decimal h k = sym (by_code ∙ rw (le-leb (first / 4) 20 (omega arith), le-leb 8 (first / 4) h, le-leb (first / 4) 10 k))

    pub plain_high : 8 ≤ first / 4 → 10 < first / 4 → leb (first / 4) 20 ≡ plain_by (reading_of first)
    plain_high h k = sym (by_code ∙ rw (le-leb 8 (first / 4) h, lt-leb (first / 4) 10 k) (both (leb (first / 4) 20)))
      where
        both : (b : Bool) → b && true ≡ b
        both true = refl
        both false = refl

-- ---- they are lawful

pub plain_good : (levels : ℕ) (names : Dictionary) (s : List ℕ) → (levels ≡ 0 → ⊥) → whole s ≡ true → plain_by (reading_of (at s 0)) ≡ true
    → is_there (meaning_of levels names s) ≡ true
unfolding plain_by
plain_good levels names s some_left fills = go (reading_of (at s 0)) refl
  where
    go : (r : Reading) → r ≡ reading_of (at s 0) → plain_by r ≡ true → is_there (meaning_of levels names s) ≡ true
    go (Fixed code size) e f = sym (value_fixed levels names s some_left fills (Fixed code size) e code size refl true (sym (primitive_plain code (drop 1 s) f)))
    go (Prefixed code) e f = sym (value_prefixed levels names s some_left fills (Prefixed code) e code refl)
    go (Short size) e f = sym (value_short levels names s some_left fills (Short size) e size refl)
    go (ObjectHead count id offset) e f = never (sym f)
    go (ArrayHead count offset) e f = never (sym f)
    go Nothing e f = never (sym f)
