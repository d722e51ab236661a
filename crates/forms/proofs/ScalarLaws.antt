-- Scalars and null that are written: each says how long it is, and means what was written.
use Rattle.std.specs.Prelude.{Some}
use mathlib.Core.Bool.{Bool, true, false, cond, not, ◌&&◌, ◌||◌}
use mathlib.Core.List.{List, [], ◌∷◌, ◌++◌}
use mathlib.Core.Path.{◌≡◌, refl, ap, ◌∙◌}
use Prim.Native.Nat.{ℕ, zero, suc, ◌+◌, ◌*◌, ◌^◌, ◌≤◌, ◌<◌}
use native.Mathlib.Omega.{arith}
use borrow.Author.Tests.{le-leb, leb-true, eqb-true, eqb-false, eq-eqb, ne_eqb, not-true}
use lib.Dec.{leb, eqb}
use lib.ListN.{length, get_or, drop, length-append}
use lib.Seq.{drop_at}
use Rattle.forms.specs.WellFormed.{scalar_good}
use Rattle.numbers.specs.Little.{number_bytes, number_at}
use Rattle.paper.proofs.MeaningLaws.{prefixed_doc, string_back, prefixed_back}
use Rattle.paper.specs.FirstBytes.{length_prefixed, payload_sizes, primitive_reading, kind_reading, reading_of}
use Rattle.paper.specs.Meaning.{Scalar, boolean, payload, text, Doc, null, scalar}
use Rattle.paper.specs.Metadata.{Dictionary}
use Rattle.paper.specs.Normal.{prefixed_bytes, text_bytes, scalar_bytes}
use Rattle.paper.specs.Values.{extent, extent_by, primitive_meaning, prefixed_meaning, meaning_by, meaning_of, whole, ends_at}
use Rattle.paper.specs.Words.{at, given}
use Rattle.paper.specs.declared.Reading.TheVariants.{Fixed, Prefixed, Short}
use Rattle.paper.specs.declared.Reading.{Reading}
use Rattle.forms.proofs.FirstByteLaws.{short_reading, string_reading, binary_reading, fixed_reading}
use Rattle.names.proofs.RunLaws.{number_back}
use Rattle.numbers.proofs.NumberLaws.{length-number_bytes}
use Rattle.paper.proofs.WordLaws.{and_both, given_passed}

-- Bytes that are one value, as long as it says.
abbrev pub Filled : List ℕ → Type 0
Filled s = extent s ≡ Some (length s)

pub filled_whole : (s : List ℕ) → Filled s → whole s ≡ true
unfolding whole ends_at
filled_whole s e = rw e (eq-eqb (length s) (length s) refl)

-- What filled bytes mean, by their reading.
pub filled_meaning : (levels : ℕ) (names : Dictionary) (s : List ℕ) (r : Reading) → Filled s → reading_of (at s 0) ≡ r
    → meaning_of (suc levels) names s ≡ meaning_by (meaning_of levels names) names r s
unfolding meaning_of
filled_meaning levels names s r fills is =
    given_passed (whole s) _ (filled_whole s fills) ∙ ap (λ (q : Reading). meaning_by (meaning_of levels names) names q s) is

filled_by : (first : ℕ) (s : List ℕ) (r : Reading) → reading_of first ≡ r → extent_by r (first ∷ s) ≡ Some (suc (length s)) → Filled (first ∷ s)
unfolding extent
filled_by first s r is e = rw is e

-- ---- a payload of a fixed size, and a short text: a byte and what follows it

pub fixed_filled : (type : ℕ) (s : List ℕ) → type ≤ 20 → (type ≡ 15 → ⊥) → (type ≡ 16 → ⊥) → length s ≡ get_or payload_sizes type 0
    → Filled ((4 * type) ∷ s)
unfolding extent_by
fixed_filled type s most binary string size =
    filled_by (4 * type) s _ (fixed_reading type most binary string) (ap Some (omega arith))

short_filled : (s : List ℕ) → Filled ((4 * length s + 1) ∷ s)
unfolding extent_by
short_filled s = filled_by (4 * length s + 1) s _ (short_reading (length s)) (ap Some (omega arith))

short_back : (levels : ℕ) (names : Dictionary) (s : List ℕ) → meaning_of (suc levels) names ((4 * length s + 1) ∷ s) ≡ Some (scalar (text s))
unfolding meaning_by
short_back levels names s =
    filled_meaning levels names ((4 * length s + 1) ∷ s) (Short (length s)) (short_filled s) (short_reading (length s)) ∙ string_back s

-- ---- bytes with their length in front

pub prefixed_length : (type : ℕ) (s : List ℕ) → length (prefixed_bytes type s) ≡ 5 + length s
unfolding prefixed_bytes
prefixed_length type s = rw (length-append, length-number_bytes) (omega arith)

prefixed_small : (type : ℕ) (s : List ℕ) → length (prefixed_bytes type s) < 2 ^ 32 → length s < 2 ^ 32
prefixed_small type s small = let size : length (prefixed_bytes type s) ≡ 5 + length s = prefixed_length type s in omega arith

module _ (type : ℕ) (s : List ℕ) (is : reading_of (4 * type) ≡ Prefixed type) (small : length s < 2 ^ 32) where
  prefixed_filled : Filled (prefixed_bytes type s)
  unfolding prefixed_bytes extent_by given number_at
  prefixed_filled =
      let size : length (number_bytes 4 (length s) ++ s) ≡ 4 + length s = length-append (number_bytes 4 (length s)) s ∙ rw length-number_bytes in
      let back : number_at (number_bytes 4 (length s) ++ s) 0 4 ≡ length s = number_back 4 (length s) s small in
      filled_by (4 * type) (number_bytes 4 (length s) ++ s) (Prefixed type) is
      (rw (le-leb 5 (suc (length (number_bytes 4 (length s) ++ s))) (omega arith), back) (ap Some (omega arith)))

  prefixed_behind : drop 5 (prefixed_bytes type s) ≡ s
  unfolding prefixed_bytes
  prefixed_behind = drop_at (number_bytes 4 (length s)) s 4 (length-number_bytes 4 (length s))

  module _ (levels : ℕ) (names : Dictionary) where
    prefixed_read : meaning_of (suc levels) names (prefixed_bytes type s) ≡ Some (prefixed_doc (eqb type 16) type s)
    unfolding meaning_by
    prefixed_read =
        filled_meaning levels names (prefixed_bytes type s) (Prefixed type) prefixed_filled (unfold prefixed_bytes in is)
        ∙ ap (λ (l : List ℕ). prefixed_meaning (eqb type 16) type l) prefixed_behind
        ∙ prefixed_back (eqb type 16) type s

-- ---- any scalar

-- What is known of a payload.
pub record PayloadParts (type : ℕ) (s : List ℕ) : Type 0 where
  pub least : 3 ≤ type
  pub most : type ≤ 20
  pub no_string : type ≡ 16 → ⊥
  pub size : (type ≡ 15 → ⊥) → length s ≡ get_or payload_sizes type 0
  pub scale : not (leb 8 type && leb type 10) || leb (at s 0) 38 ≡ true

pub payload_parts : (type : ℕ) (s : List ℕ) → scalar_good (payload type s) ≡ true → PayloadParts type s
unfolding scalar_good
payload_parts type s good =
    let first = and_both (leb 3 type) _ good in
    let second = and_both (leb type 20) _ first.1 in
    let third = and_both (not (eqb type 16)) _ second.1 in
    let fourth = and_both (eqb type 15 || eqb (length s) (get_or payload_sizes type 0)) _ third.1 in
    record {
      least = leb-true 3 type first.0;
      most = leb-true type 20 second.0;
      no_string = eqb-false type 16 (not-true (eqb type 16) third.0);
      size = λ binary. eqb-true (length s) (get_or payload_sizes type 0) (rw (ne_eqb type 15 binary) at fourth.0);
      scale = fourth.1;
    }

primitive_back : (type : ℕ) (s : List ℕ) → 3 ≤ type → not (leb 8 type && leb type 10) || leb (at s 0) 38 ≡ true
    → primitive_meaning type s ≡ Some (scalar (payload type s))
unfolding primitive_meaning
primitive_back zero s least scale = absurd (omega arith)
primitive_back (suc zero) s least scale = absurd (omega arith)
primitive_back (suc (suc zero)) s least scale = absurd (omega arith)
primitive_back (suc (suc (suc more))) s least scale = given_passed _ _ scale

-- Bytes that are one value and mean a document, at one level or more.
abbrev pub Written : Dictionary → List ℕ → Doc → Type 0
Written names s d = Filled s × ((levels : ℕ) → meaning_of (suc levels) names s ≡ Some d)

module _ (names : Dictionary) where
  pub null_written : Written names (0 ∷ []) null
  unfolding extent extent_by reading_of kind_reading primitive_reading payload_sizes length_prefixed meaning_by primitive_meaning
  null_written = (refl, λ levels. filled_meaning levels names (0 ∷ []) (Fixed 0 0) refl refl)

  boolean_written : (b : Bool) → Written names (scalar_bytes (boolean b)) (scalar (boolean b))
  unfolding scalar_bytes extent extent_by reading_of kind_reading primitive_reading payload_sizes length_prefixed meaning_by primitive_meaning
  boolean_written true = (refl, λ levels. filled_meaning levels names (4 ∷ []) (Fixed 1 0) refl refl)
  boolean_written false = (refl, λ levels. filled_meaning levels names (8 ∷ []) (Fixed 2 0) refl refl)

  text_written : (s : List ℕ) → length (text_bytes s) < 2 ^ 32 → Written names (text_bytes s) (scalar (text s))
  unfolding text_bytes
  text_written s small = go (leb (length s) 63) small
    where
      go : (b : Bool) → length (cond b ((4 * length s + 1) ∷ s) (prefixed_bytes 16 s)) < 2 ^ 32
          → Written names (cond b ((4 * length s + 1) ∷ s) (prefixed_bytes 16 s)) (scalar (text s))
      go true h = (short_filled s, λ levels. short_back levels names s)
      go false h =
          let size : length s < 2 ^ 32 = prefixed_small 16 s h in
          (prefixed_filled 16 s string_reading size, λ levels. prefixed_read 16 s string_reading size levels names)

  payload_written : (type : ℕ) (s : List ℕ) → scalar_good (payload type s) ≡ true → length (scalar_bytes (payload type s)) < 2 ^ 32
      → Written names (scalar_bytes (payload type s)) (scalar (payload type s))
  unfolding scalar_bytes meaning_by
  payload_written type s good small =
      go (eqb type 15) refl small (payload_parts type s good)
    where
      go : (b : Bool) → eqb type 15 ≡ b → length (cond b (prefixed_bytes type s) ((4 * type) ∷ s)) < 2 ^ 32 → PayloadParts type s
          → Written names (cond b (prefixed_bytes type s) ((4 * type) ∷ s)) (scalar (payload type s))
      go true e h parts =
          let binary : type ≡ 15 = eqb-true type 15 e in
          let is : reading_of (4 * type) ≡ Prefixed type = rw binary binary_reading in
          let size : length s < 2 ^ 32 = prefixed_small type s h in
          let no_text : eqb type 16 ≡ false = rw binary in (
            prefixed_filled type s is size,
            λ levels. prefixed_read type s is size levels names ∙ ap (λ (b : Bool). Some (prefixed_doc b type s)) no_text,
          )
      go false e h parts =
          let binary : type ≡ 15 → ⊥ = eqb-false type 15 e in
          let size : length s ≡ get_or payload_sizes type 0 = parts.size binary in
          let is = fixed_reading type parts.most binary parts.no_string in
          let fills = fixed_filled type s parts.most binary parts.no_string size in
          (fills, λ levels. filled_meaning levels names ((4 * type) ∷ s) _ fills is ∙ primitive_back type s parts.least parts.scale)

  pub scalar_written : (a : Scalar) → scalar_good a ≡ true → length (scalar_bytes a) < 2 ^ 32 → Written names (scalar_bytes a) (scalar a)
  scalar_written (boolean b) good small = boolean_written b
  scalar_written (payload type s) good small = payload_written type s good small
  scalar_written (text s) good small = unfold scalar_bytes in text_written s small
