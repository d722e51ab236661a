-- The readings of the first bytes that normal form writes.
use mathlib.Core.Bool.{Bool, true, false, cond, ◌&&◌}
use mathlib.Core.Path.{◌≡◌, refl, ◌∙◌}
use Prim.Native.Nat.{ℕ, ◌+◌, ◌-◌, ◌*◌, ◌/◌, ◌%◌, ◌≤◌}
use native.Mathlib.Omega.{arith}
use borrow.Author.Tests.{le-leb, eq-eqb, leb-true}
use lib.Dec.{leb, eqb}
use lib.ListN.{get_or}
use Rattle.paper.specs.FirstBytes.{length_prefixed, payload_sizes, primitive_reading, count_size, kind_reading, reading_of}
use Rattle.paper.specs.declared.Reading.TheVariants.{Fixed, Prefixed, Short, ObjectHead, ArrayHead}
use Rattle.numbers.proofs.Table.{entry}
use Rattle.paper.proofs.WordLaws.{and_both}

by_kind : (first kind more : ℕ) → first % 4 ≡ kind → first / 4 ≡ more → reading_of first ≡ kind_reading kind more
unfolding reading_of
by_kind first kind more low high = rw (low, high)

-- ---- scalars

pub short_reading : (size : ℕ) → reading_of (4 * size + 1) ≡ Short size
unfolding kind_reading
short_reading size = by_kind (4 * size + 1) 1 size (omega arith) (omega arith)

pub string_reading : reading_of 64 ≡ Prefixed 16
unfolding reading_of kind_reading primitive_reading payload_sizes length_prefixed
string_reading = refl

pub binary_reading : reading_of 60 ≡ Prefixed 15
unfolding reading_of kind_reading primitive_reading payload_sizes length_prefixed
binary_reading = refl

-- Only binary's and a string's sizes have the mark.
marked : ℕ → ℕ → Bool
marked type size = cond (eqb size length_prefixed) (leb 15 type && leb type 16) true

unmarked : (type : ℕ) → type ≤ 20 → (type ≡ 15 → ⊥) → (type ≡ 16 → ⊥) → eqb (get_or payload_sizes type 0) length_prefixed ≡ false
unfolding marked payload_sizes length_prefixed
unmarked type most binary string = go (eqb (get_or payload_sizes type 0) length_prefixed) (entry marked payload_sizes refl type (omega arith))
  where
    go : (b : Bool) → cond b (leb 15 type && leb type 16) true ≡ true → b ≡ false
    go true e =
        let both = and_both (leb 15 type) (leb type 16) e in
        let least : 15 ≤ type = leb-true 15 type both.0 in
        let last : type ≤ 16 = leb-true type 16 both.1 in
        absurd (string (omega arith))
    go false e = refl

pub fixed_reading : (type : ℕ) → type ≤ 20 → (type ≡ 15 → ⊥) → (type ≡ 16 → ⊥) → reading_of (4 * type) ≡ Fixed type (get_or payload_sizes type 0)
unfolding kind_reading primitive_reading
fixed_reading type most binary string =
    by_kind (4 * type) 0 type (omega arith) (omega arith) ∙ rw (le-leb type 20 most, unmarked type most binary string)

-- ---- containers

-- A size less one in the low two bits.
low_bits : (width above : ℕ) → 1 ≤ width → width ≤ 4 → (width - 1 + 4 * above) % 4 + 1 ≡ width
low_bits width above least most = omega arith

pub array_reading : (width large : ℕ) → 1 ≤ width → width ≤ 4 → large ≤ 1
    → reading_of (3 + 4 * (width - 1) + 16 * large) ≡ ArrayHead (count_size large) width
unfolding kind_reading
array_reading width large least most one =
    let more : ℕ = width - 1 + 4 * large in
    let low : more % 4 + 1 ≡ width = omega arith in
    let high : more / 4 ≡ large = omega arith in
    let bit : more / 4 % 2 ≡ large = rw high (omega arith) in
    let unused : more / 8 ≡ 0 = omega arith in
    by_kind (3 + 4 * (width - 1) + 16 * large) 3 more (omega arith) (omega arith) ∙ rw (eq-eqb (more / 8) 0 unused, bit, low)

pub object_reading : (width id_width large : ℕ) → 1 ≤ width → width ≤ 4 → 1 ≤ id_width → id_width ≤ 4 → large ≤ 1
    → reading_of (2 + 4 * (width - 1) + 16 * (id_width - 1) + 64 * large) ≡ ObjectHead (count_size large) id_width width
unfolding kind_reading
object_reading width id_width large least most id_least id_most one =
    let more : ℕ = width - 1 + 4 * (id_width - 1) + 16 * large in
    let low : more % 4 + 1 ≡ width = omega arith in
    let middle : more / 4 ≡ id_width - 1 + 4 * large = omega arith in
    let high : more / 16 ≡ large = omega arith in
    let id : more / 4 % 4 + 1 ≡ id_width = rw middle (low_bits id_width large id_least id_most) in
    let bit : more / 16 % 2 ≡ large = rw high (omega arith) in
    let unused : more / 32 ≡ 0 = omega arith in
    by_kind (2 + 4 * (width - 1) + 16 * (id_width - 1) + 64 * large) 2 more (omega arith) (omega arith)
    ∙ rw (eq-eqb (more / 32) 0 unused, bit, id, low)
