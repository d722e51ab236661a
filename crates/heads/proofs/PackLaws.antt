-- A packed reading, taken apart as the code does it, is the reading.
use mathlib.Core.List.{List, [], ◌∷◌}
use mathlib.Core.Path.{◌≡◌, ap, ◌∙◌}
use Prim.Native.Nat.{ℕ, zero, suc, ◌+◌, ◌*◌, ◌/◌, ◌%◌, ◌<◌}
use native.Mathlib.Nat.{zero-add}
use native.Mathlib.Omega.{arith}
use borrow.Author.Tests.{ne_eqb}
use lib.ListN.{length, get_or}
use Rattle.heads.specs.Packing.{unpack, Packed}
use Rattle.paper.specs.FirstBytes.{reading_of}
use Rattle.paper.specs.declared.Reading.TheVariants.{Fixed, Prefixed, Short, ObjectHead, ArrayHead, Nothing}
use Rattle.paper.specs.declared.Reading.{Reading}

-- ---- a whole table

unfoldable pub unpacked_from : ℕ → List ℕ → List Reading
unpacked_from first [] = []
unpacked_from first (p ∷ more) = unpack first p ∷ unpacked_from (suc first) more

unfoldable pub readings_from : ℕ → List ℕ → List Reading
readings_from first [] = []
readings_from first (p ∷ more) = reading_of first ∷ readings_from (suc first) more

-- Where all entries unpack to the readings of their places, each does.
entry_from : (first : ℕ) (table : List ℕ) → unpacked_from first table ≡ readings_from first table → (k : ℕ) → k < length table
    → unpack (first + k) (get_or table k 0) ≡ reading_of (first + k)
unfolding unpacked_from readings_from
entry_from first [] e k h = absurd (omega arith)
entry_from first (p ∷ more) e zero h =
    let same : unpack first p ≡ reading_of first = cc in
    let place : first + 0 ≡ first = omega arith in
    rw place same
entry_from first (p ∷ more) e (suc k) h =
    let same : unpacked_from (suc first) more ≡ readings_from (suc first) more = cc in
    let place : first + suc k ≡ suc first + k = omega arith in
    rw place (entry_from (suc first) more same k (omega arith))

pub entry : (table : List ℕ) → unpacked_from 0 table ≡ readings_from 0 table → (k : ℕ) → k < length table → unpack k (get_or table k 0) ≡ reading_of k
entry table e k h = rw zero-add at (entry_from 0 table e k h)

-- ---- what the code hands out under each kind

module _ (table : List ℕ) (full : Packed table) (b p : ℕ) (small : b < 256) (is : p ≡ get_or table b 0) where
  e : unpack b p ≡ reading_of b
  e = ap (unpack b) is ∙ full.says b small

  pub says_fixed : p % 8 ≡ 0 → Fixed (b / 4) (p / 8) ≡ reading_of b
  unfolding unpack
  says_fixed k = rw k at e

  pub says_prefixed : p % 8 ≡ 1 → Prefixed (b / 4) ≡ reading_of b
  unfolding unpack
  says_prefixed k = rw k at e

  pub says_short : p % 8 ≡ 2 → Short (b / 4) ≡ reading_of b
  unfolding unpack
  says_short k = rw k at e

  pub says_object : p % 8 ≡ 3 → ObjectHead (1 + 3 * (p / 8 / 16)) (p / 8 / 4 % 4 + 1) (p / 8 % 4 + 1) ≡ reading_of b
  unfolding unpack
  says_object k = rw k at e

  pub says_array : p % 8 ≡ 4 → ArrayHead (1 + 3 * (p / 8 / 4)) (p / 8 % 4 + 1) ≡ reading_of b
  unfolding unpack
  says_array k = rw k at e

  pub says_nothing : (p % 8 ≡ 0 → ⊥) → (p % 8 ≡ 1 → ⊥) → (p % 8 ≡ 2 → ⊥) → (p % 8 ≡ 3 → ⊥) → (p % 8 ≡ 4 → ⊥) → Nothing ≡ reading_of b
  unfolding unpack
  says_nothing n0 n1 n2 n3 n4 =
      simp (ne_eqb (p % 8) 0 n0, ne_eqb (p % 8) 1 n1, ne_eqb (p % 8) 2 n2, ne_eqb (p % 8) 3 n3, ne_eqb (p % 8) 4 n4) at e
