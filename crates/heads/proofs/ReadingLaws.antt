-- What the numbers of a first byte's reading can be, kind by kind.
use mathlib.Core.Bool.{Bool, true, false, cond, ◌&&◌}
use mathlib.Core.Path.{◌≡◌, refl}
use Prim.Native.Nat.{ℕ, zero, suc, ◌+◌, ◌/◌, ◌%◌, ◌≤◌}
use native.Mathlib.Omega.{arith}
use borrow.Author.Tests.{leb-true}
use lib.Dec.{leb, eqb}
use lib.ListN.{get_or}
use Rattle.paper.specs.FirstBytes.{length_prefixed, payload_sizes, primitive_reading, count_size, kind_reading, reading_of}
use Rattle.paper.specs.declared.Reading.TheVariants.{Fixed, Prefixed, Short, ObjectHead, ArrayHead, Nothing}
use Rattle.paper.specs.declared.Reading.{Reading}
use Rattle.numbers.proofs.Table.{entry, and_left, and_right}

-- The bytes that a count, an id or an offset takes.
abbrev pub Width : ℕ → Type 0
Width w = (1 ≤ w) × (w ≤ 4)

unfoldable pub Sizes : ℕ → Reading → Type 0
Sizes b (Fixed code size) = (code ≤ 20) × (size ≤ 17) × (size ≡ get_or payload_sizes code 0)
Sizes b (Prefixed code) = (15 ≤ code) × (code ≤ 16)
Sizes b (Short size) = size ≡ b / 4
Sizes b (ObjectHead count id offset) = Width count × Width id × Width offset
Sizes b (ArrayHead count offset) = Width count × Width offset
Sizes b Nothing = Unit {0}

-- ---- the table of payload sizes: only types 15 and 16 have the mark, and the others at most 17 bytes

marked : ℕ → ℕ → Bool
marked code size = cond (eqb size length_prefixed) (leb 15 code && leb code 16) (leb size 17)

marked_entry : (code : ℕ) → code ≤ 20 → marked code (get_or payload_sizes code 0) ≡ true
unfolding marked payload_sizes length_prefixed
marked_entry code h = entry marked payload_sizes refl code (omega arith)

primitive_sizes : (b code : ℕ) → Sizes b (primitive_reading code)
unfolding Sizes primitive_reading marked
primitive_sizes b code = known (leb code 20) refl
  where
    told : (size : ℕ) → size ≡ get_or payload_sizes code 0 → code ≤ 20 → (mark : Bool) → cond mark (leb 15 code && leb code 16) (leb size 17) ≡ true
        → Sizes b (cond mark (Prefixed code) (Fixed code size))
    told size e h true right =
        (leb-true 15 code (and_left (leb 15 code) (leb code 16) right), leb-true code 16 (and_right (leb 15 code) (leb code 16) right))
    told size e h false right = (h, leb-true size 17 right, e)

    known : (small : Bool) → leb code 20 ≡ small
        → Sizes b (cond small (cond (eqb (get_or payload_sizes code 0) length_prefixed) (Prefixed code) (Fixed code (get_or payload_sizes code 0))) Nothing)
    known true e =
        let h : code ≤ 20 = leb-true code 20 e in
        told (get_or payload_sizes code 0) refl h (eqb (get_or payload_sizes code 0) length_prefixed) (marked_entry code h)
    known false e = tt

-- ---- each kind

kind_sizes : (b kind : ℕ) → Sizes b (kind_reading kind (b / 4))
unfolding Sizes kind_reading count_size
kind_sizes b zero = primitive_sizes b (b / 4)
kind_sizes b (suc zero) = refl
kind_sizes b (suc (suc zero)) = go (eqb (b / 4 / 32) 0)
  where
    go : (unused : Bool)
        → Sizes b (cond unused (ObjectHead (count_size (b / 4 / 16 % 2)) (b / 4 / 4 % 4 + 1) (b / 4 % 4 + 1)) Nothing)
    go true = ((omega arith, omega arith), (omega arith, omega arith), (omega arith, omega arith))
    go false = tt
kind_sizes b (suc (suc (suc more))) = go (eqb (b / 4 / 8) 0)
  where
    go : (unused : Bool) → Sizes b (cond unused (ArrayHead (count_size (b / 4 / 4 % 2)) (b / 4 % 4 + 1)) Nothing)
    go true = ((omega arith, omega arith), (omega arith, omega arith))
    go false = tt

pub sizes : (b : ℕ) → Sizes b (reading_of b)
unfolding reading_of
sizes b = kind_sizes b (b % 4)

-- ---- the same, of a reading that is known

module _ (b : ℕ) where
  pub fixed_sizes : {code size : ℕ} → reading_of b ≡ Fixed code size → (code ≤ 20) × (size ≤ 17) × (size ≡ get_or payload_sizes code 0)
  unfolding Sizes
  fixed_sizes e = rw e at (sizes b)

  pub prefixed_sizes : {code : ℕ} → reading_of b ≡ Prefixed code → (15 ≤ code) × (code ≤ 16)
  unfolding Sizes
  prefixed_sizes e = rw e at (sizes b)

  pub short_sizes : {size : ℕ} → reading_of b ≡ Short size → size ≡ b / 4
  unfolding Sizes
  short_sizes e = rw e at (sizes b)

  pub object_sizes : {c i w : ℕ} → reading_of b ≡ ObjectHead c i w → Width c × Width i × Width w
  unfolding Sizes
  object_sizes e = rw e at (sizes b)

  pub array_sizes : {c w : ℕ} → reading_of b ≡ ArrayHead c w → Width c × Width w
  unfolding Sizes
  array_sizes e = rw e at (sizes b)
