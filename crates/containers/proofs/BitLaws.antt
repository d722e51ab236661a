-- A bit map: the bit that is set is 1, the others keep what they had. A bit of `or` is the greater of the two bits.
use mathlib.Core.List.{List}
use mathlib.Core.Path.{◌≡◌, refl, ap, ◌∙◌}
use Prim.Native.Nat.{ℕ, zero, suc, ◌+◌, ◌*◌, ◌/◌, ◌%◌, ◌^◌, ◌≤◌, ◌<◌, max}
use native.Mathlib.Nat.{pow-zero, pow-suc, div-one, zero-div, div_self, div-eq_of_lt, mul-div-mul_right, mul-mod_left, mod-eq_of_lt, one-mul}
use native.Mathlib.Omega.{arith}
use lib.Bits.{bit_or, or_step, or_shr}
use lib.Dec.{eqb, lit<}
use lib.ListN.{length, get_or, set, length-set, replicate, get_or-replicate}
use lib.Pow.{pow_pos, pow-lt}
use lib.Seq.{get_or-set_same, get_or-set_other}
use Rattle.containers.specs.Marks.{bit_of, set_bit}
use Rattle.containers.proofs.CoverLaws.{Test, passed, failed, equal}

-- ---- one byte

or_odd : (a b : ℕ) → bit_or a b % 2 ≡ max (a % 2) (b % 2)
or_odd a b =
    let step : bit_or a b ≡ bit_or (a / 2) (b / 2) * 2 + max (a % 2) (b % 2) = or_step a b in
    omega arith

-- The bit k of a byte with the bit m set.
or_bit : (b k m : ℕ) → bit_or b (2 ^ m) / 2 ^ k % 2 ≡ max (b / 2 ^ k % 2) (2 ^ m / 2 ^ k % 2)
or_bit b k m = ap (λ (n : ℕ). n % 2) (or_shr b (2 ^ m) k) ∙ or_odd (b / 2 ^ k) (2 ^ m / 2 ^ k)

-- A power of two has one bit.
power_bit : (m k : ℕ) → (m ≡ k → ⊥) → 2 ^ m / 2 ^ k % 2 ≡ 0
power_bit zero zero h = absurd (h refl)
power_bit zero (suc k) h =
    let less : 2 ^ 0 < 2 ^ suc k = pow-lt {i = 0} {j = suc k} (omega arith) in
    ap (λ (n : ℕ). n % 2) (div-eq_of_lt less)
power_bit (suc m) zero h = rw (pow-zero, div-one, pow-suc) (mul-mod_left (2 ^ m) 2)
power_bit (suc m) (suc k) h =
    rw (pow-suc 2 m, pow-suc 2 k, mul-div-mul_right {m = 2} (2 ^ m) (2 ^ k) (lit< tt)) (power_bit m k (λ e. h (ap suc e)))

own_bit : (k : ℕ) → 2 ^ k / 2 ^ k % 2 ≡ 1
own_bit k = ap (λ (n : ℕ). n % 2) (div_self (pow_pos k))

-- ---- the map

module _ (marks : List ℕ) (place : ℕ) where
  pub set_bit_lem : place / 8 < length marks → bit_of (set_bit marks place) place ≡ 1
  unfolding bit_of set_bit
  set_bit_lem h =
      let byte : ℕ = get_or marks (place / 8) 0 in
      let k : ℕ = place % 8 in
      let bit : bit_or byte (2 ^ k) / 2 ^ k % 2 ≡ max (byte / 2 ^ k % 2) (2 ^ k / 2 ^ k % 2) = or_bit byte k k in
      let own : 2 ^ k / 2 ^ k % 2 ≡ 1 = own_bit k in
      rw (get_or-set_same marks (place / 8) (bit_or byte (2 ^ k)) 0 h, bit, own) (omega arith)

  pub other_bit : (i : ℕ) → (i ≡ place → ⊥) → place / 8 < length marks → bit_of (set_bit marks place) i ≡ bit_of marks i
  unfolding bit_of set_bit
  other_bit i other h = go (equal (i / 8) (place / 8))
    where
      byte : ℕ
      byte = get_or marks (place / 8) 0

      go : Test (eqb (i / 8) (place / 8)) (i / 8 ≡ place / 8) (i / 8 ≡ place / 8 → ⊥) → bit_of (set_bit marks place) i ≡ bit_of marks i
      go (passed t same) =
          let apart : place % 8 ≡ i % 8 → ⊥ = λ e. other (omega arith) in
          let bit : bit_or byte (2 ^ (place % 8)) / 2 ^ (i % 8) % 2 ≡ max (byte / 2 ^ (i % 8) % 2) (2 ^ (place % 8) / 2 ^ (i % 8) % 2) =
          or_bit byte (i % 8) (place % 8) in
          let none : 2 ^ (place % 8) / 2 ^ (i % 8) % 2 ≡ 0 = power_bit (place % 8) (i % 8) apart in
          rw (same, get_or-set_same marks (place / 8) (bit_or byte (2 ^ (place % 8))) 0 h, bit, none) (omega arith)
      go (failed t apart) = rw (get_or-set_other marks (place / 8) (i / 8) (bit_or byte (2 ^ (place % 8))) 0 apart)

  pub length-set_bit : length (set_bit marks place) ≡ length marks
  unfolding set_bit
  length-set_bit = length-set marks (place / 8) (bit_or (get_or marks (place / 8) 0) (2 ^ (place % 8)))

pub bit_or_none : (marks : List ℕ) (i : ℕ) → bit_of marks i ≤ 1
unfolding bit_of
bit_or_none marks i = omega arith

-- A clean map has no bit set.
pub clean_bit : (size i : ℕ) → i / 8 < size → bit_of (replicate size 0) i ≡ 0
unfolding bit_of
clean_bit size i h = rw (get_or-replicate {A = ℕ} size (i / 8) 0 0 h, zero-div) refl

-- ---- what the code writes and reads

pub wrote_bit : (marks : List ℕ) (place : ℕ) → set marks (place / 8) (bit_or (get_or marks (place / 8) 0) (1 * 2 ^ (place % 8) % 2 ^ 8)) ≡ set_bit marks place
unfolding set_bit
wrote_bit marks place =
    let small : 2 ^ (place % 8) < 2 ^ 8 = pow-lt {i = place % 8} {j = 8} (omega arith) in
    rw (one-mul, mod-eq_of_lt small)
