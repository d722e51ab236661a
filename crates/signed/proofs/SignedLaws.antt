-- Two's complement, over the width: the two halves of the unsigned numbers, and what is written is read back.
use mathlib.Core.Bool.{true, false}
use mathlib.Core.List.{map}
use mathlib.Core.Path.{◌≡◌, refl, sym, ap, ◌∙◌}
use Prim.Native.Nat.{ℕ, zero, suc, ◌-◌, ◌*◌, ◌/◌, ◌%◌, ◌^◌, ◌≤◌, ◌<◌}
use native.Mathlib.Nat.{pow-succ', zero-add}
use native.Mathlib.Omega.{arith}
use borrow.Author.Tests.{lt-ltb, le-ltb, le-leb}
use lib.IntN.{ℤ, pos, negsuc, ◌-ℤ◌}
use lib.Signed.{mag, le_z}
use mir.Facts.{to_z_pos, to_z-of_z}
use mir.Syntax.{w64}
use mir.Val.{SFits, to_z, of_z}
use Rattle.numbers.specs.Little.{number, number_bytes}
use Rattle.signed.specs.Signed.{signed_of, signed_bytes}
use Rattle.numbers.proofs.NumberLaws.{read_back}

-- ---- the two halves

module _ (w n half : ℕ) (is-half : 2 * half ≡ 256 ^ w) where
  pub signed_low : n < half → signed_of w n ≡ pos n
  unfolding signed_of
  signed_low h = rw (lt-ltb (2 * n) (256 ^ w) (omega arith))

  pub signed_high : half ≤ n → n < 256 ^ w → signed_of w n ≡ negsuc (half - 1 - (n - half))
  unfolding signed_of
  signed_high h k =
      let same : 256 ^ w - 1 - n ≡ half - 1 - (n - half) = omega arith in
      rw (le-ltb (2 * n) (256 ^ w) (omega arith), same)

-- -1 less n is -(n + 1), and -1 less -(n + 1) is n.
pub below_zero : (n : ℕ) → negsuc 0 -ℤ pos n ≡ negsuc n
below_zero zero = refl
below_zero (suc n) = rw zero-add

pub above_zero : (n : ℕ) → negsuc 0 -ℤ negsuc n ≡ pos n
above_zero n =
    let same : suc n - 1 ≡ n = omega arith in
    rw (le-ltb (suc n) 1 (omega arith), same)

-- The same, as the machine computes it.
pub minus_fits : (n : ℕ) → n < 2 ^ 63 → SFits w64 (negsuc 0 -ℤ to_z w64 n)
minus_fits n h = rw (to_z_pos w64 h, below_zero n) (record { sfits = h })

pub minus_is : (n : ℕ) → n < 2 ^ 63 → to_z w64 (of_z w64 (negsuc 0 -ℤ to_z w64 n)) ≡ negsuc n
minus_is n h = to_z-of_z (minus_fits n h) ∙ rw (to_z_pos w64 h) (below_zero n)

-- ---- a number's complement

-- The bytes of the complement of a number are its bytes, each taken from 255.
pub complement_bytes : (w k n : ℕ) → w ≤ k → n < 256 ^ k → number_bytes w (256 ^ k - 1 - n) ≡ map (λ (byte : ℕ). 255 - byte) (number_bytes w n)
unfolding number_bytes
complement_bytes zero k n h b = refl
complement_bytes (suc w) zero n h b = absurd (omega arith)
complement_bytes (suc w) (suc k) n h b =
    let bound : n < 256 * 256 ^ k = rw pow-succ' at b in
    let low : (256 * 256 ^ k - 1 - n) % 256 ≡ 255 - n % 256 = omega arith in
    let high : (256 * 256 ^ k - 1 - n) / 256 ≡ 256 ^ k - 1 - n / 256 = omega arith in
    rw (pow-succ', low, high, complement_bytes w k (n / 256) (omega arith) (omega arith))

-- ---- what is written is read back

pub signed_back : (w : ℕ) (z : ℤ) → 2 * mag z < 256 ^ suc w → signed_of (suc w) (number (signed_bytes (suc w) z)) ≡ z
unfolding signed_bytes signed_of
signed_back w (pos n) h =
    rw (read_back (suc w) n (omega arith), lt-ltb (2 * n) (256 ^ suc w) h)
signed_back w (negsuc n) h =
    let bound : 2 * n < 256 * 256 ^ w = rw pow-succ' at h in
    let inside : n < 256 ^ suc w = rw pow-succ' (omega arith) in
    let held : number (map (λ (byte : ℕ). 255 - byte) (number_bytes (suc w) n)) ≡ 256 ^ suc w - 1 - n =
    ap number (sym (complement_bytes (suc w) (suc w) n (omega arith) inside)) ∙ read_back (suc w) (256 ^ suc w - 1 - n) (omega arith) in
    let upper : 256 ^ suc w ≤ 2 * (256 ^ suc w - 1 - n) = rw pow-succ' (omega arith) in
    let mirror : 256 ^ suc w - 1 - (256 ^ suc w - 1 - n) ≡ n = omega arith in
    rw (held, le-ltb (2 * (256 ^ suc w - 1 - n)) (256 ^ suc w) upper, mirror)

-- ---- the number that the eight bytes of a machine word hold

pub held_by_eight : (z : ℤ) → SFits w64 z → of_z w64 z ≡ number (signed_bytes 8 z)
unfolding signed_bytes
held_by_eight (pos n) fits = let small : n < 2 ^ 63 = fits.sfits in sym (read_back 8 n (omega arith))
held_by_eight (negsuc n) fits =
    let small : n < 2 ^ 63 = fits.sfits in
    let same : 2 ^ 64 - suc n ≡ 2 ^ 64 - 1 - n = omega arith in
    same ∙ sym (ap number (sym (complement_bytes 8 8 n (omega arith) (omega arith))) ∙ read_back 8 (2 ^ 64 - 1 - n) (omega arith))

-- The w lowest bytes of that number are the bytes of z.
lowest_bytes : (w : ℕ) (z : ℤ) → w ≤ 8 → mag z < 2 ^ 63 → number_bytes w (number (signed_bytes 8 z)) ≡ signed_bytes w z
unfolding signed_bytes
lowest_bytes w (pos n) h small = ap (number_bytes w) (read_back 8 n (omega arith))
lowest_bytes w (negsuc n) h small =
    ap (number_bytes w)
    (ap number (sym (complement_bytes 8 8 n (omega arith) (omega arith))) ∙ read_back 8 (2 ^ 64 - 1 - n) (omega arith))
    ∙ complement_bytes w 8 n h (omega arith)

pub bytes_handed : (v w : ℕ) (z : ℤ) {n : ℕ} (fits : SFits w64 z) → w ≤ 8 → v ≡ w → n ≡ number (signed_bytes 8 (to_z w64 (of_z w64 z)))
    → number_bytes v n ≡ signed_bytes w z
bytes_handed v w z fits h same e = rw (same, e, to_z-of_z fits) (lowest_bytes w z h fits.sfits)
