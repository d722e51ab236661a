-- Numbers and their bytes, over the width: a number is read one byte more at a time, a number of w bytes is below
-- 256 to the w, what is written is read back, and two neighbours make one number.
use mathlib.Core.List.{List, [], ◌∷◌, ◌++◌}
use mathlib.Core.Path.{◌≡◌, refl, ap, ◌∙◌}
use Prim.Native.Nat.{ℕ, zero, suc, ◌+◌, ◌*◌, ◌/◌, ◌%◌, ◌^◌, ◌≤◌, ◌<◌}
use native.Mathlib.Nat.{pow-zero, pow-suc, pow-succ', mul-add, mul_assoc, mod-one, mod-eq_of_lt, add-zero, zero-add, one-mul, add_assoc, suc-add, one-le-pow, div-div-eq-div-mul, div-one}
use native.Mathlib.Numerals.{add-one}
use native.Mathlib.Omega.{arith}
use lib.Arith.{mod-mul}
use lib.Dec.{lit<}
use lib.ListN.{length, get_or}
use lib.Seq.{drop-cons}
use Rattle.numbers.specs.Little.{number, number_bytes, number_at}

pub length-number_bytes : (w n : ℕ) → length (number_bytes w n) ≡ w
unfolding number_bytes
length-number_bytes zero n = refl
length-number_bytes (suc w) n = ap suc (length-number_bytes w (n / 256))

pub power_positive : (w : ℕ) → 0 < 256 ^ w
power_positive w = one-le-pow w 256 (lit< tt)

-- ---- reading, one byte more at a time

pub number_at-none : (s : List ℕ) (p : ℕ) → number_at s p 0 ≡ 0
unfolding number_at number
number_at-none s p = refl

pub number_at-more : (s : List ℕ) (p w : ℕ) → p < length s → number_at s p (suc w) ≡ get_or s p 0 + 256 * number_at s (p + 1) w
unfolding number_at number
number_at-more s p w h = rw (add-one, drop-cons s p 0)

-- Two neighbours, of v and of w bytes, make the number of v + w bytes.
pub number_at-join : (s : List ℕ) (v p w : ℕ) → p + v ≤ length s → number_at s p (v + w) ≡ number_at s p v + 256 ^ v * number_at s (p + v) w
number_at-join s zero p w h = simp (number_at-none, pow-zero, add-zero, zero-add, one-mul)
number_at-join s (suc v) p w h =
    let here : p < length s = omega arith in
    let rest : number_at s (p + 1) (v + w) ≡ number_at s (p + 1) v + 256 ^ v * number_at s (p + 1 + v) w =
    number_at-join s v (p + 1) w (omega arith) in
    let place : p + 1 + v ≡ p + suc v = omega arith in
    rw (suc-add, number_at-more s p (v + w) here, number_at-more s p v here, rest, place, pow-succ', mul-add, ← add_assoc, ← mul_assoc)

-- ---- a number of w bytes is below 256 to the w

pub number_below : (s : List ℕ) (w : ℕ) → length s ≤ w → ((i : ℕ) → get_or s i 0 < 256) → number s < 256 ^ w
unfolding number
number_below [] w h all = power_positive w
number_below (b ∷ s) zero h all = absurd (omega arith)
number_below (b ∷ s) (suc w) h all =
    let rest : number s < 256 ^ w = number_below s w (omega arith) (λ i. all (suc i)) in
    let first : b < 256 = all 0 in
    rw pow-succ' (omega arith)

-- ---- what is written is read back

pub number_of-bytes : (w n : ℕ) → number (number_bytes w n) ≡ n % 256 ^ w
unfolding number number_bytes
number_of-bytes zero n = simp (pow-zero, mod-one)
number_of-bytes (suc w) n =
    let rest : number (number_bytes w (n / 256)) ≡ n / 256 % 256 ^ w = number_of-bytes w (n / 256) in
    let whole : n % (256 ^ w * 256) ≡ (n / 256 % 256 ^ w) * 256 + n % 256 = mod-mul n (power_positive w) (lit< tt) in
    rw (pow-suc, whole, rest) (omega arith)

pub read_back : (w n : ℕ) → n < 256 ^ w → number (number_bytes w n) ≡ n
read_back w n h = number_of-bytes w n ∙ mod-eq_of_lt h

-- ... and bytes are the bytes of the number that they hold.
pub bytes_back : (s : List ℕ) → ((i : ℕ) → get_or s i 0 < 256) → number_bytes (length s) (number s) ≡ s
unfolding number number_bytes
bytes_back [] all = refl
bytes_back (b ∷ s) all =
    let first : b < 256 = all 0 in
    let low : (b + 256 * number s) % 256 ≡ b = omega arith in
    let high : (b + 256 * number s) / 256 ≡ number s = omega arith in
    rw (low, high, bytes_back s (λ i. all (suc i)))

-- ---- the lowest bytes of a number, in two runs

pub number_bytes-join : (v w n : ℕ) → number_bytes (v + w) n ≡ number_bytes v n ++ number_bytes w (n / 256 ^ v)
unfolding number_bytes
number_bytes-join zero w n = simp (pow-zero, zero-add, div-one)
number_bytes-join (suc v) w n =
    let rest : number_bytes (v + w) (n / 256) ≡ number_bytes v (n / 256) ++ number_bytes w (n / 256 / 256 ^ v) =
    number_bytes-join v w (n / 256) in
    rw (suc-add, pow-succ', ← div-div-eq-div-mul, rest)

-- ---- the reader's steps: a byte alone, and a byte below the number behind it

pub read_one : (s : List ℕ) (p w b : ℕ) → w ≡ 1 → p < length s → (b ≡ get_or s p 0) × (b < 256) → (b ≡ number_at s p w) × (b < 256 ^ w)
read_one s p w b e h byte =
    let at : number_at s p 1 ≡ get_or s p 0 + 256 * number_at s (p + 1) 0 = number_at-more s p 0 h in
    let none : number_at s (p + 1) 0 ≡ 0 = number_at-none s (p + 1) in
    rw e (omega arith, byte.1)

pub read_more : (s : List ℕ) (p q v w b r : ℕ) → w ≡ v + 1 → q ≡ p + 1 → p < length s → (b ≡ get_or s p 0) × (b < 256)
    → (r ≡ number_at s q v) × (r < 256 ^ v) → (b + 256 * r ≡ number_at s p w) × (b + 256 * r < 256 ^ w)
read_more s p q v w b r e next h byte rest =
    let at : number_at s p (suc v) ≡ get_or s p 0 + 256 * number_at s (p + 1) v = number_at-more s p v h in
    let behind : r ≡ number_at s (p + 1) v = rest.0 ∙ ap (λ (x : ℕ). number_at s x v) next in
    let width : w ≡ suc v = omega arith in
    rw (width, at, pow-succ', behind) (omega arith, omega arith)
