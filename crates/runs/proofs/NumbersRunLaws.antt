-- Runs: numbers of one width that stand one after another, where all of their bytes are there.
use mathlib.Core.Bool.{true, ◌&&◌}
use mathlib.Core.List.{List, [], ◌∷◌}
use mathlib.Core.Path.{◌≡◌, refl, sym, ap, ◌∙◌}
use Prim.Native.Nat.{ℕ, zero, suc, ◌+◌, ◌*◌, ◌-◌, ◌^◌, ◌≤◌, ◌<◌}
use native.Mathlib.Nat.{suc-mul, zero-mul, zero-add, suc-add, add_comm, mul-le-mul, mul-le-mul_right, lt_of_lt_of_le, pow-le-pow_right}
use native.Mathlib.Numerals.{add-one}
use native.Mathlib.Omega.{arith}
use borrow.Author.Tests.{ltb-true}
use lib.Dec.{ltb, lit<}
use lib.ListN.{length, get_or, take, drop, length-drop, drop_of_length-le}
use lib.Seq.{take_all, drop-drop, drop-cons}
use Rattle.numbers.specs.Little.{number_at}
use Rattle.paper.specs.Words.{numbers, last_of, all_below}
use Rattle.paper.proofs.WordLaws.{and_both}

-- A run one step at a time: its first number, and the run further on.
pub run_step : (w n : ℕ) (s : List ℕ) → 0 < length s → numbers w (suc n) s ≡ number_at s 0 w ∷ numbers w n (drop w s)
unfolding numbers number_at
run_step w n [] h = absurd (omega arith)
run_step w n (b ∷ s) h = refl

-- A number further on.
pub number_drop : (s : List ℕ) (k p w : ℕ) → number_at (drop k s) p w ≡ number_at s (k + p) w
unfolding number_at
number_drop s k p w = rw drop-drop

-- What a number and those behind it take.
module _ (w n : ℕ) (s : List ℕ) (some : 1 ≤ w) (there : suc n * w ≤ length s) where
  first_there : 0 < length s
  first_there = let e : suc n * w ≡ n * w + w = suc-mul n w in omega arith

  rest_there : n * w ≤ length (drop w s)
  rest_there = let e : suc n * w ≡ n * w + w = suc-mul n w in rw length-drop (omega arith)

-- As many as the count says.
pub run_length : (w n : ℕ) (s : List ℕ) → 1 ≤ w → n * w ≤ length s → length (numbers w n s) ≡ n
unfolding numbers
run_length w zero s some there = refl
run_length w (suc n) s some there =
    rw (run_step w n s (first_there w n s some there)) (ap suc (run_length w n (drop w s) some (rest_there w n s some there)))

-- The number at a place of the run.
pub run_at : (w n : ℕ) (s : List ℕ) (i : ℕ) → 1 ≤ w → n * w ≤ length s → i < n → get_or (numbers w n s) i 0 ≡ number_at s (i * w) w
run_at w zero s i some there h = absurd (omega arith)
run_at w (suc n) s zero some there h = rw (run_step w n s (first_there w n s some there), zero-mul)
run_at w (suc n) s (suc i) some there h =
    rw (run_step w n s (first_there w n s some there))
    (run_at w n (drop w s) i some (rest_there w n s some there) (omega arith) ∙ rw (number_drop, suc-mul, add_comm (i * w) w))

-- Further on in a run is the run further on.
pub run_drop : (w i n : ℕ) (s : List ℕ) → 1 ≤ w → (i + n) * w ≤ length s → drop i (numbers w (i + n) s) ≡ numbers w n (drop (i * w) s)
run_drop w zero n s some there = rw (zero-mul, zero-add)
run_drop w (suc i) n s some there =
    let all : suc (i + n) * w ≤ length s = rw suc-add at there in
    rw (suc-add, run_step w (i + n) s (first_there w (i + n) s some all))
    (run_drop w i n (drop w s) some (rest_there w (i + n) s some all) ∙ rw (drop-drop, suc-mul, add_comm (i * w) w))

-- What a number at a place needs is there.
pub run_there : (w n i l p : ℕ) → n * w ≤ l → i < n → p ≡ i * w → p + w ≤ l
run_there w n i l p there h e =
    let up : suc i * w ≤ n * w = mul-le-mul_right w h in
    let next : suc i * w ≡ i * w + w = suc-mul i w in
    omega arith

-- A count of at most four bytes is small, and so is what so many numbers and one more take.
pub run_fits : (w n : ℕ) → w ≤ 4 → n < 256 ^ w → (n < 4294967296) × ((n + 1) * w ≤ 17179869184)
run_fits w n most below =
    let small : n < 4294967296 = lt_of_lt_of_le below (pow-le-pow_right (lit< tt) most) in
    let all : (n + 1) * w ≤ 4294967296 * 4 = let next : n + 1 ≤ 4294967296 = omega arith in mul-le-mul next most in
    (small, omega arith)

-- What is lent of bytes from a place on.
abbrev pub rest : List ℕ → ℕ → List ℕ
rest s k = take (length s - k) (drop k s)

pub rest_is : (s : List ℕ) (k : ℕ) → rest s k ≡ drop k s
rest_is s k = take_all (length s - k) (drop k s) (rw length-drop (omega arith))

-- ---- the last of some numbers, and numbers below a bound

pub last_at : (ns : List ℕ) (i : ℕ) → i + 1 ≡ length ns → last_of ns ≡ get_or ns i 0
unfolding last_of
last_at [] i e = absurd (omega arith)
last_at (n ∷ []) zero e = refl
last_at (n ∷ []) (suc i) e = absurd (omega arith)
last_at (n ∷ m ∷ ns) zero e = absurd (omega arith)
last_at (n ∷ m ∷ ns) (suc i) e = last_at (m ∷ ns) i (omega arith)

pub below_at : (bound : ℕ) (ns : List ℕ) (i : ℕ) → all_below bound ns ≡ true → i < length ns → get_or ns i 0 < bound
unfolding all_below
below_at bound [] i all h = absurd (omega arith)
below_at bound (n ∷ ns) zero all h = ltb-true n bound (and_both (ltb n bound) (all_below bound ns) all).0
below_at bound (n ∷ ns) (suc i) all h = below_at bound ns i (and_both (ltb n bound) (all_below bound ns) all).1 (omega arith)

-- One step at a time: from a place to the next, and at the end.
pub below_step : (bound : ℕ) (ns : List ℕ) (i : ℕ) → i < length ns → all_below bound (drop i ns) ≡ (ltb (get_or ns i 0) bound && all_below bound (drop (i + 1) ns))
unfolding all_below
below_step bound ns i h = rw (add-one, drop-cons ns i 0 h)

pub below_end : (bound : ℕ) (ns : List ℕ) (i : ℕ) → length ns ≤ i → all_below bound (drop i ns) ≡ true
unfolding all_below
below_end bound ns i h = rw (drop_of_length-le ns h)

-- ---- a run lent: how its bytes and its numbers go together

module _ (w n : ℕ) (s ns : List ℕ) (fits : (n * w ≤ length s) × (1 ≤ w) × (w ≤ 4)) (seen : numbers w n s ≡ ns) where
  pub seen_length : n ≡ length ns
  seen_length = sym (run_length w n s fits.1 fits.0) ∙ ap length seen

  module _ (i : ℕ) (within : i < length ns) where
    inside : i < n
    inside = let e = seen_length in omega arith

    pub seen_there : i * w + w ≤ length s
    seen_there = run_there w n i (length s) (i * w) fits.0 inside refl

    pub seen_number : number_at s (i * w) w ≡ get_or ns i 0
    seen_number = sym (run_at w n s i fits.1 fits.0 inside) ∙ ap (λ (l : List ℕ). get_or l i 0) seen

-- ---- a walk along some numbers: the next one, and the end

module _ (ns : List ℕ) (i : ℕ) where
  pub next_number : i < length ns → (n : ℕ) → n ≡ get_or ns i 0 → drop i ns ≡ n ∷ drop (i + 1) ns
  next_number h n is = drop-cons ns i 0 h ∙ rw (add-one i, sym is) refl

  pub no_more : length ns ≤ i → drop i ns ≡ []
  no_more h = drop_of_length-le ns {i = i} h
