-- One more behind some: a number of one width written behind others is the next of them, and an entry of a table is.
use mathlib.Core.Bool.{Bool, true, false}
use mathlib.Core.List.{List, [], ◌∷◌, ◌++◌}
use mathlib.Core.Path.{◌≡◌, refl, sym, ap, ◌∙◌}
use Prim.Native.Nat.{ℕ, zero, suc, ◌+◌, ◌*◌, ◌≤◌, ◌<◌}
use native.Mathlib.Nat.{zero-mul, suc-mul, add_comm}
use native.Mathlib.Omega.{arith}
use borrow.Author.Tests.{eqb-true, eqb-false}
use lib.Dec.{eqb}
use lib.ListN.{length, get_or, get_or-append, take, drop, length-append, length-drop, take-append-drop}
use lib.Seq.{take-append-le, drop-append-le, length-take-le, take_at, drop_at, get_or_at}
use Rattle.numbers.specs.Little.{number, number_at, put_at}
use Rattle.paper.specs.Words.{numbers}
use Rattle.runs.proofs.NumbersRunLaws.{run_step, number_drop}
use Rattle.numbers.proofs.PutLaws.{length_put}

-- What stands behind does not count.
first_same : (width : ℕ) (s t : List ℕ) → width ≤ length s → number_at (s ++ t) 0 width ≡ number_at s 0 width
unfolding number_at
first_same width s t there = ap number (take-append-le width s t there)

pub front_same : (width n : ℕ) (s t : List ℕ) → 1 ≤ width → n * width ≤ length s → numbers width n (s ++ t) ≡ numbers width n s
unfolding numbers
front_same width zero s t least there = refl
front_same width (suc n) s t least there =
    let size : suc n * width ≡ n * width + width = suc-mul n width in
    let first : width ≤ length s = omega arith in
    run_step width n (s ++ t) (rw length-append (omega arith))
    ∙ (rw (first_same width s t first, drop-append-le width s t first, front_same width n (drop width s) t least (rw length-drop (omega arith))))
    ∙ sym (run_step width n s (omega arith))

one_more : (width n : ℕ) (s : List ℕ) → 1 ≤ width → suc n * width ≤ length s
    → numbers width (suc n) s ≡ numbers width n s ++ (number_at s (n * width) width ∷ [])
one_more width zero s least there =
    let size : suc 0 * width ≡ 0 * width + width = suc-mul 0 width in
    run_step width 0 s (omega (arith, zero-mul width)) ∙ unfold numbers in rw zero-mul
one_more width (suc n) s least there =
    let size : suc (suc n) * width ≡ suc n * width + width = suc-mul (suc n) width in
    let also : suc n * width ≡ n * width + width = suc-mul n width in
    let some_left : 0 < length s = omega arith in
    let behind = one_more width n (drop width s) least (rw length-drop (omega arith)) in
    run_step width (suc n) s some_left
    ∙ rw (behind, number_drop, run_step width n s some_left, also, add_comm (n * width) width)

-- A number put behind some.
module _ (width n : ℕ) (s new : List ℕ) (least : 1 ≤ width) (long : length new ≡ width) (there : suc n * width ≤ length s) where
  room : n * width + length new ≤ length s
  room = let size : suc n * width ≡ n * width + width = suc-mul n width in omega arith

  front_long : length (take (n * width) s) ≡ n * width
  front_long = let fits = room in length-take-le (n * width) s (omega arith)

  put_front : numbers width n (put_at s (n * width) new) ≡ numbers width n s
  unfolding put_at
  put_front =
      let size = front_long in
      front_same width n (take (n * width) s) (new ++ drop (n * width + length new) s) least (omega arith)
      ∙ sym (front_same width n (take (n * width) s) (drop (n * width) s) least (omega arith))
      ∙ ap (numbers width n) (take-append-drop (n * width) s)

  put_here : number_at (put_at s (n * width) new) (n * width) width ≡ number new
  unfolding put_at number_at
  put_here =
      let behind : List ℕ = drop (n * width + length new) s in
      rw (drop_at (take (n * width) s) (new ++ behind) (n * width) front_long, take_at new behind width long)

  pub numbers_put : numbers width (suc n) (put_at s (n * width) new) ≡ numbers width n s ++ (number new ∷ [])
  numbers_put = one_more width n (put_at s (n * width) new) least (rw (length_put s (n * width) new room) there) ∙ rw (put_front, put_here)

-- ---- entries

-- Entries that follow some values, and one value more.
pub one_further : (entry : ℕ → ℕ) (values : List ℕ) (value : ℕ) {n : ℕ} → length values ≡ n → ((k : ℕ) → k < n → entry k ≡ get_or values k 0) → entry n ≡ value
    → (k : ℕ) → k < n + 1 → entry k ≡ get_or (values ++ (value ∷ [])) k 0
one_further entry values value {n} size each last k h = go (eqb k n) refl
  where
    go : (b : Bool) → eqb k n ≡ b → entry k ≡ get_or (values ++ (value ∷ [])) k 0
    go true e = let same : k ≡ n = eqb-true k n e in rw same (last ∙ sym (get_or_at values value [] 0 n size))
    go false e =
        let other = eqb-false k n e in
        let inside : k < n = omega arith in
        each k inside ∙ sym (get_or-append values (value ∷ []) 0 k (rw size inside))
