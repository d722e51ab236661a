-- Two runs merged: the loop, and what comes of runs whose names never fall.
use mathlib.Core.Bool.{Bool, true, false, not}
use mathlib.Core.List.{List, [], ◌∷◌, ◌++◌, append-nil}
use mathlib.Core.Path.{◌≡◌, refl, sym, ap, ◌∙◌}
use Prim.Native.Nat.{ℕ, suc, ◌+◌, ◌≤◌, ◌<◌}
use native.Mathlib.Numerals.{add-one}
use native.Mathlib.Omega.{arith}
use borrow.Author.Tests.{ltb-true, ltb-false, not-true, not-false}
use lib.Dec.{ltb}
use lib.ListN.{length, get_or, take, drop, set, length-set, drop_of_length-le}
use lib.Seq.{drop-cons, take-suc-set, take_all, append_snoc}
use Rattle.order.specs.Before.{before}
use Rattle.paper.specs.Metadata.{Dictionary}
use Rattle.ranking.specs.Merging.{takes_first, merge_into, merged}
use Rattle.paper.proofs.WordLaws.{never}

-- ---- where the next id comes from

module _ (names : Dictionary) (first second : List ℕ) (i j : ℕ) where
  pub takes_ended : length first ≤ i → false ≡ takes_first names (drop i first) (drop j second)
  unfolding takes_first
  takes_ended past = rw (drop_of_length-le first past)

  module _ (h : i < length first) where
    pub takes_all : length second ≤ j → true ≡ takes_first names (drop i first) (drop j second)
    unfolding takes_first
    takes_all past = rw (drop-cons first i 0 h, drop_of_length-le second past)

    pub takes_lower : j < length second → (x y : ℕ) → x ≡ get_or first i 0 → y ≡ get_or second j 0
        → (r : Bool) → r ≡ before (get_or names y []) (get_or names x []) → not r ≡ takes_first names (drop i first) (drop j second)
    unfolding takes_first
    takes_lower k x y is_x is_y r told = rw (told, is_x, is_y, drop-cons first i 0 h, drop-cons second j 0 k)

  -- The one that it comes from has not ended.
  pub takes_there : (r : Bool) → r ≡ takes_first names (drop i first) (drop j second) → r ≡ true → i < length first
  takes_there r told passed = go (ltb i (length first)) refl
    where
      go : (b : Bool) → ltb i (length first) ≡ b → i < length first
      go true e = ltb-true i (length first) e
      go false e = never (sym (takes_ended (ltb-false i (length first) e) ∙ sym told ∙ passed))

  pub takes_other : (r : Bool) → r ≡ takes_first names (drop i first) (drop j second) → r ≡ false
      → i ≤ length first → i + j < length first + length second → j < length second
  takes_other r told failed far more = go (ltb j (length second)) refl
    where
      go : (b : Bool) → ltb j (length second) ≡ b → j < length second
      go true e = ltb-true j (length second) e
      go false e =
          let past = ltb-false j (length second) e in
          never (takes_all (omega arith) past ∙ sym told ∙ failed)

-- ---- merged, one id more at a time

merged_first : (names : Dictionary) (x : ℕ) (xs ys : List ℕ) → takes_first names (x ∷ xs) ys ≡ true → merged names (x ∷ xs) ys ≡ x ∷ merged names xs ys
unfolding merged merge_into takes_first
merged_first names x xs [] e = refl
merged_first names x xs (y ∷ ys) e = rw (not-true (before (get_or names y []) (get_or names x [])) e)

merged_second : (names : Dictionary) (xs : List ℕ) (y : ℕ) (ys : List ℕ) → takes_first names xs (y ∷ ys) ≡ false
    → merged names xs (y ∷ ys) ≡ y ∷ merged names xs ys
unfolding merged merge_into takes_first
merged_second names [] y ys e = refl
merged_second names (x ∷ xs) y ys e = rw (not-false (before (get_or names y []) (get_or names x [])) e)

-- After i ids of one and j of the other: what is left is to be merged.
pub record MergeSeen (names : Dictionary) (first second out : List ℕ) (i j : ℕ) : Type 0 where
  pub far_first : i ≤ length first
  pub far_second : j ≤ length second
  pub size : length out ≡ length first + length second
  pub whole : merged names first second ≡ take (i + j) out ++ merged names (drop i first) (drop j second)

pub merge_start : (names : Dictionary) (first second out : List ℕ) → length out ≡ length first + length second → MergeSeen names first second out 0 0
merge_start names first second out size = record { far_first = omega arith; far_second = omega arith; size = size; whole = refl }

module _ {names : Dictionary} {first second out : List ℕ} {i j : ℕ} (seen : MergeSeen names first second out i j) where
  -- One id more is written.
  written : (id : ℕ) (rest : List ℕ) → i + j < length out → take (i + j) out ++ (id ∷ rest) ≡ take (suc (i + j)) (set out (i + j) id) ++ rest
  written id rest h = sym (rw (take-suc-set out (i + j) id h, append_snoc))

  module _ (r : Bool) (told : r ≡ takes_first names (drop i first) (drop j second)) where
    pub merge_first : r ≡ true → i + j < length out → (id : ℕ) → id ≡ get_or first i 0 → {after : List ℕ} → after ≡ set out (i + j) id
        → MergeSeen names first second after (i + 1) j
    merge_first passed h id is put =
        let e = put ∙ ap (set out (i + j)) is in
        let there : i < length first = takes_there names first second i j r told passed in
        let left : drop i first ≡ get_or first i 0 ∷ drop (i + 1) first = rw (add-one, drop-cons first i 0 there) in
        let takes : takes_first names (get_or first i 0 ∷ drop (i + 1) first) (drop j second) ≡ true =
        sym (told ∙ ap (λ (l : List ℕ). takes_first names l (drop j second)) left) ∙ passed in
        let place : suc (i + j) ≡ i + 1 + j = omega arith in
        record {
          far_first = omega arith;
          far_second = seen.far_second;
          size = ap length e ∙ length-set out (i + j) (get_or first i 0) ∙ seen.size;
          whole = seen.whole
              ∙ ap (λ (l : List ℕ). take (i + j) out ++ l)
              (ap (λ (l : List ℕ). merged names l (drop j second)) left ∙ merged_first names (get_or first i 0) (drop (i + 1) first) (drop j second) takes)
              ∙ written (get_or first i 0) (merged names (drop (i + 1) first) (drop j second)) h ∙ rw (e, place);
        }

    pub merge_second : r ≡ false → i + j < length out → (id : ℕ) → id ≡ get_or second j 0 → {after : List ℕ} → after ≡ set out (i + j) id
        → MergeSeen names first second after i (j + 1)
    merge_second failed h id is put =
        let e = put ∙ ap (set out (i + j)) is in
        let size : length out ≡ length first + length second = seen.size in
        let there : j < length second = takes_other names first second i j r told failed seen.far_first (omega arith) in
        let left : drop j second ≡ get_or second j 0 ∷ drop (j + 1) second = rw (add-one, drop-cons second j 0 there) in
        let takes : takes_first names (drop i first) (get_or second j 0 ∷ drop (j + 1) second) ≡ false =
        sym (told ∙ ap (takes_first names (drop i first)) left) ∙ failed in
        let place : suc (i + j) ≡ i + (j + 1) = omega arith in
        record {
          far_first = seen.far_first;
          far_second = omega arith;
          size = ap length e ∙ length-set out (i + j) (get_or second j 0) ∙ seen.size;
          whole = seen.whole
              ∙ ap (λ (l : List ℕ). take (i + j) out ++ l)
              (ap (merged names (drop i first)) left ∙ merged_second names (drop i first) (get_or second j 0) (drop (j + 1) second) takes)
              ∙ written (get_or second j 0) (merged names (drop i first) (drop (j + 1) second)) h ∙ rw (e, place);
        }

  pub merge_done : length out ≤ i + j → out ≡ merged names first second
  unfolding merged
  merge_done past =
      let size = seen.size in
      let a = seen.far_first in
      let b = seen.far_second in
      sym (seen.whole ∙ rw (drop_of_length-le first {i = i} (omega arith), drop_of_length-le second {i = j} (omega arith), take_all (i + j) out past) (append-nil out))
