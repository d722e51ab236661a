-- The names of ids rise: the loop that compares each with the one before.
use mathlib.Core.Bool.{Bool, true, false, ◌&&◌}
use mathlib.Core.List.{List, [], ◌∷◌}
use mathlib.Core.Path.{◌≡◌, refl, sym, ap, ◌∙◌}
use Prim.Native.Nat.{ℕ, ◌+◌, ◌≤◌, ◌<◌}
use native.Mathlib.Numerals.{add-one}
use native.Mathlib.Omega.{arith}
use lib.ListN.{length, get_or, drop, drop_of_length-le}
use lib.Seq.{drop-cons}
use Rattle.order.specs.Before.{before}
use Rattle.paper.specs.Metadata.{Dictionary, rising}
use Rattle.paper.specs.Values.{names_at}
use Rattle.paper.specs.Words.{all_below}
use Rattle.runs.proofs.NumbersRunLaws.{below_at}

pub ordered_none : (names : Dictionary) (ids : List ℕ) → length ids ≡ 0 → true ≡ rising (names_at names ids)
unfolding rising names_at
ordered_none names [] none = refl
ordered_none names (id ∷ ids) none = absurd (omega arith)

-- After i ids: what is left decides, behind the name of the last.
pub record Ordered (names : Dictionary) (ids : List ℕ) (bound last i : ℕ) : Type 0 where
  pub far : i ≤ length ids
  pub last_below : last < bound
  pub whole : rising (names_at names ids) ≡ rising (get_or names last [] ∷ names_at names (drop i ids))

module _ (names : Dictionary) (ids : List ℕ) (bound : ℕ) (below : all_below bound ids ≡ true) where
  pub ordered_start : (length ids ≡ 0 → ⊥) → (first : ℕ) → first ≡ get_or ids 0 0 → Ordered names ids bound first 1
  unfolding names_at
  ordered_start some first is =
      let here : 0 < length ids = omega arith in
      let lower : get_or ids 0 0 < bound = below_at bound ids 0 below here in
      let all_ids : ids ≡ first ∷ drop 1 ids = drop-cons ids 0 0 here ∙ ap (λ (n : ℕ). n ∷ drop 1 ids) (sym is) in
      record { far = omega arith; last_below = omega arith; whole = ap (λ (l : List ℕ). rising (names_at names l)) all_ids }

  module _ {last i : ℕ} (seen : Ordered names ids bound last i) where
    pub ordered_done : length ids ≤ i → true ≡ rising (names_at names ids)
    unfolding rising names_at
    ordered_done past = sym (seen.whole ∙ ap (λ (l : List ℕ). rising (get_or names last [] ∷ names_at names l)) (drop_of_length-le ids past))

    module _ (h : i < length ids) (id : ℕ) (is : id ≡ get_or ids i 0) where
      pub ordered_below : id < bound
      ordered_below = let lower = below_at bound ids i below h in omega arith

      step : rising (names_at names ids) ≡ before (get_or names last []) (get_or names id []) && rising (get_or names id [] ∷ names_at names (drop (i + 1) ids))
      unfolding rising names_at
      step =
          let left : drop i ids ≡ id ∷ drop (i + 1) ids = rw (add-one, drop-cons ids i 0 h, ← is) in
          seen.whole ∙ ap (λ (l : List ℕ). rising (get_or names last [] ∷ names_at names l)) left

      module _ (r : Bool) (told : r ≡ before (get_or names last []) (get_or names id [])) where
        pub ordered_next : r ≡ true → Ordered names ids bound id (i + 1)
        ordered_next passed =
            record { far = omega arith; last_below = ordered_below; whole = step ∙ rw (← told, passed) }

        pub ordered_falls : r ≡ false → false ≡ rising (names_at names ids)
        ordered_falls failed = sym (step ∙ rw (← told, failed))
