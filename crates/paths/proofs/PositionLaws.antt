-- The position of a name among the names of an object's fields: names are told apart by their bytes, one id at a time.
use mathlib.Core.Bool.{Bool, true, false, cond}
use mathlib.Core.List.{List, []}
use mathlib.Core.Path.{◌≡◌, refl, sym, ap, ◌∙◌}
use Prim.Native.Nat.{ℕ, suc, ◌+◌, ◌≤◌, ◌<◌}
use native.Mathlib.Nat.{add-zero, zero-add}
use native.Mathlib.Omega.{arith}
use lib.ListN.{length, get_or, drop}
use Rattle.order.specs.Before.{order_of}
use Rattle.std.specs.declared.cmp.Ordering.TheVariants.{Less, Equal, Greater}
use Rattle.std.specs.declared.cmp.Ordering.{Ordering}
use Rattle.std.specs.Ordering.{is_eq}
use Rattle.paper.specs.Metadata.{Dictionary}
use Rattle.paper.specs.Values.{names_at}
use Rattle.paper.specs.Words.{same, all_below}
use Rattle.paths.specs.Places.{position_in}
use Rattle.runs.proofs.NumbersRunLaws.{below_at, next_number, no_more}
use Rattle.names.proofs.SameLaws.{same_refl, same_is}
use Rattle.order.proofs.OrderLaws.{order_refl, equal_same}

-- By the answer of a comparison, of a name that was looked up.
module _ (x y : List ℕ) (a : List ℕ) (looked : a ≡ x) (r : Ordering) (told : r ≡ order_of a y) where
  answered : r ≡ order_of x y
  answered = told ∙ rw looked

  pub same_told : is_eq r ≡ same x y
  same_told = rw answered (go (order_of x y) refl)
    where
      differ : {o : Ordering} → order_of x y ≡ o → (o ≡ Equal → ⊥) → false ≡ same x y
      differ is h = no (same x y) refl
        where
          no : (b : Bool) → same x y ≡ b → false ≡ b
          no false e = refl
          no true e = absurd (h (sym is ∙ ap (order_of x) (sym (same_is x y e)) ∙ order_refl x))

      go : (o : Ordering) → order_of x y ≡ o → is_eq o ≡ same x y
      go Less e = differ e (λ f. cc)
      go Equal e = sym (ap (same x) (sym (equal_same x y e)) ∙ same_refl x)
      go Greater e = differ e (λ f. cc)

-- ---- the loop over the ids

-- None of the first i ids has the name: it stands that much further on.
pub record PositionSeen (names : Dictionary) (ids : List ℕ) (name : List ℕ) (i : ℕ) : Type 0 where
  pub within : i ≤ length ids
  pub whole_is : position_in name (names_at names ids) ≡ i + position_in name (names_at names (drop i ids))

pub position_start : (names : Dictionary) (ids : List ℕ) (name : List ℕ) → PositionSeen names ids name 0
position_start names ids name = record { within = omega arith; whole_is = sym (zero-add _) }

module _ {names : Dictionary} {ids : List ℕ} {name : List ℕ} {i : ℕ} (seen : PositionSeen names ids name i) where
  pub position_none : length ids ≤ i → length ids ≡ position_in name (names_at names ids)
  unfolding position_in names_at
  position_none past =
      let all : length ids ≡ i = let within = seen.within in omega arith in
      all ∙ sym (seen.whole_is ∙ ap (λ (l : List ℕ). i + position_in name (names_at names l)) (no_more ids i past) ∙ add-zero i)

  module _ (h : i < length ids) (id : ℕ) (is : id ≡ get_or ids i 0) where
    pub id_below : all_below (length names) ids ≡ true → id < length names
    id_below below = rw is (below_at (length names) ids i below h)

    left : position_in name (names_at names ids)
        ≡ i + cond (same (get_or names id []) name) 0 (suc (position_in name (names_at names (drop (i + 1) ids))))
    unfolding position_in names_at
    left = seen.whole_is ∙ ap (λ (l : List ℕ). i + position_in name (names_at names l)) (next_number ids i h id is)

    module _ (r : Bool) (told : r ≡ same (get_or names id []) name) where
      pub position_here : r ≡ true → i ≡ position_in name (names_at names ids)
      position_here e = sym (left ∙ rw (← told, e) (add-zero i))

      pub position_next : r ≡ false → PositionSeen names ids name (i + 1)
      position_next e = record { within = omega arith; whole_is = left ∙ rw (← told, e) (omega arith) }
