-- Rising names: the first comes before all others, and the names alone say the list.
use mathlib.Core.Bool.{Bool, true, false, ◌||◌}
use mathlib.Core.List.{List, [], ◌∷◌}
use mathlib.Core.Logic.{◌⊎◌, inl, inr}
use mathlib.Core.Path.{◌≡◌, refl, sym, ap, ◌∙◌}
use Prim.Native.Nat.{ℕ}
use Rattle.order.specs.Before.{before}
use Rattle.paper.specs.Metadata.{Dictionary, rising}
use Rattle.paper.specs.Words.{same, among}
use Rattle.names.proofs.SameLaws.{same_is, among_first, among_either}
use Rattle.order.proofs.OrderLaws.{before_transitive, before_asymmetric, before_irreflexive}
use Rattle.paper.proofs.WordLaws.{never, and_both}

pub rising_more : (first : List ℕ) (more : Dictionary) → rising (first ∷ more) ≡ true → rising more ≡ true
unfolding rising
rising_more first [] rise = refl
rising_more first (second ∷ more) rise = (and_both (before first second) (rising (second ∷ more)) rise).1

-- The first comes before each of the others, ..
pub rising_first : (first : List ℕ) (more : Dictionary) (name : List ℕ)
    → rising (first ∷ more) ≡ true → among name more ≡ true → before first name ≡ true
unfolding rising among
rising_first first [] name rise in-more = never (sym in-more)
rising_first first (second ∷ more) name rise in-more =
    let both = and_both (before first second) (rising (second ∷ more)) rise in
    go both.0 (rising_first second more name both.1) (among_either name second more in-more)
  where
    go : before first second ≡ true → (among name more ≡ true → before second name ≡ true)
        → (second ≡ name) ⊎ (among name more ≡ true) → before first name ≡ true
    go lower rest (inl is) = rw is at lower
    go lower rest (inr further) = before_transitive first second name lower (rest further)

-- .. and names that do so may be put in front.
pub rising_front : (first : List ℕ) (more : Dictionary) → rising more ≡ true
    → ((name : List ℕ) → among name more ≡ true → before first name ≡ true) → rising (first ∷ more) ≡ true
unfolding rising
rising_front first [] rise lower = refl
rising_front first (second ∷ more) rise lower = rw (lower second (among_first second more)) rise

-- It is not among the others.
pub rising_once : (first : List ℕ) (more : Dictionary) → rising (first ∷ more) ≡ true → among first more ≡ false
rising_once first more rise = go (among first more) refl
  where
    go : (r : Bool) → among first more ≡ r → r ≡ false
    go false e = refl
    go true e = never (sym (rising_first first more first rise e) ∙ before_irreflexive first)

-- ---- the names alone say the list

-- Two rising lists with the same names have the same first, ..
firsts_same : (x y : List ℕ) (xs ys : Dictionary) → rising (x ∷ xs) ≡ true → rising (y ∷ ys) ≡ true
    → ((name : List ℕ) → among name (x ∷ xs) ≡ among name (y ∷ ys)) → x ≡ y
firsts_same x y xs ys rise-x rise-y equal =
    go (among_either x y ys (sym (equal x) ∙ among_first x xs)) (among_either y x xs (equal y ∙ among_first y ys))
  where
    go : (y ≡ x) ⊎ (among x ys ≡ true) → (x ≡ y) ⊎ (among y xs ≡ true) → x ≡ y
    go (inl is) other = sym is
    go (inr in_ys) (inl is) = is
    go (inr in_ys) (inr in-xs) =
        never (sym (rising_first y ys x rise-y in_ys) ∙ before_asymmetric x y (rising_first x xs y rise-x in-xs))

-- .. and the same others.
others_same : (first : List ℕ) (xs ys : Dictionary) → rising (first ∷ xs) ≡ true → rising (first ∷ ys) ≡ true
    → ((name : List ℕ) → among name (first ∷ xs) ≡ among name (first ∷ ys)) → (name : List ℕ) → among name xs ≡ among name ys
unfolding among
others_same first xs ys rise-x rise-y equal name = go (same first name) refl (equal name)
  where
    go : (r : Bool) → same first name ≡ r → r || among name xs ≡ r || among name ys → among name xs ≡ among name ys
    go false e rest = rest
    go true e rest =
        rw (← same_is first name e) (rising_once first xs rise-x ∙ sym (rising_once first ys rise-y))

pub rising_unique : (xs ys : Dictionary) → rising xs ≡ true → rising ys ≡ true → ((name : List ℕ) → among name xs ≡ among name ys) → xs ≡ ys
unfolding among
rising_unique [] [] rise-x rise-y equal = refl
rising_unique [] (y ∷ ys) rise-x rise-y equal = never (sym (equal y ∙ among_first y ys))
rising_unique (x ∷ xs) [] rise-x rise-y equal = never (sym (among_first x xs) ∙ equal x)
rising_unique (x ∷ xs) (y ∷ ys) rise-x rise-y equal =
    let first : y ≡ x = sym (firsts_same x y xs ys rise-x rise-y equal) in
    let rise : rising (x ∷ ys) ≡ true = rw first at rise-y in
    let equal-x : (name : List ℕ) → among name (x ∷ xs) ≡ among name (x ∷ ys) = λ name. equal name ∙ ap (λ (f : List ℕ). among name (f ∷ ys)) first in
    let others : xs ≡ ys = rising_unique xs ys (rising_more x xs rise-x) (rising_more y ys rise-y) (others_same x xs ys rise-x rise equal-x) in
    cc
