-- Names that are the same, and a name among others: the tests and what they say.
use mathlib.Core.Bool.{Bool, true, false, ◌||◌}
use mathlib.Core.List.{List, [], ◌∷◌}
use mathlib.Core.Logic.{◌⊎◌, inl, inr}
use mathlib.Core.Path.{◌≡◌, refl, sym, ap, ◌∙◌}
use Prim.Native.Nat.{ℕ, zero, suc, ◌<◌}
use native.Mathlib.Omega.{arith}
use borrow.Author.Tests.{eq-eqb, eqb-true}
use lib.Dec.{eqb}
use lib.ListN.{length, get_or}
use Rattle.order.specs.Before.{before}
use Rattle.paper.specs.Metadata.{Dictionary}
use Rattle.paper.specs.Words.{same, among}
use Rattle.order.proofs.OrderLaws.{before_irreflexive}
use Rattle.paper.proofs.WordLaws.{never, and_both}

-- One of two tests.
pub or_either : (a b : Bool) → a || b ≡ true → (a ≡ true) ⊎ (b ≡ true)
or_either true b e = inl refl
or_either false b e = inr e

pub or_second : (a b : Bool) → b ≡ true → a || b ≡ true
or_second true b e = refl
or_second false b e = e

-- ---- the same bytes

pub same_refl : (a : List ℕ) → same a a ≡ true
unfolding same
same_refl [] = refl
same_refl (x ∷ a) = rw (eq-eqb x x refl) (same_refl a)

pub same_is : (a b : List ℕ) → same a b ≡ true → a ≡ b
unfolding same
same_is [] [] e = refl
same_is [] (y ∷ b) e = never (sym e)
same_is (x ∷ a) [] e = never (sym e)
same_is (x ∷ a) (y ∷ b) e =
    let both = and_both (eqb x y) (same a b) e in
    let heads : x ≡ y = eqb-true x y both.0 in
    let tails : a ≡ b = same_is a b both.1 in
    cc

-- A name that comes before another is not the same.
pub before_differs : (a b : List ℕ) → before a b ≡ true → same a b ≡ false
before_differs a b lower = go (same a b) refl
  where
    go : (r : Bool) → same a b ≡ r → r ≡ false
    go false e = refl
    go true e = never (sym lower ∙ ap (before a) (sym (same_is a b e)) ∙ before_irreflexive a)

-- ---- a name among some

pub among_first : (name : List ℕ) (more : Dictionary) → among name (name ∷ more) ≡ true
unfolding among
among_first name more = rw (same_refl name)

-- It is the first, or among the others.
pub among_either : (name first : List ℕ) (more : Dictionary) → among name (first ∷ more) ≡ true → (first ≡ name) ⊎ (among name more ≡ true)
unfolding among
among_either name first more e = go (or_either (same first name) (among name more) e)
  where
    go : (same first name ≡ true) ⊎ (among name more ≡ true) → (first ≡ name) ⊎ (among name more ≡ true)
    go (inl is) = inl (same_is first name is)
    go (inr in-more) = inr in-more

pub among_more : (name first : List ℕ) (more : Dictionary) → among name more ≡ true → among name (first ∷ more) ≡ true
unfolding among
among_more name first more e = or_second (same first name) (among name more) e

-- The name at a place is among them.
pub among_at : (names : Dictionary) (i : ℕ) → i < length names → among (get_or names i []) names ≡ true
among_at [] i h = absurd (omega arith)
among_at (first ∷ more) zero h = among_first first more
among_at (first ∷ more) (suc i) h = among_more (get_or more i []) first more (among_at more i (omega arith))
