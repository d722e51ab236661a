-- Children at given starts: one more at a time, each with its own length.
use Rattle.std.specs.Prelude.{Option, None, Some}
use mathlib.Core.Bool.{true, ◌&&◌}
use mathlib.Core.List.{List, [], ◌∷◌, map}
use mathlib.Core.Path.{◌≡◌, refl, sym, ap, ◌∙◌}
use Prim.Native.Nat.{ℕ, ◌+◌, ◌≤◌, ◌<◌}
use native.Mathlib.Omega.{arith}
use borrow.Author.Tests.{lt-ltb, leb-true}
use lib.Dec.{leb, ltb}
use lib.ListN.{length, drop, drop_of_length-le}
use Rattle.paper.specs.Values.{extent, child_extent, children_at}
use Rattle.paper.specs.declared.Child.{Child}
use Rattle.paper.specs.Words.{given, and_then, is_there, all_below}
use Rattle.paper.proofs.WordLaws.{never, given_some}
use Rattle.containers.proofs.CoverLaws.{Test, passed, failed, at_most}
use Rattle.std.proofs.lemmas.Option.{same_Some}

-- ---- one child more

pub children_none : (area : List ℕ) (start : ℕ) (more : List ℕ) → child_extent area start ≡ None → children_at area (start ∷ more) ≡ None
unfolding children_at and_then
children_none area start more e = rw e

-- Children there, with one more in front.
unfoldable pub with_first : ℕ → ℕ → Option (List Child) → Option (List Child)
with_first start size rest = and_then rest λ children. Some (record { start = start; size = size } ∷ children)

pub children_some : (area : List ℕ) (start : ℕ) (more : List ℕ) (size : ℕ) → child_extent area start ≡ Some size
    → children_at area (start ∷ more) ≡ with_first start size (children_at area more)
unfolding children_at and_then with_first
children_some area start more size e = rw e

-- ---- what a child's length says

pub extent_fits : (area : List ℕ) (start size : ℕ) → child_extent area start ≡ Some size
    → (extent (drop start area) ≡ Some size) × (start + size ≤ length area)
unfolding child_extent and_then is_there
extent_fits area start size e = go (extent (drop start area)) e
  where
    go : (x : Option ℕ) → (and_then x λ n. given (leb (start + n) (length area)) (Some n)) ≡ Some size → (x ≡ Some size) × (start + size ≤ length area)
    go None f = never (sym (ap is_there f))
    go (Some n) f =
        let has = given_some (leb (start + n) (length area)) (Some n) f in
        let same : n ≡ size = same_Some n size has.1 in
        let end : start + n ≤ length area = leb-true (start + n) (length area) has.0 in
        (has.1, omega arith)

-- A child that has a length starts in the area.
pub extent_inside : (area : List ℕ) (start size : ℕ) → child_extent area start ≡ Some size → start < length area
unfolding extent is_there
extent_inside area start size e = go (at_most (length area) start)
  where
    go : Test (leb (length area) start) (length area ≤ start) (start < length area) → start < length area
    go (failed t h) = h
    go (passed t h) = never (sym (ap is_there (sym (ap extent (drop_of_length-le area h)) ∙ (extent_fits area start size e).0)))

-- ---- what holds of each of the children at given starts

-- Each is where it says and as long as it says.
unfoldable pub AllSized : List ℕ → List Child → Type 0
AllSized area [] = Unit {0}
AllSized area (child ∷ more) = (child_extent area child.start ≡ Some child.size) × AllSized area more

unfoldable pub SizedIn : List ℕ → List ℕ → Option (List Child) → Type 0
SizedIn area starts None = Unit {0}
SizedIn area starts (Some children) = AllSized area children × (map (λ (c : Child). c.start) children ≡ starts)

-- The children at given starts are those, each as long as it says.
pub children_sized : (area starts : List ℕ) → SizedIn area starts (children_at area starts)
unfolding children_at AllSized SizedIn and_then
children_sized area [] = (tt, refl)
children_sized area (start ∷ more) = go (child_extent area start) refl (children_at area more) (children_sized area more)
  where
    go : (x : Option ℕ) → child_extent area start ≡ x → (rest : Option (List Child)) → SizedIn area more rest
        → SizedIn area (start ∷ more) (and_then x λ size. and_then rest λ children. Some (record { start = start; size = size } ∷ children))
    go None e rest s = tt
    go (Some size) e None s = tt
    go (Some size) e (Some children) s = ((e, s.0), ap (λ (l : List ℕ). start ∷ l) s.1)

-- Starts of children that are there are below the area's length.
pub children_below : (area starts : List ℕ) → is_there (children_at area starts) ≡ true → all_below (length area) starts ≡ true
unfolding children_at all_below is_there and_then
children_below area [] e = refl
children_below area (start ∷ more) e = go (child_extent area start) refl (children_at area more) e (children_below area more)
  where
    go : (x : Option ℕ) → child_extent area start ≡ x → (rest : Option (List Child))
        → is_there (and_then x λ size. and_then rest λ children. Some (record { start = start; size = size } ∷ children)) ≡ true
        → (is_there rest ≡ true → all_below (length area) more ≡ true) → ltb start (length area) && all_below (length area) more ≡ true
    go None f rest g below = never (sym g)
    go (Some size) f None g below = never (sym g)
    go (Some size) f (Some children) g below = rw (lt-ltb start (length area) (extent_inside area start size f)) (below refl)
