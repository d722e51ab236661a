-- When every byte of an area is in exactly one child, by counting. Every byte is held once exactly when every byte is held
-- and the sizes come to the area's length; and where each byte is held once, a child starts wherever one ends.
use mathlib.Core.Bool.{Bool, true, false, ◌&&◌}
use mathlib.Core.List.{List, [], ◌∷◌}
use mathlib.Core.Path.{◌≡◌, refl}
use Prim.Native.Nat.{ℕ, zero, suc, ◌+◌, ◌≤◌, ◌<◌, min}
use native.Mathlib.Omega.{arith}
use borrow.Author.Tests.{ltb-true, ltb-false, leb-true, leb-false, eqb-true, eqb-false, eq-eqb}
use lib.Dec.{leb, ltb, eqb}
use Rattle.paper.specs.Values.{holders, every_byte_once}
use Rattle.paper.specs.declared.Child.{Child}
use Rattle.paper.specs.Words.{one_if}
use Rattle.containers.specs.Children.{sizes}
use Rattle.paper.proofs.WordLaws.{and_both}

-- ---- how many children hold a byte, start at a place, end at a place

pub inside : ℕ → Child → ℕ
inside place child = one_if (leb child.start place && ltb place (child.start + child.size))

unfoldable pub starting : ℕ → List Child → ℕ
starting place [] = 0
starting place (child ∷ more) = one_if (eqb child.start place) + starting place more

unfoldable pub ending : ℕ → List Child → ℕ
ending place [] = 0
ending place (child ∷ more) = one_if (eqb (child.start + child.size) place) + ending place more

-- Each child has a byte, and none passes the area.
unfoldable pub AllWithin : ℕ → List Child → Type 0
AllWithin end [] = Unit {0}
AllWithin end (child ∷ more) = ((1 ≤ child.size) × (child.start + child.size ≤ end)) × AllWithin end more

-- ---- a test as a number

pub data Test (b : Bool) (P Q : Type 0) : Type 0 where
  passed : b ≡ true → P → Test b P Q
  failed : b ≡ false → Q → Test b P Q

pub less : (a b : ℕ) → Test (ltb a b) (a < b) (b ≤ a)
less a b = go (ltb a b) refl
  where
    go : (t : Bool) → ltb a b ≡ t → Test (ltb a b) (a < b) (b ≤ a)
    go true e = passed e (ltb-true a b e)
    go false e = failed e (ltb-false a b e)

pub at_most : (a b : ℕ) → Test (leb a b) (a ≤ b) (b < a)
at_most a b = go (leb a b) refl
  where
    go : (t : Bool) → leb a b ≡ t → Test (leb a b) (a ≤ b) (b < a)
    go true e = passed e (leb-true a b e)
    go false e = failed e (leb-false a b e)

pub equal : (a b : ℕ) → Test (eqb a b) (a ≡ b) (a ≡ b → ⊥)
equal a b = go (eqb a b) refl
  where
    go : (t : Bool) → eqb a b ≡ t → Test (eqb a b) (a ≡ b) (a ≡ b → ⊥)
    go true e = passed e (eqb-true a b e)
    go false e = failed e (eqb-false a b e)

-- A child holds a byte or does not.
pub data Holds (place : ℕ) (child : Child) : Type 0 where
  held : child.start ≤ place → place < child.start + child.size → inside place child ≡ 1 → Holds place child
  before_it : place < child.start → inside place child ≡ 0 → Holds place child
  behind_it : child.start + child.size ≤ place → inside place child ≡ 0 → Holds place child

pub holding : (place : ℕ) (child : Child) → Holds place child
unfolding inside one_if
holding place child = go (at_most child.start place) (less place (child.start + child.size))
  where
    go : Test (leb child.start place) (child.start ≤ place) (place < child.start)
        → Test (ltb place (child.start + child.size)) (place < child.start + child.size) (child.start + child.size ≤ place)
        → Holds place child
    go (passed e h) (passed f k) = held h k (rw (e, f))
    go (passed e h) (failed f k) = behind_it k (rw (e, f))
    go (failed e h) test = before_it h (rw e)

pub holders_cons : (place : ℕ) (child : Child) (more : List Child) → holders place (child ∷ more) ≡ inside place child + holders place more
unfolding holders inside
holders_cons place child more = refl

-- ---- double counting: the bytes held by each child come to the holders of each byte

unfoldable held_up_to : ℕ → Child → ℕ
held_up_to zero child = 0
held_up_to (suc n) child = inside n child + held_up_to n child

held_least : (n : ℕ) (child : Child) → held_up_to n child + min n child.start ≡ min n (child.start + child.size)
unfolding held_up_to
held_least zero child = omega arith
held_least (suc n) child = go (holding n child) (held_least n child)
  where
    go : Holds n child → held_up_to n child + min n child.start ≡ min n (child.start + child.size)
        → inside n child + held_up_to n child + min (suc n) child.start ≡ min (suc n) (child.start + child.size)
    go (held h k e) rest = rw e (omega arith)
    go (before_it h e) rest = rw e (omega arith)
    go (behind_it h e) rest = rw e (omega arith)

-- All the holders of the bytes below a place.
unfoldable pub total : ℕ → List Child → ℕ
total zero children = 0
total (suc n) children = holders n children + total n children

total_none : (n : ℕ) → total n [] ≡ 0
unfolding total holders
total_none zero = refl
total_none (suc n) = let rest : total n [] ≡ 0 = total_none n in omega arith

total_cons : (n : ℕ) (child : Child) (more : List Child) → total n (child ∷ more) ≡ held_up_to n child + total n more
unfolding total held_up_to
total_cons zero child more = refl
total_cons (suc n) child more =
    let rest : total n (child ∷ more) ≡ held_up_to n child + total n more = total_cons n child more in
    let here : holders n (child ∷ more) ≡ inside n child + holders n more = holders_cons n child more in
    omega arith

pub total_sizes : (n : ℕ) (children : List Child) → AllWithin n children → total n children ≡ sizes children
unfolding sizes AllWithin
total_sizes n [] fit = total_none n
total_sizes n (child ∷ more) fit =
    let first : total n (child ∷ more) ≡ held_up_to n child + total n more = total_cons n child more in
    let rest : total n more ≡ sizes more = total_sizes n more fit.1 in
    let own : held_up_to n child + min n child.start ≡ min n (child.start + child.size) = held_least n child in
    let end : child.start + child.size ≤ n = fit.0.1 in
    omega arith

-- ---- every byte once, by the sum

total_least : (n : ℕ) (children : List Child) → ((i : ℕ) → i < n → 1 ≤ holders i children) → n ≤ total n children
unfolding total
total_least zero children all = omega arith
total_least (suc n) children all =
    let rest : n ≤ total n children = total_least n children (λ i h. all i (omega arith)) in
    let here : 1 ≤ holders n children = all n (omega arith) in
    omega arith

pub once_by_sum : (n : ℕ) (children : List Child) → ((i : ℕ) → i < n → 1 ≤ holders i children) → total n children ≡ n
    → every_byte_once n children ≡ true
unfolding total every_byte_once
once_by_sum zero children all e = refl
once_by_sum (suc n) children all e =
    let least : n ≤ total n children = total_least n children (λ i h. all i (omega arith)) in
    let here : 1 ≤ holders n children = all n (omega arith) in
    let one : holders n children ≡ 1 = omega arith in
    rw (eq-eqb (holders n children) 1 one) (once_by_sum n children (λ i h. all i (omega arith)) (omega arith))

pub sum_of_once : (n : ℕ) (children : List Child) → every_byte_once n children ≡ true → total n children ≡ n
unfolding total every_byte_once
sum_of_once zero children e = refl
sum_of_once (suc n) children e =
    let both = and_both (eqb (holders n children) 1) (every_byte_once n children) e in
    let here : holders n children ≡ 1 = eqb-true (holders n children) 1 both.0 in
    let rest : total n children ≡ n = sum_of_once n children both.1 in
    omega arith

pub once_at : (n : ℕ) (children : List Child) → every_byte_once n children ≡ true → (i : ℕ) → i < n → holders i children ≡ 1
unfolding every_byte_once
once_at zero children e i h = absurd (omega arith)
once_at (suc n) children e i h = go (equal i n) (once_at n children parts.1 i)
  where
    parts : (eqb (holders n children) 1 ≡ true) × (every_byte_once n children ≡ true)
    parts = and_both (eqb (holders n children) 1) (every_byte_once n children) e

    go : Test (eqb i n) (i ≡ n) (i ≡ n → ⊥) → (i < n → holders i children ≡ 1) → holders i children ≡ 1
    go (passed t same) rest = rw same (eqb-true (holders n children) 1 parts.0)
    go (failed t other) rest = rest (omega arith)

-- ---- where a child ends, another starts

-- From one byte to the next the holders change by the children that start there and those that end there.
next_byte_one : (place : ℕ) (child : Child) → 1 ≤ child.size
    → inside (suc place) child + one_if (eqb (child.start + child.size) (suc place)) ≡ inside place child + one_if (eqb child.start (suc place))
unfolding one_if
next_byte_one place child least =
    go (holding (suc place) child) (holding place child) (equal (child.start + child.size) (suc place)) (equal child.start (suc place))
  where
    go : Holds (suc place) child → Holds place child
        → Test (eqb (child.start + child.size) (suc place)) (child.start + child.size ≡ suc place) (child.start + child.size ≡ suc place → ⊥)
        → Test (eqb child.start (suc place)) (child.start ≡ suc place) (child.start ≡ suc place → ⊥)
        → inside (suc place) child + one_if (eqb (child.start + child.size) (suc place)) ≡ inside place child + one_if (eqb child.start (suc place))
    go (held a b e) (held c d f) (passed g h) k = absurd (omega arith)
    go (held a b e) (held c d f) (failed g h) (passed k l) = absurd (omega arith)
    go (held a b e) (held c d f) (failed g h) (failed k l) = rw (e, f, g, k)
    go (held a b e) (before_it c f) (passed g h) k = absurd (omega arith)
    go (held a b e) (before_it c f) (failed g h) (passed k l) = rw (e, f, g, k)
    go (held a b e) (before_it c f) (failed g h) (failed k l) = absurd (l (omega arith))
    go (held a b e) (behind_it c f) g k = absurd (omega arith)
    go (before_it a e) (held c d f) g k = absurd (omega arith)
    go (before_it a e) (before_it c f) (passed g h) k = absurd (omega arith)
    go (before_it a e) (before_it c f) (failed g h) (passed k l) = absurd (omega arith)
    go (before_it a e) (before_it c f) (failed g h) (failed k l) = rw (e, f, g, k)
    go (before_it a e) (behind_it c f) g k = absurd (omega arith)
    go (behind_it a e) (held c d f) (passed g h) (passed k l) = absurd (omega arith)
    go (behind_it a e) (held c d f) (passed g h) (failed k l) = rw (e, f, g, k)
    go (behind_it a e) (held c d f) (failed g h) k = absurd (h (omega arith))
    go (behind_it a e) (before_it c f) g k = absurd (omega arith)
    go (behind_it a e) (behind_it c f) (passed g h) k = absurd (omega arith)
    go (behind_it a e) (behind_it c f) (failed g h) (passed k l) = absurd (omega arith)
    go (behind_it a e) (behind_it c f) (failed g h) (failed k l) = rw (e, f, g, k)

pub next_byte : (end place : ℕ) (children : List Child) → AllWithin end children
    → holders (suc place) children + ending (suc place) children ≡ holders place children + starting (suc place) children
unfolding AllWithin holders starting ending
next_byte end place [] fit = refl
next_byte end place (child ∷ more) fit =
    let one : inside (suc place) child + one_if (eqb (child.start + child.size) (suc place)) ≡ inside place child + one_if (eqb child.start (suc place)) =
    next_byte_one place child fit.0.0 in
    let rest : holders (suc place) more + ending (suc place) more ≡ holders place more + starting (suc place) more = next_byte end place more fit.1 in
    let here : holders (suc place) (child ∷ more) ≡ inside (suc place) child + holders (suc place) more = holders_cons (suc place) child more in
    let last : holders place (child ∷ more) ≡ inside place child + holders place more = holders_cons place child more in
    omega arith

-- At place 0 the holders are the children that start there.
first_byte : (end : ℕ) (children : List Child) → AllWithin end children → holders 0 children ≡ starting 0 children
unfolding AllWithin starting holders one_if
first_byte end [] fit = refl
first_byte end (child ∷ more) fit =
    let rest : holders 0 more ≡ starting 0 more = first_byte end more fit.1 in
    let here : holders 0 (child ∷ more) ≡ inside 0 child + holders 0 more = holders_cons 0 child more in
    let one : inside 0 child ≡ one_if (eqb child.start 0) = go (holding 0 child) (equal child.start 0) fit.0.0 in
    omega arith
  where
    go : Holds 0 child → Test (eqb child.start 0) (child.start ≡ 0) (child.start ≡ 0 → ⊥) → 1 ≤ child.size → inside 0 child ≡ one_if (eqb child.start 0)
    go (held a b e) (passed t s) least = rw (e, t)
    go (held a b e) (failed t s) least = absurd (s (omega arith))
    go (before_it a e) (passed t s) least = absurd (omega arith)
    go (before_it a e) (failed t s) least = rw (e, t)
    go (behind_it a e) test least = absurd (omega arith)

-- A place where nothing starts, though it is the first or something ends there, is not held once.
pub cut_without_start : (end place : ℕ) (children : List Child) → AllWithin end children → place < end
    → ((place ≡ 0 → ⊥) → 1 ≤ ending place children) → starting place children ≡ 0 → every_byte_once end children ≡ false
cut_without_start end zero children fit h cut none = go (every_byte_once end children) refl
  where
    go : (b : Bool) → every_byte_once end children ≡ b → b ≡ false
    go false e = refl
    go true e =
        let here : holders 0 children ≡ 1 = once_at end children e 0 h in
        let start : holders 0 children ≡ starting 0 children = first_byte end children fit in
        absurd (omega arith)
cut_without_start end (suc place) children fit h cut none = go (every_byte_once end children) refl
  where
    go : (b : Bool) → every_byte_once end children ≡ b → b ≡ false
    go false e = refl
    go true e =
        let here : holders (suc place) children ≡ 1 = once_at end children e (suc place) h in
        let last : holders place children ≡ 1 = once_at end children e place (omega arith) in
        let ended : 1 ≤ ending (suc place) children = cut (omega arith) in
        let change : holders (suc place) children + ending (suc place) children ≡ holders place children + starting (suc place) children =
        next_byte end place children fit in
        absurd (omega arith)
