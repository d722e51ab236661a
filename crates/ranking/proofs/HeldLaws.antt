-- Ids among some, and the names of ids: what one says of the other.
use mathlib.Core.Bool.{Bool, true, false, ◌||◌}
use mathlib.Core.List.{List, [], ◌∷◌, ◌++◌}
use mathlib.Core.Logic.{◌⊎◌, inl, inr}
use mathlib.Core.Path.{◌≡◌, refl, sym, ap, ◌∙◌}
use Prim.Native.Nat.{ℕ, zero, suc, ◌<◌}
use native.Mathlib.Omega.{arith}
use borrow.Author.Tests.{ltb-true, lt-ltb, eq-eqb, eqb-true}
use lib.Dec.{ltb, eqb}
use lib.ListN.{length, get_or}
use Rattle.paper.specs.Metadata.{Dictionary}
use Rattle.paper.specs.Values.{names_at}
use Rattle.paper.specs.Words.{among, all_below}
use Rattle.marking.specs.Ids.{holds}
use Rattle.runs.proofs.NumbersRunLaws.{below_at}
use Rattle.names.proofs.SameLaws.{or_either, or_second, among_first, among_more, among_either}
use Rattle.paper.proofs.WordLaws.{never, and_both}

-- Two tests that pass together are the same.
pub truths : (a b : Bool) → (a ≡ true → b ≡ true) → (b ≡ true → a ≡ true) → a ≡ b
truths true b there back = sym (there refl)
truths false true there back = back refl
truths false false there back = refl

pub or_none : (b : Bool) → b || false ≡ b
or_none true = refl
or_none false = refl

pub or_more : (a b c : Bool) → (a || b) || c ≡ a || (b || c)
or_more true b c = refl
or_more false b c = refl

-- ---- ids among some

pub held_first : (n : ℕ) (ms : List ℕ) → holds n (n ∷ ms) ≡ true
unfolding holds
held_first n ms = rw (eq-eqb n n refl)

pub held_more : (n m : ℕ) (ms : List ℕ) → holds n ms ≡ true → holds n (m ∷ ms) ≡ true
unfolding holds
held_more n m ms e = or_second (eqb m n) (holds n ms) e

pub held_either : (n m : ℕ) (ms : List ℕ) → holds n (m ∷ ms) ≡ true → (m ≡ n) ⊎ (holds n ms ≡ true)
unfolding holds
held_either n m ms e = go (or_either (eqb m n) (holds n ms) e)
  where
    go : (eqb m n ≡ true) ⊎ (holds n ms ≡ true) → (m ≡ n) ⊎ (holds n ms ≡ true)
    go (inl is) = inl (eqb-true m n is)
    go (inr further) = inr further

pub held_append : (n : ℕ) (xs ys : List ℕ) → holds n (xs ++ ys) ≡ holds n xs || holds n ys
unfolding holds
held_append n [] ys = refl
held_append n (x ∷ xs) ys = ap (λ (b : Bool). eqb x n || b) (held_append n xs ys) ∙ sym (or_more (eqb x n) (holds n xs) (holds n ys))

-- One more id behind them.
pub held_behind : (n m : ℕ) (xs : List ℕ) → holds n (xs ++ (m ∷ [])) ≡ true → (holds n xs ≡ true) ⊎ (m ≡ n)
unfolding holds
held_behind n m xs e = go (or_either (holds n xs) (holds n (m ∷ [])) (sym (held_append n xs (m ∷ [])) ∙ e))
  where
    single : (m ≡ n) ⊎ (holds n [] ≡ true) → (holds n xs ≡ true) ⊎ (m ≡ n)
    single (inl is) = inr is
    single (inr further) = never (sym further)

    go : (holds n xs ≡ true) ⊎ (holds n (m ∷ []) ≡ true) → (holds n xs ≡ true) ⊎ (m ≡ n)
    go (inl in-xs) = inl in-xs
    go (inr last) = single (held_either n m [] last)

-- ---- ids below a bound

pub below_held : (bound : ℕ) (ids : List ℕ) → all_below bound ids ≡ true → (id : ℕ) → holds id ids ≡ true → id < bound
unfolding all_below holds
below_held bound [] below id e = never (sym e)
below_held bound (n ∷ ns) below id e =
    let both = and_both (ltb n bound) (all_below bound ns) below in
    go (ltb-true n bound both.0) (below_held bound ns both.1 id) (held_either id n ns e)
  where
    go : n < bound → (holds id ns ≡ true → id < bound) → (n ≡ id) ⊎ (holds id ns ≡ true) → id < bound
    go lower rest (inl is) = omega arith
    go lower rest (inr further) = rest further

pub held_below : (bound : ℕ) (ids : List ℕ) → ((id : ℕ) → holds id ids ≡ true → id < bound) → all_below bound ids ≡ true
unfolding all_below
held_below bound [] each = refl
held_below bound (n ∷ ns) each =
    rw (lt-ltb n bound (each n (held_first n ns))) (held_below bound ns λ id further. each id (held_more id n ns further))

pub entry_below : (bound : ℕ) (ids : List ℕ) (i r : ℕ) → all_below bound ids ≡ true → i < length ids → r ≡ get_or ids i 0 → r < bound
entry_below bound ids i r below h is = let lower = below_at bound ids i below h in omega arith

-- Two runs are below it exactly where each is.
pub below_both : (bound : ℕ) (xs ys : List ℕ) → all_below bound (xs ++ ys) ≡ true → (all_below bound xs ≡ true) × (all_below bound ys ≡ true)
unfolding all_below
below_both bound [] ys below = (refl, below)
below_both bound (x ∷ xs) ys below =
    let first = and_both (ltb x bound) (all_below bound (xs ++ ys)) below in
    let more = below_both bound xs ys first.1 in
    (rw first.0 more.0, more.1)

pub below_join : (bound : ℕ) (xs ys : List ℕ) → all_below bound xs ≡ true → all_below bound ys ≡ true → all_below bound (xs ++ ys) ≡ true
unfolding all_below
below_join bound [] ys below more = more
below_join bound (x ∷ xs) ys below more =
    let first = and_both (ltb x bound) (all_below bound xs) below in
    rw first.0 (below_join bound xs ys first.1 more)

pub below_behind : (bound : ℕ) (ids : List ℕ) (id : ℕ) → all_below bound ids ≡ true → id < bound → all_below bound (ids ++ (id ∷ [])) ≡ true
unfolding all_below
below_behind bound ids id below h = below_join bound ids (id ∷ []) below (rw (lt-ltb id bound h))

-- ---- the names of ids

pub names_append : (names : Dictionary) (xs ys : List ℕ) → names_at names (xs ++ ys) ≡ names_at names xs ++ names_at names ys
unfolding names_at
names_append names [] ys = refl
names_append names (x ∷ xs) ys = ap (λ (more : Dictionary). get_or names x [] ∷ more) (names_append names xs ys)

pub names_behind : (names : Dictionary) (ids : List ℕ) (id : ℕ) → names_at names (ids ++ (id ∷ [])) ≡ names_at names ids ++ (get_or names id [] ∷ [])
unfolding names_at
names_behind names ids id = names_append names ids (id ∷ [])

pub names_length : (names : Dictionary) (ids : List ℕ) → length (names_at names ids) ≡ length ids
unfolding names_at
names_length names [] = refl
names_length names (id ∷ ids) = ap suc (names_length names ids)

pub names_place : (names : Dictionary) (ids : List ℕ) (i : ℕ) → i < length ids → get_or (names_at names ids) i [] ≡ get_or names (get_or ids i 0) []
unfolding names_at
names_place names [] i h = absurd (omega arith)
names_place names (id ∷ ids) zero h = refl
names_place names (id ∷ ids) (suc i) h = names_place names ids i (omega arith)

-- The name of an id among some is among their names, ..
pub name_held : (names : Dictionary) (ids : List ℕ) (id : ℕ) → holds id ids ≡ true → among (get_or names id []) (names_at names ids) ≡ true
unfolding names_at holds
name_held names [] id e = never (sym e)
name_held names (n ∷ ns) id e = go (name_held names ns id) (held_either id n ns e)
  where
    go : (holds id ns ≡ true → among (get_or names id []) (names_at names ns) ≡ true) → (n ≡ id) ⊎ (holds id ns ≡ true)
        → among (get_or names id []) (get_or names n [] ∷ names_at names ns) ≡ true
    go rest (inl is) = rw is (among_first (get_or names id []) (names_at names ns))
    go rest (inr further) = among_more (get_or names id []) (get_or names n []) (names_at names ns) (rest further)

-- .. and each of their names is that of an id among them.
pub named : (names : Dictionary) (ids : List ℕ) (name : List ℕ) → among name (names_at names ids) ≡ true
    → (id : ℕ) × (holds id ids ≡ true) × (get_or names id [] ≡ name)
unfolding names_at among
named names [] name e = never (sym e)
named names (n ∷ ns) name e = go (among_either name (get_or names n []) (names_at names ns) e) (named names ns name)
  where
    go : (get_or names n [] ≡ name) ⊎ (among name (names_at names ns) ≡ true)
        → (among name (names_at names ns) ≡ true → (id : ℕ) × (holds id ns ≡ true) × (get_or names id [] ≡ name))
        → (id : ℕ) × (holds id (n ∷ ns) ≡ true) × (get_or names id [] ≡ name)
    go (inl is) rest = (n, held_first n ns, is)
    go (inr further) rest = let found = rest further in (found.0, held_more found.0 n ns found.1, found.2)

-- The same ids have the same names.
pub same_names : (names : Dictionary) (xs ys : List ℕ) → ((id : ℕ) → holds id xs ≡ holds id ys)
    → (name : List ℕ) → among name (names_at names xs) ≡ among name (names_at names ys)
same_names names xs ys equal name = truths (among name (names_at names xs)) (among name (names_at names ys)) there back
  where
    there : among name (names_at names xs) ≡ true → among name (names_at names ys) ≡ true
    there e =
        let found = named names xs name e in
        rw found.2 at (name_held names ys found.0 (sym (equal found.0) ∙ found.1))

    back : among name (names_at names ys) ≡ true → among name (names_at names xs) ≡ true
    back e =
        let found = named names ys name e in
        rw found.2 at (name_held names xs found.0 (equal found.0 ∙ found.1))
