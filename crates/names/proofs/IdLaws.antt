-- Ids: a name among the names stands at its id, and rising names have rising ids.
use mathlib.Core.Bool.{Bool, true, false, cond, ◌||◌}
use mathlib.Core.List.{List, [], ◌∷◌}
use mathlib.Core.Path.{◌≡◌, refl, sym, ap, ◌∙◌}
use Prim.Native.Nat.{ℕ, zero, suc, ◌<◌}
use native.Mathlib.Omega.{arith}
use borrow.Author.Tests.{ltb-true, ltb-false}
use lib.Dec.{ltb}
use lib.ListN.{length, get_or}
use Rattle.order.specs.Before.{before}
use Rattle.paper.specs.Metadata.{Dictionary, rising}
use Rattle.paper.specs.Normal.{id_of}
use Rattle.paper.specs.Words.{same, among}
use Rattle.dictionary.proofs.ChainLaws.{rising_before}
use Rattle.names.proofs.RisingLaws.{rising_more, rising_first}
use Rattle.names.proofs.SameLaws.{before_differs, same_refl, same_is, among_at}
use Rattle.order.proofs.OrderLaws.{before_asymmetric, before_irreflexive}
use Rattle.paper.proofs.WordLaws.{never}

-- The id is a place of the names, and the name stands there.
pub id_names : (names : Dictionary) (name : List ℕ) → among name names ≡ true
    → (id_of names name < length names) × (get_or names (id_of names name) [] ≡ name)
unfolding id_of among
id_names [] name in_names = never (sym in_names)
id_names (first ∷ more) name in_names = go (same first name) refl in_names (id_names more name)
  where
    go : (r : Bool) → same first name ≡ r → r || among name more ≡ true
        → (among name more ≡ true → (id_of more name < length more) × (get_or more (id_of more name) [] ≡ name))
        → (cond r 0 (suc (id_of more name)) < suc (length more)) × (get_or (first ∷ more) (cond r 0 (suc (id_of more name))) [] ≡ name)
    go true e here rest = (omega arith, same_is first name e)
    go false e further rest = let both = rest further in (omega arith, both.1)

pub id_below : (names : Dictionary) (name : List ℕ) → among name names ≡ true → id_of names name < length names
id_below names name in_names = (id_names names name in_names).0

pub id_name : (names : Dictionary) (name : List ℕ) → among name names ≡ true → get_or names (id_of names name) [] ≡ name
id_name names name in_names = (id_names names name in_names).1

-- Of rising names each place is the id of its name, ..
pub id_place : (names : Dictionary) (i : ℕ) → rising names ≡ true → i < length names → id_of names (get_or names i []) ≡ i
unfolding id_of
id_place [] i rise h = absurd (omega arith)
id_place (first ∷ more) zero rise h = rw (same_refl first)
id_place (first ∷ more) (suc i) rise h =
    let there : i < length more = omega arith in
    let lower : before first (get_or more i []) ≡ true = rising_first first more (get_or more i []) rise (among_at more i there) in
    rw (before_differs first (get_or more i []) lower, id_place more i (rising_more first more rise) there)

-- .. and a name that comes before another has the smaller id.
pub id_rises : (names : Dictionary) (a b : List ℕ) → rising names ≡ true → among a names ≡ true → among b names ≡ true → before a b ≡ true
    → id_of names a < id_of names b
id_rises names a b rise in-a in_b lower = go (ltb (id_of names a) (id_of names b)) (ltb (id_of names b) (id_of names a)) refl refl
  where
    here_a : get_or names (id_of names a) [] ≡ a
    here_a = id_name names a in-a

    here_b : get_or names (id_of names b) [] ≡ b
    here_b = id_name names b in_b

    go : (p q : Bool) → ltb (id_of names a) (id_of names b) ≡ p → ltb (id_of names b) (id_of names a) ≡ q → id_of names a < id_of names b
    go true q e f = ltb-true (id_of names a) (id_of names b) e
    go false true e f =
        let less : id_of names b < id_of names a = ltb-true (id_of names b) (id_of names a) f in
        let higher : before (get_or names (id_of names b) []) (get_or names (id_of names a) []) ≡ true =
        rising_before names (id_of names b) (id_of names a) less (id_below names a in-a) rise in
        let higher-b : before b a ≡ true = rw (here_a, here_b) at higher in
        never (sym higher-b ∙ before_asymmetric a b lower)
    go false false e f =
        let l = ltb-false (id_of names a) (id_of names b) e in
        let m = ltb-false (id_of names b) (id_of names a) f in
        let place : id_of names a ≡ id_of names b = omega arith in
        let is : a ≡ b = sym here_a ∙ ap (λ (i : ℕ). get_or names i []) place ∙ here_b in
        never (sym lower ∙ ap (before a) (sym is) ∙ before_irreflexive a)
