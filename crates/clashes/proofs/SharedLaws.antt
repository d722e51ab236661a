-- Names that two lists share: an object's names are those of its fields, and along two rising lists the lower of the first
-- names is no shared one.
use Rattle.std.specs.Prelude.{Option, None, Some}
use mathlib.Core.Bool.{Bool, true, false, cond, ◌||◌}
use mathlib.Core.List.{List, [], ◌∷◌}
use mathlib.Core.Logic.{◌⊎◌, inl, inr}
use mathlib.Core.Path.{◌≡◌, refl, sym, ap, ◌∙◌}
use Prim.Native.Nat.{ℕ}
use Rattle.order.specs.Before.{before, order_of}
use Rattle.std.specs.declared.cmp.Ordering.TheVariants.{Less, Equal, Greater}
use Rattle.paper.specs.Meaning.{Doc, Fields, no_fields, field}
use Rattle.paper.specs.Metadata.{rising}
use Rattle.paper.specs.Normal.{field_names}
use Rattle.paper.specs.Rules.{any_named}
use Rattle.paper.specs.Values.{child_bytes, member_docs}
use Rattle.paper.specs.declared.Child.{Child}
use Rattle.paper.specs.Words.{same, among, is_there}
use Rattle.clashes.specs.Shared.{shared}
use Rattle.names.proofs.RisingLaws.{rising_first}
use Rattle.names.proofs.SameLaws.{same_refl, same_is, among_first, among_either}
use Rattle.order.proofs.OrderLaws.{before_irreflexive, before_asymmetric, equal_same}
use Rattle.paper.proofs.WordLaws.{never, then_some, some_there}
use Rattle.std.proofs.lemmas.Option.{same_Some}

-- ---- the names of an object's fields

pub any_shared : (names : List (List ℕ)) (fs : Fields) → any_named names fs ≡ shared (field_names fs) names
unfolding any_named shared field_names
any_shared names no_fields = refl
any_shared names (field name d fs) = rw (any_shared names fs)

pub names_given : (inner : List ℕ → Option Doc) (area : List ℕ) (names : List (List ℕ)) (children : List Child) {fs : Fields}
    → member_docs inner area names children ≡ Some fs → field_names fs ≡ names
unfolding member_docs field_names is_there
names_given inner area [] children {fs} e = ap field_names (sym (same_Some no_fields fs e))
names_given inner area (name ∷ names) [] e = never (sym (some_there None e))
names_given inner area (name ∷ names) (child ∷ more) {fs} e =
    let one = then_some (inner (child_bytes area child)) _ e in
    let others = then_some (member_docs inner area names more) _ one.2 in
    ap field_names (sym (same_Some (field name one.0 others.0) fs others.2))
    ∙ ap (λ (l : List (List ℕ)). name ∷ l) (names_given inner area names more others.1)

-- ---- along two lists

less_before : (a b : List ℕ) → order_of a b ≡ Less → before a b ≡ true
unfolding order_of
less_before a b = go (before a b) (before b a)
  where
    go : (p q : Bool) → cond p Less (cond q Greater Equal) ≡ Less → p ≡ true
    go true q e = refl
    go false true e = never cc
    go false false e = never cc

greater_before : (a b : List ℕ) → order_of a b ≡ Greater → before b a ≡ true
unfolding order_of
greater_before a b = go (before a b) (before b a)
  where
    go : (p q : Bool) → cond p Less (cond q Greater Equal) ≡ Greater → q ≡ true
    go true q e = never cc
    go false true e = refl
    go false false e = never cc

pub shared_none : (xs : List (List ℕ)) → shared xs [] ≡ false
unfolding shared among
shared_none [] = refl
shared_none (x ∷ xs) = shared_none xs

-- A name that comes before the first of rising names is not among them.
before_all : (x y : List ℕ) (ys : List (List ℕ)) → before x y ≡ true → rising (y ∷ ys) ≡ true → among x (y ∷ ys) ≡ false
before_all x y ys lower rise = go (among x (y ∷ ys)) refl
  where
    nowhere : (y ≡ x) ⊎ (among x ys ≡ true) → true ≡ false
    nowhere (inl is) = sym lower ∙ ap (before x) is ∙ before_irreflexive x
    nowhere (inr further) = sym (rising_first y ys x rise further) ∙ before_asymmetric x y lower

    go : (r : Bool) → among x (y ∷ ys) ≡ r → r ≡ false
    go false e = refl
    go true e = nowhere (among_either x y ys e)

pub same_sym : (a b : List ℕ) → same a b ≡ false → same b a ≡ false
same_sym a b differ = go (same b a) refl
  where
    go : (r : Bool) → same b a ≡ r → r ≡ false
    go false e = refl
    go true e = never (sym (same_refl a) ∙ ap (same a) (sym (same_is b a e)) ∙ differ)

or_neither : (a b : Bool) → a || b ≡ false → (a ≡ false) × (b ≡ false)
or_neither true b e = never e
or_neither false b e = (refl, e)

-- A name that is not among the first list adds nothing to the second.
not_shared : (xs : List (List ℕ)) (y : List ℕ) (ys : List (List ℕ)) → among y xs ≡ false → shared xs (y ∷ ys) ≡ shared xs ys
unfolding shared among
not_shared [] y ys e = refl
not_shared (x ∷ xs) y ys e =
    let neither = or_neither (same x y) (among y xs) e in rw (same_sym x y neither.0, not_shared xs y ys neither.1)

module _ (x y : List ℕ) (xs ys : List (List ℕ)) where
  pub shared_less : order_of x y ≡ Less → rising (y ∷ ys) ≡ true → shared (x ∷ xs) (y ∷ ys) ≡ shared xs (y ∷ ys)
  unfolding shared
  shared_less e rise = rw (before_all x y ys (less_before x y e) rise)

  pub shared_greater : order_of x y ≡ Greater → rising (x ∷ xs) ≡ true → shared (x ∷ xs) (y ∷ ys) ≡ shared (x ∷ xs) ys
  shared_greater e rise = not_shared (x ∷ xs) y ys (before_all y x xs (greater_before x y e) rise)

  pub shared_equal : order_of x y ≡ Equal → shared (x ∷ xs) (y ∷ ys) ≡ true
  unfolding shared
  shared_equal e = rw (equal_same x y e, among_first y ys)
