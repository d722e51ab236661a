-- Halving names that never fall: those in front of one place come before the name, those from another place on come after it.
use mathlib.Core.Bool.{Bool, true, false, cond, not, ◌&&◌}
use mathlib.Core.List.{List, [], ◌∷◌}
use mathlib.Core.Logic.{◌⊎◌, inl, inr}
use mathlib.Core.Path.{◌≡◌, refl, sym, ap, ◌∙◌}
use Prim.Native.Nat.{ℕ, zero, suc, ◌+◌, ◌≤◌, ◌<◌}
use native.Mathlib.Omega.{arith}
use borrow.Author.Tests.{not-true, ltb-true, ltb-false}
use lib.Dec.{ltb}
use lib.ListN.{length, get_or}
use Rattle.order.specs.Before.{before, order_of}
use Rattle.std.specs.declared.cmp.Ordering.TheVariants.{Less, Equal, Greater}
use Rattle.paper.specs.Metadata.{Dictionary, rising}
use Rattle.paper.specs.Words.{among}
use Rattle.ranking.specs.Ranks.{never_falls}
use Rattle.dictionary.proofs.ChainLaws.{chained, chain_apart}
use Rattle.names.proofs.SameLaws.{among_either}
use Rattle.order.proofs.OrderLaws.{before_irreflexive, before_asymmetric, before_total, before_transitive}
use Rattle.paper.proofs.WordLaws.{never, and_both}
use Rattle.ranking.proofs.SortLaws.{not_before_through}

-- ---- names that never fall

-- The second does not come before the first.
unfoldable in_turn : List ℕ → List ℕ → Bool
in_turn a b = not (before b a)

turn_through : (a b c : List ℕ) → in_turn a b ≡ true → in_turn b c ≡ true → in_turn a c ≡ true
unfolding in_turn
turn_through a b c p q =
    rw (not_before_through a b c (not-true (before b a) p) (not-true (before c b) q))

never_chained : (names : Dictionary) → never_falls names ≡ chained in_turn names
unfolding never_falls chained in_turn
never_chained [] = refl
never_chained (a ∷ []) = refl
never_chained (a ∷ b ∷ more) = ap (λ (rest : Bool). not (before b a) && rest) (never_chained (b ∷ more))

falls_apart : (names : Dictionary) (i j : ℕ) → never_falls names ≡ true → i < j → j < length names → before (get_or names j []) (get_or names i []) ≡ false
unfolding in_turn
falls_apart names i j all lt h =
    not-true (before (get_or names j []) (get_or names i [])) (chain_apart in_turn [] turn_through names i j (sym (never_chained names) ∙ all) lt h)

pub rising_never : (names : Dictionary) → rising names ≡ true → never_falls names ≡ true
unfolding rising never_falls
rising_never [] e = refl
rising_never (a ∷ []) e = refl
rising_never (a ∷ b ∷ more) e =
    let both = and_both (before a b) (rising (b ∷ more)) e in
    rw (before_asymmetric a b both.0) (rising_never (b ∷ more) both.1)

-- ---- how a comparison goes on to the names in front and behind

-- a, which b does not come before, comes before what b comes before; and what comes before a comes before b.
lower_still : (a b name : List ℕ) → before b a ≡ false → before b name ≡ true → before a name ≡ true
lower_still a b name p q = go (before a b) refl
  where
    go : (t : Bool) → before a b ≡ t → before a name ≡ true
    go true e = before_transitive a b name e q
    go false e = rw (before_total a b e p) q

upper_still : (a b name : List ℕ) → before b a ≡ false → before name a ≡ true → before name b ≡ true
upper_still a b name p q = go (before a b) refl
  where
    go : (t : Bool) → before a b ≡ t → before name b ≡ true
    go true e = before_transitive name a b q e
    go false e = rw (before_total a b e p) at q

order_less : (a b : List ℕ) → order_of a b ≡ Less → before a b ≡ true
unfolding order_of
order_less a b = go (before a b) (before b a)
  where
    go : (p q : Bool) → cond p Less (cond q Greater Equal) ≡ Less → p ≡ true
    go true q e = refl
    go false true e = absurd (let z : ◌≡◌ {A = ℕ} 0 1 = cc in omega arith)
    go false false e = absurd (let z : ◌≡◌ {A = ℕ} 0 1 = cc in omega arith)

order_greater : (a b : List ℕ) → order_of a b ≡ Greater → before b a ≡ true
unfolding order_of
order_greater a b = go (before a b) (before b a)
  where
    go : (p q : Bool) → cond p Less (cond q Greater Equal) ≡ Greater → q ≡ true
    go true q e = absurd (let z : ◌≡◌ {A = ℕ} 0 1 = cc in omega arith)
    go false true e = refl
    go false false e = absurd (let z : ◌≡◌ {A = ℕ} 0 1 = cc in omega arith)

-- A name that stands at no place is not among them.
differ : (name : List ℕ) (names : Dictionary) → ((i : ℕ) → i < length names → get_or names i [] ≡ name → ⊥) → among name names ≡ false
unfolding among
differ name [] other = refl
differ name (first ∷ more) other = go (among name (first ∷ more)) refl (differ name more λ i h is. other (suc i) (omega arith) is)
  where
    either : among name more ≡ false → (first ≡ name) ⊎ (among name more ≡ true) → true ≡ false
    either rest (inl is) = absurd (other zero (omega arith) is)
    either rest (inr further) = sym further ∙ rest

    go : (b : Bool) → among name (first ∷ more) ≡ b → among name more ≡ false → b ≡ false
    go false e rest = refl
    go true e rest = either rest (among_either name first more e)

-- ---- the halves

pub record LookSeen (names : Dictionary) (name : List ℕ) (low high : ℕ) : Type 0 where
  pub ordered : low ≤ high
  pub within : high ≤ length names
  pub lower : (i : ℕ) → i < low → before (get_or names i []) name ≡ true
  pub upper : (i : ℕ) → high ≤ i → i < length names → before name (get_or names i []) ≡ true

pub halved_start : (names : Dictionary) (name : List ℕ) (count : ℕ) → length names ≡ count → LookSeen names name 0 count
halved_start names name count size =
    record {
      ordered = omega arith;
      within = omega arith;
      lower = λ i h. absurd (omega arith);
      upper = λ i h k. absurd (omega arith);
    }

module _ {names : Dictionary} {name : List ℕ} {low high : ℕ} (halved : LookSeen names name low high) where
  module _ (fall : never_falls names ≡ true) (middle : ℕ) (h : middle < high) where
    inside : middle < length names
    inside = let w = halved.within in omega arith

    pub halved_less : low ≤ middle → order_of (get_or names middle []) name ≡ Less → LookSeen names name (middle + 1) high
    halved_less l is = record { ordered = omega arith; within = halved.within; lower = λ i k. go (ltb i middle) refl k; upper = halved.upper }
      where
        here : before (get_or names middle []) name ≡ true
        here = order_less (get_or names middle []) name is

        go : {i : ℕ} (b : Bool) → ltb i middle ≡ b → i < middle + 1 → before (get_or names i []) name ≡ true
        go {i} true e k =
            lower_still (get_or names i []) (get_or names middle []) name (falls_apart names i middle fall (ltb-true i middle e) inside) here
        go {i} false e k =
            let past = ltb-false i middle e in
            let same : i ≡ middle = omega arith in
            rw same here

    pub halved_greater : low ≤ middle → order_of (get_or names middle []) name ≡ Greater → LookSeen names name low middle
    halved_greater l is = record { ordered = l; within = let i = inside in omega arith; lower = halved.lower; upper = λ i k w. go (ltb middle i) refl k w }
      where
        here : before name (get_or names middle []) ≡ true
        here = order_greater (get_or names middle []) name is

        go : {i : ℕ} (b : Bool) → ltb middle i ≡ b → middle ≤ i → i < length names → before name (get_or names i []) ≡ true
        go {i} true e k w =
            upper_still (get_or names middle []) (get_or names i []) name (falls_apart names middle i fall (ltb-true middle i e) w) here
        go {i} false e k w =
            let past = ltb-false middle i e in
            let same : i ≡ middle = omega arith in
            rw same here

  pub halved_none : high ≤ low → among name names ≡ false
  halved_none h = differ name names λ i w. go (ltb i low) refl w
    where
      go : {i : ℕ} (b : Bool) → ltb i low ≡ b → i < length names → get_or names i [] ≡ name → ⊥
      go {i} true e w is = never (sym (halved.lower i (ltb-true i low e)) ∙ rw is (before_irreflexive name))
      go {i} false e w is =
          let past = ltb-false i low e in
          never (sym (halved.upper i (omega arith) w) ∙ rw is (before_irreflexive name))
