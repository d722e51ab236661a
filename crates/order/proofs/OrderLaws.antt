-- The order of byte strings: how it goes byte by byte, and that it is a strict total order.
use mathlib.Core.Bool.{Bool, true, false, cond}
use mathlib.Core.List.{List, [], ◌∷◌}
use mathlib.Core.Path.{◌≡◌, refl, sym, ◌∙◌}
use Prim.Native.Nat.{ℕ, suc, ◌+◌, ◌≤◌, ◌<◌}
use native.Mathlib.Numerals.{add-one}
use native.Mathlib.Omega.{arith}
use borrow.Author.Tests.{ltb-true, ltb-false, lt-ltb, le-ltb, eq-eqb, ne_eqb}
use lib.Dec.{ltb}
use lib.ListN.{length, get_or, drop, drop_of_length-le}
use lib.Seq.{drop-cons}
use Rattle.order.specs.Before.{before, order_of}
use Rattle.std.specs.Prelude.{min}
use Rattle.std.proofs.Common.{nat_cmp}
use Rattle.std.proofs.lemmas.Cmp.{ranked}
use Rattle.std.specs.declared.cmp.Ordering.{Ordering}
use Rattle.std.specs.declared.cmp.Ordering.TheVariants.{Less, Equal, Greater}

-- ---- byte by byte

before_lower : (x y : ℕ) (xs ys : List ℕ) → x < y → before (x ∷ xs) (y ∷ ys) ≡ true
unfolding before
before_lower x y xs ys h = rw (lt-ltb x y h)

before_higher : (x y : ℕ) (xs ys : List ℕ) → y < x → before (x ∷ xs) (y ∷ ys) ≡ false
unfolding before
before_higher x y xs ys h = rw (le-ltb x y (omega arith), ne_eqb x y (omega arith))

before_same : (x y : ℕ) (xs ys : List ℕ) → x ≡ y → before (x ∷ xs) (y ∷ ys) ≡ before xs ys
unfolding before
before_same x y xs ys e = rw (le-ltb x y (omega arith), eq-eqb x y e)

-- ---- what two strings that agree up to a place come to: by the one that ends there, or by the bytes there

module _ (a b : List ℕ) (i : ℕ) (agree : order_of a b ≡ order_of (drop i a) (drop i b)) where
  pub order_longer : i < length a → length b ≤ i → Greater ≡ order_of a b
  unfolding order_of before
  order_longer here past = rw (agree, drop-cons a i 0 here, drop_of_length-le b past)

  pub order_shorter : length a ≤ i → i < length b → Less ≡ order_of a b
  unfolding order_of before
  order_shorter past here = rw (agree, drop-cons b i 0 here, drop_of_length-le a past)

  pub order_ended : length a ≤ i → length b ≤ i → Equal ≡ order_of a b
  unfolding order_of before
  order_ended past past' = rw (agree, drop_of_length-le a past, drop_of_length-le b past')

  -- Where neither goes on, or one alone, the lengths decide.
  pub order_by_lengths : i ≤ length a → i ≤ length b → min (length a) (length b) ≤ i → nat_cmp (length a) (length b) ≡ order_of a b
  order_by_lengths in_first in_second past = go (nat_cmp (length a) (length b)) refl
    where
      go : (o : Ordering) → o ≡ nat_cmp (length a) (length b) → o ≡ order_of a b
      go Less e = let h : length a < length b = ranked (length a) (length b) Less e in order_shorter (omega arith) (omega arith)
      go Equal e = let h : length a ≡ length b = ranked (length a) (length b) Equal e in order_ended (omega arith) (omega arith)
      go Greater e = let h : length b < length a = ranked (length a) (length b) Greater e in order_longer (omega arith) (omega arith)

  module _ (in-a : i < length a) (in_b : i < length b) where
    pub order_lower : get_or a i 0 < get_or b i 0 → Less ≡ order_of a b
    unfolding order_of
    order_lower h = rw (agree, drop-cons a i 0 in-a, drop-cons b i 0 in_b, before_lower (get_or a i 0) (get_or b i 0) (drop (suc i) a) (drop (suc i) b) h)

    pub order_higher : get_or b i 0 < get_or a i 0 → Greater ≡ order_of a b
    unfolding order_of
    order_higher h = rw (agree, drop-cons a i 0 in-a, drop-cons b i 0 in_b, before_higher (get_or a i 0) (get_or b i 0) (drop (suc i) a) (drop (suc i) b) h, before_lower (get_or b i 0) (get_or a i 0) (drop (suc i) b) (drop (suc i) a) h)

    pub order_same : get_or a i 0 ≡ get_or b i 0 → order_of a b ≡ order_of (drop (i + 1) a) (drop (i + 1) b)
    unfolding order_of
    order_same e = rw (agree, add-one, drop-cons a i 0 in-a, drop-cons b i 0 in_b, before_same (get_or a i 0) (get_or b i 0) (drop (suc i) a) (drop (suc i) b) e, before_same (get_or b i 0) (get_or a i 0) (drop (suc i) b) (drop (suc i) a) (sym e))

-- ---- a strict total order

-- How the first bytes of two strings stand to each other.
data Heads (x y : ℕ) : Type 0 where
  lower : x < y → Heads x y
  same : x ≡ y → Heads x y
  higher : y < x → Heads x y

heads : (x y : ℕ) → Heads x y
heads x y = go (ltb x y) (ltb y x) refl refl
  where
    go : (p q : Bool) → ltb x y ≡ p → ltb y x ≡ q → Heads x y
    go true q e f = lower (ltb-true x y e)
    go false true e f = higher (ltb-true y x f)
    go false false e f = let l = ltb-false x y e in let m = ltb-false y x f in same (omega arith)

never : {A : Type 0} → true ≡ false → A
never e = let z : ◌≡◌ {A = ℕ} 0 1 = cc in absurd (omega arith)

pub before_irreflexive : (a : List ℕ) → before a a ≡ false
unfolding before
before_irreflexive [] = refl
before_irreflexive (x ∷ a) = before_same x x a a refl ∙ before_irreflexive a

pub before_transitive : (a b c : List ℕ) → before a b ≡ true → before b c ≡ true → before a c ≡ true
unfolding before
before_transitive [] [] c p q = q
before_transitive [] (y ∷ b) [] p q = q
before_transitive [] (y ∷ b) (z ∷ c) p q = refl
before_transitive (x ∷ a) [] c p q = never (sym p)
before_transitive (x ∷ a) (y ∷ b) [] p q = never (sym q)
before_transitive (x ∷ a) (y ∷ b) (z ∷ c) p q = go (heads x y) (heads y z) (before_transitive a b c)
  where
    go : Heads x y → Heads y z → (before a b ≡ true → before b c ≡ true → before a c ≡ true) → before (x ∷ a) (z ∷ c) ≡ true
    go (lower h) (lower k) rest = before_lower x z a c (omega arith)
    go (lower h) (same k) rest = before_lower x z a c (omega arith)
    go (lower h) (higher k) rest = never (sym q ∙ before_higher y z b c k)
    go (same h) (lower k) rest = before_lower x z a c (omega arith)
    go (same h) (same k) rest =
        before_same x z a c (h ∙ k) ∙ rest (sym (before_same x y a b h) ∙ p) (sym (before_same y z b c k) ∙ q)
    go (same h) (higher k) rest = never (sym q ∙ before_higher y z b c k)
    go (higher h) k rest = never (sym p ∙ before_higher x y a b h)

pub before_total : (a b : List ℕ) → before a b ≡ false → before b a ≡ false → a ≡ b
unfolding before
before_total [] [] p q = refl
before_total [] (y ∷ b) p q = never p
before_total (x ∷ a) [] p q = never q
before_total (x ∷ a) (y ∷ b) p q = go (heads x y) (before_total a b)
  where
    go : Heads x y → (before a b ≡ false → before b a ≡ false → a ≡ b) → ◌≡◌ {A = List ℕ} (x ∷ a) (y ∷ b)
    go (lower h) rest = never (sym (before_lower x y a b h) ∙ p)
    go (same h) rest =
        let tails : a ≡ b = rest (sym (before_same x y a b h) ∙ p) (sym (before_same y x b a (sym h)) ∙ q) in cc
    go (higher h) rest = never (sym (before_lower y x b a h) ∙ q)

pub before_asymmetric : (a b : List ℕ) → before a b ≡ true → before b a ≡ false
before_asymmetric a b p = go (before b a) refl
  where
    go : (r : Bool) → before b a ≡ r → r ≡ false
    go false e = refl
    go true e = never (sym (before_transitive a b a p e) ∙ before_irreflexive a)

-- Equal is answered exactly for equal strings.
pub order_refl : (a : List ℕ) → order_of a a ≡ Equal
unfolding order_of
order_refl a = rw (before_irreflexive a)

pub equal_same : (a b : List ℕ) → order_of a b ≡ Equal → a ≡ b
unfolding order_of
equal_same a b = go (before a b) (before b a) refl refl
  where
    go : (p q : Bool) → before a b ≡ p → before b a ≡ q → cond p Less (cond q Greater Equal) ≡ Equal → a ≡ b
    go true q e f r = never cc
    go false true e f r = never cc
    go false false e f r = before_total a b e f
