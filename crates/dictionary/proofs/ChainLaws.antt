-- Chains: each thing stands to the next as a test says. Offsets that never fall and names that rise are two of them, and
-- the laws are said once.
use mathlib.Core.Bool.{Bool, true, false, ◌&&◌}
use mathlib.Core.List.{List, [], ◌∷◌}
use mathlib.Core.Path.{◌≡◌, refl, sym, ap, ◌∙◌}
use Prim.Native.Nat.{ℕ, zero, suc, ◌+◌, ◌≤◌, ◌<◌}
use native.Mathlib.Numerals.{add-one}
use native.Mathlib.Omega.{arith}
use borrow.Author.Tests.{leb-true, le-leb, ltb-true, ltb-false, eqb-true, eqb-false}
use lib.Dec.{leb, ltb, eqb}
use lib.ListN.{length, get_or, drop}
use lib.Seq.{drop-cons, drop-length}
use Rattle.order.specs.Before.{before}
use Rattle.paper.specs.Metadata.{never_fall, rising}
use Rattle.order.proofs.OrderLaws.{before_irreflexive, before_transitive, before_asymmetric}
use Rattle.paper.proofs.WordLaws.{and_both}

module _ {A : Type 0} (test : A → A → Bool) where
  unfoldable pub chained : List A → Bool
  chained [] = true
  chained (a ∷ []) = true
  chained (a ∷ b ∷ more) = test a b && chained (b ∷ more)

  module _ (other : A) where
    -- One step at a time: from a place to the next.
    pub chain_step : (xs : List A) (i : ℕ) → i + 1 < length xs → chained (drop i xs) ≡ (test (get_or xs i other) (get_or xs (i + 1) other) && chained (drop (i + 1) xs))
    unfolding chained
    chain_step xs i h =
        let here : i < length xs = omega arith in
        let next : suc i < length xs = omega arith in
        rw (add-one, drop-cons xs i other here, drop-cons xs (suc i) other next)

    pub chain_last : (xs : List A) (i : ℕ) → i + 1 ≡ length xs → chained (drop i xs) ≡ true
    unfolding chained
    chain_last xs i e =
        let here : i < length xs = omega arith in
        let end : suc i ≡ length xs = omega arith in
        rw (drop-cons xs i other here, end, drop-length)

    -- Things further apart stand to each other as neighbours do.
    module _ (through : (a b c : A) → test a b ≡ true → test b c ≡ true → test a c ≡ true) where
      chain_first : (a : A) (xs : List A) (j : ℕ) → chained (a ∷ xs) ≡ true → j < length xs → test a (get_or xs j other) ≡ true
      unfolding chained
      chain_first a [] j all h = absurd (omega arith)
      chain_first a (b ∷ xs) zero all h = (and_both (test a b) (chained (b ∷ xs)) all).0
      chain_first a (b ∷ xs) (suc j) all h =
          let both = and_both (test a b) (chained (b ∷ xs)) all in
          through a b (get_or xs j other) both.0 (chain_first b xs j both.1 (omega arith))

      pub chain_apart : (xs : List A) (i j : ℕ) → chained xs ≡ true → i < j → j < length xs → test (get_or xs i other) (get_or xs j other) ≡ true
      unfolding chained
      chain_apart [] i j all lt h = absurd (omega arith)
      chain_apart (a ∷ xs) i zero all lt h = absurd (omega arith)
      chain_apart (a ∷ xs) zero (suc j) all lt h = chain_first a xs j all (omega arith)
      chain_apart (a ∷ []) (suc i) (suc j) all lt h = absurd (omega arith)
      chain_apart (a ∷ b ∷ xs) (suc i) (suc j) all lt h =
          chain_apart (b ∷ xs) i j (and_both (test a b) (chained (b ∷ xs)) all).1 (omega arith) (omega arith)

-- ---- the two

pub fall_chained : (ns : List ℕ) → never_fall ns ≡ chained leb ns
unfolding never_fall chained
fall_chained [] = refl
fall_chained (a ∷ []) = refl
fall_chained (a ∷ b ∷ more) = ap (λ (rest : Bool). leb a b && rest) (fall_chained (b ∷ more))

pub rising_chained : (names : List (List ℕ)) → rising names ≡ chained before names
unfolding rising chained
rising_chained [] = refl
rising_chained (a ∷ []) = refl
rising_chained (a ∷ b ∷ more) = ap (λ (rest : Bool). before a b && rest) (rising_chained (b ∷ more))

-- Of numbers that never fall none is above a later one.
pub fall_le : (ns : List ℕ) (i j : ℕ) → never_fall ns ≡ true → i < j → j < length ns → get_or ns i 0 ≤ get_or ns j 0
fall_le ns i j all lt h =
    leb-true (get_or ns i 0) (get_or ns j 0) (chain_apart leb 0 through ns i j (sym (fall_chained ns) ∙ all) lt h)
  where
    through : (a b c : ℕ) → leb a b ≡ true → leb b c ≡ true → leb a c ≡ true
    through a b c p q = let l = leb-true a b p in let m = leb-true b c q in le-leb a c (omega arith)

-- In a rising dictionary a smaller id has a smaller name.
pub rising_before : (names : List (List ℕ)) (i j : ℕ) → i < j → j < length names → rising names ≡ true → before (get_or names i []) (get_or names j []) ≡ true
rising_before names i j lt h all = chain_apart before [] before_transitive names i j (sym (rising_chained names) ∙ all) lt h

-- So ids are in the order of their names.
pub rising_order : (names : List (List ℕ)) (i j : ℕ) → i < length names → j < length names → rising names ≡ true → ltb i j ≡ before (get_or names i []) (get_or names j [])
rising_order names i j h k all = go (ltb i j) (eqb i j) refl refl
  where
    go : (less same : Bool) → ltb i j ≡ less → eqb i j ≡ same → less ≡ before (get_or names i []) (get_or names j [])
    go true same e f = sym (rising_before names i j (ltb-true i j e) k all)
    go false true e f = sym (rw (eqb-true i j f) (before_irreflexive (get_or names j [])))
    go false false e f =
        let above = ltb-false i j e in
        let other = eqb-false i j f in
        sym (before_asymmetric (get_or names j []) (get_or names i []) (rising_before names j i (omega arith) h all))
