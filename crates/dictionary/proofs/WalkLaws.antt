-- The two walks over the offsets of metadata: what is known at the place reached, and what each way out answers.
use mathlib.Core.Bool.{Bool, true, false, not, ◌&&◌}
use mathlib.Core.List.{List, [], ◌∷◌}
use mathlib.Core.Path.{◌≡◌, refl, sym, ◌∙◌}
use Prim.Native.Nat.{ℕ, ◌+◌, ◌-◌, ◌≤◌, ◌<◌}
use native.Mathlib.Omega.{arith}
use borrow.Author.Tests.{le-leb, lt-leb, ne_eqb, not-true, not-false}
use lib.Dec.{leb, eqb}
use lib.ListN.{length, get_or, drop}
use Rattle.order.specs.Before.{before}
use Rattle.paper.specs.Metadata.{never_fall, rising, cut_at, offsets_good}
use Rattle.paper.specs.Words.{part}
use Rattle.dictionary.proofs.ChainLaws.{chained, chain_step, chain_last, fall_chained, rising_chained}
use Rattle.runs.proofs.NumbersRunLaws.{last_at}
use Rattle.dictionary.proofs.OffsetLaws.{cut_length, cut_at_lem, good_next, good_within}

-- Up to the place in front of i the offsets do not fall; the last one read stands there.
pub record Walk (ns : List ℕ) (last i : ℕ) : Type 0 where
  pub read : last ≡ get_or ns (i - 1) 0
  pub from_0 : get_or ns 0 0 ≡ 0
  pub never : never_fall ns ≡ chained leb (drop (i - 1) ns)

module _ (ns : List ℕ) (first : ℕ) (is : first ≡ get_or ns 0 0) where
  pub walk_bad : (area : List ℕ) → (first ≡ 0 → ⊥) → false ≡ offsets_good ns area
  unfolding offsets_good
  walk_bad area ne = rw (← is, ne_eqb first 0 ne)

  pub walk_starts : first ≡ 0 → Walk ns first 1
  walk_starts e = record { read = is; from_0 = sym is ∙ e; never = fall_chained ns }

module _ {ns : List ℕ} {last i : ℕ} (walk : Walk ns last i) (least : 1 ≤ i) where
  module _ (h : i < length ns) (r : ℕ) (is : r ≡ get_or ns i 0) where
    same : i - 1 + 1 ≡ i
    same = omega arith

    step : never_fall ns ≡ (leb last r && chained leb (drop i ns))
    step =
        walk.never ∙ chain_step leb 0 ns (i - 1) (omega arith)
        ∙ rw (same, ← walk.read, ← is)

    pub walk_falls : (area : List ℕ) → r < last → false ≡ offsets_good ns area
    unfolding offsets_good
    walk_falls area lt = rw (walk.from_0, step, lt-leb last r lt)

    pub walk_on : last ≤ r → Walk ns r (i + 1)
    walk_on le =
        let back : i + 1 - 1 ≡ i = omega arith in
        record { read = rw back is; from_0 = walk.from_0; never = rw back (step ∙ rw (le-leb last r le)) }

  pub walk_ends : (area : List ℕ) → i ≡ length ns → eqb last (length area) ≡ offsets_good ns area
  unfolding offsets_good
  walk_ends area h =
      let all : i - 1 + 1 ≡ length ns = omega arith in
      rw (walk.from_0, walk.never, chain_last leb 0 ns (i - 1) all, last_at ns (i - 1) all, ← walk.read)

-- ---- names that rise

-- Up to the name in front of i the names rise; it lies from `lower` to `upper`.
pub record Rise (ns area : List ℕ) (lower upper i : ℕ) : Type 0 where
  pub from : lower ≡ get_or ns (i - 2) 0
  pub to : upper ≡ get_or ns (i - 1) 0
  pub whole : rising (cut_at area ns) ≡ chained before (drop (i - 2) (cut_at area ns))

module _ (ns area : List ℕ) (good : offsets_good ns area ≡ true) where
  pub rise_none : length ns ≤ 1 → true ≡ rising (cut_at area ns)
  unfolding chained
  rise_none e =
      let size = cut_length area ns in
      let none : cut_at area ns ≡ [] = empty (cut_at area ns) (omega arith) in
      rw (rising_chained, none)
    where
      empty : (names : List (List ℕ)) → length names ≡ 0 → names ≡ []
      empty [] e = refl
      empty (a ∷ names) e = absurd (omega arith)

  pub rise_starts : (lower upper : ℕ) → lower ≡ get_or ns 0 0 → upper ≡ get_or ns 1 0 → Rise ns area lower upper 2
  rise_starts lower upper from to = record { from = from; to = to; whole = rising_chained (cut_at area ns) }

  module _ {lower upper i : ℕ} (rise : Rise ns area lower upper i) (least : 2 ≤ i) where
    module _ (h : i < length ns) (r : ℕ) (is : r ≡ get_or ns i 0) where
      second : i - 2 + 1 ≡ i - 1
      second = omega arith

      third : i - 1 + 1 ≡ i
      third = omega arith

      pub rise_ordered : (lower ≤ upper) × (upper ≤ r) × (r ≤ length area)
      rise_ordered =
          rw (rise.from, rise.to, is) (
            rw second at (good_next ns area (i - 2) good (omega arith)),
            rw third at (good_next ns area (i - 1) good (omega arith)),
            rw third at (good_within ns area (i - 1) good (omega arith)),
          )

      name_step : rising (cut_at area ns) ≡ (before (part area lower upper) (part area upper r) && chained before (drop (i - 1) (cut_at area ns)))
      name_step =
          let size = cut_length area ns in
          let one : get_or (cut_at area ns) (i - 2) [] ≡ part area lower upper =
          cut_at_lem area ns (i - 2) (omega arith) ∙ rw (second, ← rise.from, ← rise.to) in
          let two : get_or (cut_at area ns) (i - 1) [] ≡ part area upper r =
          cut_at_lem area ns (i - 1) (omega arith) ∙ rw (third, ← rise.to, ← is) in
          rise.whole ∙ chain_step before [] (cut_at area ns) (i - 2) (omega arith) ∙ rw (second, one, two)

      module _ (b : Bool) (answer : b ≡ before (part area lower upper) (part area upper r)) where
        pub rise_not : not b ≡ true → false ≡ rising (cut_at area ns)
        rise_not e = rw (name_step, ← answer, not-true b e)

        pub rise_on : not b ≡ false → Rise ns area upper r (i + 1)
        rise_on e =
            let back : i + 1 - 1 ≡ i = omega arith in
            let twice : i + 1 - 2 ≡ i - 1 = omega arith in
            record { from = rw twice rise.to; to = rw back is; whole = rw twice (name_step ∙ rw (← answer, not-false b e)) }

    pub rise_ends : i ≡ length ns → true ≡ rising (cut_at area ns)
    rise_ends h =
        let size = cut_length area ns in
        let all : i - 2 + 1 ≡ length (cut_at area ns) = omega arith in
        rw (rise.whole, chain_last before [] (cut_at area ns) (i - 2) all)
