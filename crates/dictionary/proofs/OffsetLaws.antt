-- Offsets that keep the rules, and what is cut at them.
use mathlib.Core.Bool.{true, ◌&&◌}
use mathlib.Core.List.{List, [], ◌∷◌}
use mathlib.Core.Path.{◌≡◌, refl}
use Prim.Native.Nat.{ℕ, zero, suc, ◌+◌, ◌-◌, ◌≤◌, ◌<◌}
use native.Mathlib.Nat.{suc-add}
use native.Mathlib.Omega.{arith}
use borrow.Author.Tests.{eqb-true}
use lib.Dec.{eqb}
use lib.ListN.{length, get_or}
use Rattle.paper.specs.Metadata.{never_fall, cut_at, offsets_good}
use Rattle.paper.specs.Words.{part, last_of}
use Rattle.dictionary.proofs.ChainLaws.{fall_le}
use Rattle.runs.proofs.NumbersRunLaws.{last_at}
use Rattle.paper.proofs.WordLaws.{and_both}

-- ---- what is cut

pub cut_length : (area ns : List ℕ) → length (cut_at area ns) ≡ length ns - 1
unfolding cut_at
cut_length area [] = refl
cut_length area (n ∷ []) = refl
cut_length area (n ∷ m ∷ ns) =
    let rest : length (cut_at area (m ∷ ns)) ≡ suc (length ns) - 1 = cut_length area (m ∷ ns) in omega arith

pub cut_at_lem : (area ns : List ℕ) (i : ℕ) → i + 1 < length ns → get_or (cut_at area ns) i [] ≡ part area (get_or ns i 0) (get_or ns (i + 1) 0)
unfolding cut_at
cut_at_lem area [] i h = absurd (omega arith)
cut_at_lem area (n ∷ []) i h = absurd (omega arith)
cut_at_lem area (n ∷ m ∷ ns) zero h = refl
cut_at_lem area (n ∷ m ∷ ns) (suc i) h = rw suc-add (cut_at_lem area (m ∷ ns) i (omega arith))

-- ---- offsets that keep the rules

-- The first offset is 0, they never fall, the last is the length of what is cut.
pub good_parts : (ns area : List ℕ) → offsets_good ns area ≡ true → (get_or ns 0 0 ≡ 0) × (never_fall ns ≡ true) × (last_of ns ≡ length area)
unfolding offsets_good
good_parts ns area good =
    let all = and_both (eqb (get_or ns 0 0) 0) (never_fall ns && eqb (last_of ns) (length area)) good in
    let rest = and_both (never_fall ns) (eqb (last_of ns) (length area)) all.1 in
    (eqb-true (get_or ns 0 0) 0 all.0, rest.0, eqb-true (last_of ns) (length area) rest.1)

-- Each is at most the next one, and lies within what is cut.
pub good_next : (ns area : List ℕ) (i : ℕ) → offsets_good ns area ≡ true → i + 1 < length ns → get_or ns i 0 ≤ get_or ns (i + 1) 0
good_next ns area i good h = fall_le ns i (i + 1) (good_parts ns area good).1 (omega arith) h

pub good_within : (ns area : List ℕ) (i : ℕ) → offsets_good ns area ≡ true → i + 1 < length ns → get_or ns (i + 1) 0 ≤ length area
good_within ns area i good h = go (length ns - (i + 2)) refl
  where
    ends : last_of ns ≡ get_or ns (length ns - 1) 0
    ends = last_at ns (length ns - 1) (omega arith)

    go : (k : ℕ) → length ns - (i + 2) ≡ k → get_or ns (i + 1) 0 ≤ length area
    go zero e =
        let here : i + 1 ≡ length ns - 1 = omega arith in
        rw here (let l = (good_parts ns area good).2 in omega (arith, ends))
    go (suc k) e =
        let le : get_or ns (i + 1) 0 ≤ get_or ns (length ns - 1) 0 =
        fall_le ns (i + 1) (length ns - 1) (good_parts ns area good).1 (omega arith) (omega arith) in
        let l = (good_parts ns area good).2 in
        omega (arith, ends)
