-- The loop that marks a run of ids: what is left is to be marked on what is marked.
use mathlib.Core.Bool.{true}
use mathlib.Core.List.{List}
use mathlib.Core.Path.{◌≡◌, refl, sym, ap, ◌∙◌}
use Prim.Native.Nat.{ℕ, ◌+◌, ◌≤◌, ◌<◌}
use native.Mathlib.Omega.{arith}
use lib.ListN.{length, get_or, set, drop, length-set}
use Rattle.marking.specs.Ids.{mark_ids}
use Rattle.paper.specs.Words.{all_below}
use Rattle.runs.proofs.NumbersRunLaws.{below_at, next_number, no_more}

-- After i ids.
pub record RunSeen (ids used₀ used : List ℕ) (i : ℕ) : Type 0 where
  pub same_size : length used ≡ length used₀
  pub whole : mark_ids used₀ ids ≡ mark_ids used (drop i ids)

pub run_start : (ids used : List ℕ) → RunSeen ids used used 0
run_start ids used = record { same_size = refl; whole = refl }

module _ {ids used₀ used : List ℕ} {i : ℕ} (seen : RunSeen ids used₀ used i) where
  module _ (h : i < length ids) (id : ℕ) (is : id ≡ get_or ids i 0) where
    pub run_inside : all_below (length used₀) ids ≡ true → id < length used
    run_inside below =
        let bound : get_or ids i 0 < length used₀ = below_at (length used₀) ids i below h in
        let same : length used ≡ length used₀ = seen.same_size in
        omega arith

    pub run_marked : (after : List ℕ) → after ≡ set used id 1 → RunSeen ids used₀ after (i + 1)
    unfolding mark_ids
    run_marked after e =
        record {
          same_size = ap length e ∙ length-set used id 1 ∙ seen.same_size;
          whole = rw e (seen.whole ∙ ap (mark_ids used) (next_number ids i h id is));
        }

  pub run_done : length ids ≤ i → used ≡ mark_ids used₀ ids
  unfolding mark_ids
  run_done past = sym (seen.whole ∙ ap (mark_ids used) (no_more ids i past))
