-- A table that marks some ids: the used ids are those, and the names picked for them are theirs.
use mathlib.Core.Bool.{Bool, true, false}
use mathlib.Core.List.{List}
use mathlib.Core.Path.{◌≡◌, refl, sym, ap, ◌∙◌}
use Prim.Native.Nat.{ℕ, ◌<◌}
use native.Mathlib.Omega.{arith}
use lib.ListN.{length, get_or, take}
use Rattle.paper.specs.Metadata.{Dictionary}
use Rattle.paper.specs.Values.{names_at}
use Rattle.paper.specs.Words.{one_if, among, all_below}
use Rattle.marking.specs.Ids.{holds}
use Rattle.ranking.specs.Ranks.{used_ids, RanksOf, Ranked}
use Rattle.ranking.proofs.CollectLaws.{used_lower, used_entry, used_held}
use Rattle.ranking.proofs.HeldLaws.{truths, below_held, same_names}

-- The entries below a count are 1 for some ids, all below it, and 0 for the others.
abbrev pub Marks : (count : ℕ) → (used ids : List ℕ) → Type 0
Marks count used ids = (id : ℕ) → id < count → get_or used id 0 ≡ one_if (holds id ids)

module _ (count : ℕ) (used ids : List ℕ) (below : all_below count ids ≡ true) (marks : Marks count used ids) where
  pub used_are : (id : ℕ) → holds id (used_ids count used) ≡ holds id ids
  unfolding one_if
  used_are id = truths (holds id (used_ids count used)) (holds id ids) there back
    where
      go : (b : Bool) → holds id ids ≡ b → one_if b ≡ 1 → b ≡ true
      go true e one = refl
      go false e one = absurd (omega arith)

      there : holds id (used_ids count used) ≡ true → holds id ids ≡ true
      there e = go (holds id ids) refl (sym (marks id (used_lower count used id e)) ∙ used_entry count used id e)

      back : holds id ids ≡ true → holds id (used_ids count used) ≡ true
      back e = let lower = below_held count ids below id e in used_held count used id lower (marks id lower ∙ ap one_if e)

-- What is ranked by such a table has the names of the ids marked, and each of them has its normal id.
module _ {names : Dictionary} {used ranks chosen : List ℕ} {picked : ℕ} (ranked : Ranked names used ranks chosen picked)
    (ids : List ℕ) (below : all_below (length names) ids ≡ true) (marks : Marks (length names) used ids) where
  pub ranked_names : (name : List ℕ) → among name (names_at names (take picked chosen)) ≡ among name (names_at names ids)
  ranked_names name =
      ranked.all name ∙ same_names names (used_ids (length names) used) ids (used_are (length names) used ids below marks) name

  pub ranked_right : RanksOf names ids (take picked chosen) ranks
  unfolding one_if
  ranked_right id e =
      let lower = below_held (length names) ids below id e in
      ranked.right id lower (marks id lower ∙ ap one_if e)
