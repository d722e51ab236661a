-- The used ids listed in a table, and what comes of them: in order as they are, or sorted and folded, they are ranked.
use mathlib.Core.Bool.{true}
use mathlib.Core.List.{List, ◌++◌}
use mathlib.Core.Path.{◌≡◌, sym, ap, ◌∙◌}
use Prim.Native.Nat.{ℕ, ◌≤◌}
use native.Mathlib.Omega.{arith}
use lib.ListN.{length, take, drop}
use lib.Seq.{length-take-le, take-append-le}
use Rattle.paper.specs.Metadata.{Dictionary, rising}
use Rattle.paper.specs.Values.{names_at}
use Rattle.paper.specs.Words.{all_below}
use Rattle.marking.specs.Ids.{holds}
use Rattle.ranking.specs.Ranks.{used_ids, Listed, Sorted, RanksOf, Folded, Ranked}
use Rattle.ranking.proofs.CollectLaws.{used_below, used_held, used_length, used_rise}
use Rattle.ranking.proofs.HeldLaws.{same_names}

-- What is folded of sorted ids is folded of the ids.
pub fold_sorted : {names : Dictionary} {ids sorted chosen ranks : List ℕ} {picked : ℕ} → Sorted names ids sorted → Folded names sorted chosen ranks picked
    → Folded names ids chosen ranks picked
fold_sorted {names} {ids} {sorted} s f =
    record {
      few = let size = s.size in let few = f.few in omega arith;
      size = f.size ∙ s.size;
      within = f.within;
      rise = f.rise;
      all = λ name. f.all name ∙ same_names names sorted ids s.members name;
      right = λ id e. f.right id (s.members id ∙ e);
    }

-- The used ids are listed.
module _ (names : Dictionary) (used : List ℕ) {chosen : List ℕ} {n : ℕ} (listed : Listed (used_ids (length names) used) chosen n) where
  pub listed_size : n ≡ length (take n chosen)
  listed_size = sym (length-take-le n chosen listed.room)

  pub listed_few : length (take n chosen) ≤ length names
  listed_few = rw listed.front (used_length (length names) used)

  pub listed_below : (bound : ℕ) → length names ≤ bound → all_below bound (take n chosen) ≡ true
  listed_below bound h = rw listed.front (used_below (length names) bound used h)

  pub listed_rise : rising names ≡ true → rising (names_at names (take n chosen)) ≡ true
  listed_rise rise = rw listed.front (used_rise names used rise (length names) (omega arith))

  -- Where their names rise they are picked as they are, ..
  pub rank_placed : {ranks : List ℕ} → rising (names_at names (take n chosen)) ≡ true → RanksOf names (take n chosen) (take n chosen) ranks
      → Ranked names used ranks chosen n
  rank_placed rise right =
      record {
        few = let few = listed_few in let e = listed_size in omega arith;
        within = listed_below (length names) (omega arith);
        rise = rise;
        all = λ name. rw listed.front;
        right = λ id h is. right id (ap (λ (ids : List ℕ). holds id ids) listed.front ∙ used_held (length names) used id h is);
      }

  -- .. else folded.
  pub rank_folded : {after ranks : List ℕ} {picked : ℕ} → Folded names (take n chosen) after ranks picked → Ranked names used ranks (after ++ drop n chosen) picked
  rank_folded {after} {ranks} {picked} f =
      let front : take picked (after ++ drop n chosen) ≡ take picked after =
      take-append-le picked after (drop n chosen) (let few = f.few in let size = f.size in omega arith) in
      record {
        few = let few = listed_few in let fewer = f.few in omega arith;
        within = rw front f.within;
        rise = rw front f.rise;
        all = λ name. rw (front, ← listed.front) (f.all name);
        right = λ id h is. rw front (f.right id (ap (λ (ids : List ℕ). holds id ids) listed.front ∙ used_held (length names) used id h is));
      }
