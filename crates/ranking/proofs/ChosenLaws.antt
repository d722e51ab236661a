-- Ids that name exactly the names a document uses, marked in a clean table and ranked: the names of the chosen ids are the names
-- used, and each of those ids has its name's place among them as its rank.
use mathlib.Core.Bool.{true}
use mathlib.Core.List.{List, []}
use mathlib.Core.Path.{◌≡◌, sym, ap, ◌∙◌}
use Prim.Native.Nat.{ℕ, ◌≤◌}
use native.Mathlib.Omega.{arith}
use lib.ListN.{length, get_or, take, replicate, length-take}
use Rattle.marking.specs.Ids.{mark_ids, holds}
use Rattle.names.specs.Used.{used_in}
use Rattle.paper.specs.Meaning.{Doc}
use Rattle.paper.specs.Metadata.{Dictionary}
use Rattle.paper.specs.Normal.{id_of, names_used}
use Rattle.paper.specs.Values.{names_at}
use Rattle.paper.specs.Words.{among, all_below}
use Rattle.ranking.specs.Ranks.{Ranked}
use Rattle.marking.proofs.MarkLaws.{marked_clean}
use Rattle.names.proofs.UsedLaws.{names_are}
use Rattle.ranking.proofs.HeldLaws.{names_length}
use Rattle.ranking.proofs.MarkedLaws.{Marks, ranked_names, ranked_right}

module _ (names : Dictionary) (ids : List ℕ) (below : all_below (length names) ids ≡ true)
    (d : Doc) (exact : (name : List ℕ) → among name (names_at names ids) ≡ used_in name d)
    (size : ℕ) (room : length names ≤ size) (used : List ℕ) (marks : used ≡ mark_ids (replicate size 0) ids) where
  marked : Marks (length names) used ids
  marked id h = ap (λ (l : List ℕ). get_or l id 0) marks ∙ marked_clean size id ids (omega arith)

  module _ (ranks chosen : List ℕ) (picked : ℕ) (ranked : Ranked names used ranks chosen picked) where
    pub chosen_used : names_at names (take picked chosen) ≡ names_used d
    chosen_used =
        names_are d (names_at names (take picked chosen)) ranked.rise (λ name. ranked_names ranked ids below marked name ∙ exact name)

    pub ranks_right : (id : ℕ) → holds id ids ≡ true → get_or ranks id 0 ≡ id_of (names_used d) (get_or names id [])
    ranks_right id h = ranked_right ranked ids below marked id h ∙ ap (λ (n : Dictionary). id_of n (get_or names id [])) chosen_used

    pub used_few : length (names_used d) ≤ length names
    used_few =
        let count = ap length (sym chosen_used) ∙ names_length names (take picked chosen) ∙ length-take picked chosen in
        let few = ranked.few in
        omega arith
