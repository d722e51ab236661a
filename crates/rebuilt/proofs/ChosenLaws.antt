-- The ids that a place of a lawful row uses, marked and ranked: the chosen ids name exactly the names that its meaning uses, and
-- each id that is used is numbered by its name's place among them.
use mathlib.Core.List.{List, []}
use mathlib.Core.Path.{◌≡◌, sym, ◌∙◌}
use Prim.Native.Nat.{ℕ, ◌≤◌}
use native.Mathlib.Omega.{arith}
use lib.ListN.{length, get_or, take, replicate}
use Rattle.fields.specs.Telling.{Told}
use Rattle.marking.specs.Ids.{mark_ids}
use Rattle.names.specs.Used.{used_in}
use Rattle.paper.specs.Bounds.{most_names}
use Rattle.paper.specs.Metadata.{Dictionary}
use Rattle.paper.specs.Normal.{names_used}
use Rattle.paper.specs.Schemas.{Schema}
use Rattle.paper.specs.Values.{names_at}
use Rattle.paper.specs.Words.{among}
use Rattle.places.specs.Verdicts.{place_verdict}
use Rattle.places.specs.declared.verdicts.Verdict.TheVariants.{Lawful}
use Rattle.ranking.specs.Ranks.{Ranked}
use Rattle.containers.proofs.WalkLaws.{below_more}
use Rattle.names.proofs.UsedLaws.{among_used}
use Rattle.ranking.proofs.ChosenLaws.{chosen_used, ranks_right, used_few}
use Rattle.ranking.proofs.HeldLaws.{name_held}
use Rattle.rebuilt.specs.Meant.{place_doc}
use Rattle.rebuilt.specs.There.{Numbered}
use Rattle.rebuilt.specs.Using.{place_ids}
use Rattle.rebuilt.proofs.UsingLaws.{place_ids-below, place_ids-used}

module _ (under : Schema) (levels : ℕ) (names : Dictionary) (schema table : List ℕ) (node : ℕ) (body : List ℕ)
    (tells : Told names schema table under node) (lawful : place_verdict under levels names body ≡ Lawful)
    (size : ℕ) (room : length names ≤ size) (used : List ℕ) (marks : used ≡ mark_ids (replicate size 0) (place_ids under levels schema table node body))
    (ranks chosen : List ℕ) (picked : ℕ) (ranked : Ranked names used ranks chosen picked) where
  abbrev Ids : List ℕ
  Ids = place_ids under levels schema table node body

  exact : (name : List ℕ) → among name (names_at names Ids) ≡ used_in name (place_doc under levels names body)
  exact name = place_ids-used under levels names schema table node body tells lawful name ∙ among_used name (place_doc under levels names body)

  pub row_chosen : names_at names (take picked chosen) ≡ names_used (place_doc under levels names body)
  row_chosen =
      chosen_used names Ids (place_ids-below under levels names schema table node body tells lawful) (place_doc under levels names body) exact
      size room used marks ranks chosen picked ranked

  pub row_numbered : length names ≤ most_names → length names ≤ length ranks
      → Numbered names (names_used (place_doc under levels names body)) ranks (place_ids under levels schema table node body)
  row_numbered few ranks_room =
      let below = place_ids-below under levels names schema table node body tells lawful in
      let count = used_few names Ids below (place_doc under levels names body) exact size room used marks ranks chosen picked ranked in
      record {
        below = below_more (length names) (length ranks) Ids ranks_room below;
        right = ranks_right names Ids below (place_doc under levels names body) exact size room used marks ranks chosen picked ranked;
        there = λ id held. sym (place_ids-used under levels names schema table node body tells lawful (get_or names id [])) ∙ name_held names Ids id held;
        few = omega arith;
      }
