-- A table of marks: as long as before, and 1 where an id was marked.
use mathlib.Core.Bool.{Bool, true, false, cond, ◌||◌}
use mathlib.Core.List.{List, [], ◌∷◌, ◌++◌}
use mathlib.Core.Path.{◌≡◌, refl, sym, ap, ◌∙◌}
use Prim.Native.Nat.{ℕ, ◌<◌}
use borrow.Author.Tests.{eqb-true, eqb-false}
use lib.Dec.{eqb}
use lib.ListN.{length, get_or, set, replicate, length-set, length-replicate, get_or-replicate}
use lib.Seq.{get_or-set_same, get_or-set_other}
use Rattle.marking.specs.Ids.{mark_ids, holds}
use Rattle.paper.specs.Words.{one_if}

pub marked_length : (used ids : List ℕ) → length (mark_ids used ids) ≡ length used
unfolding mark_ids
marked_length used [] = refl
marked_length used (id ∷ more) = marked_length (set used id 1) more ∙ length-set used id 1

pub mark_append : (used ids more : List ℕ) → mark_ids used (ids ++ more) ≡ mark_ids (mark_ids used ids) more
unfolding mark_ids
mark_append used [] more = refl
mark_append used (id ∷ ids) more = mark_append (set used id 1) ids more

-- 1 where an id was marked, and what was there elsewhere.
pub marked_at : (used ids : List ℕ) (id : ℕ) → id < length used → get_or (mark_ids used ids) id 0 ≡ cond (holds id ids) 1 (get_or used id 0)
unfolding mark_ids holds
marked_at used [] id h = refl
marked_at used (first ∷ more) id h =
    marked_at (set used first 1) more id (rw (length-set used first 1) h) ∙ go (eqb first id) refl (holds id more)
  where
    go : (b : Bool) → eqb first id ≡ b → (rest : Bool) → cond rest 1 (get_or (set used first 1) id 0) ≡ cond (b || rest) 1 (get_or used id 0)
    go true e true = refl
    go true e false =
        let is : first ≡ id = eqb-true first id e in
        rw is (get_or-set_same used id 1 0 h)
    go false e true = refl
    go false e false = get_or-set_other used first id 1 0 (λ is. eqb-false first id e (sym is))

-- On a clean table: 1 where an id was marked, else 0.
pub marked_clean : (size id : ℕ) (ids : List ℕ) → id < size → get_or (mark_ids (replicate size 0) ids) id 0 ≡ one_if (holds id ids)
unfolding one_if
marked_clean size id ids h =
    let clean : ℕ = 0 in
    marked_at (replicate size 0) ids id (rw (length-replicate size clean) h) ∙ ap (cond (holds id ids) 1) (get_or-replicate size id clean 0 h)
    ∙ go (holds id ids)
  where
    go : (b : Bool) → ◌≡◌ {A = ℕ} (cond b 1 0) (one_if b)
    go true = refl
    go false = refl
