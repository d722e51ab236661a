-- Entries of ids one after another: each is a name's place. Ids whose names rise have their own places.
use mathlib.Core.Bool.{Bool, true, false}
use mathlib.Core.List.{List, [], ◌∷◌, ◌++◌}
use mathlib.Core.Logic.{◌⊎◌, inl, inr}
use mathlib.Core.Path.{◌≡◌, refl, sym, ap, ◌∙◌}
use Prim.Native.Nat.{ℕ, ◌+◌, ◌≤◌, ◌<◌}
use native.Mathlib.Numerals.{add-one}
use native.Mathlib.Omega.{arith}
use borrow.Author.Tests.{eqb-true, eqb-false}
use lib.Dec.{eqb}
use lib.ListN.{length, get_or, take, set, length-set}
use lib.Seq.{get_or-set_same, get_or-set_other, take-suc, take_all}
use Rattle.paper.specs.Metadata.{Dictionary, rising}
use Rattle.paper.specs.Normal.{id_of}
use Rattle.paper.specs.Values.{names_at}
use Rattle.paper.specs.Words.{all_below}
use Rattle.marking.specs.Ids.{holds}
use Rattle.ranking.specs.Ranks.{RanksOf}
use Rattle.runs.proofs.NumbersRunLaws.{below_at}
use Rattle.names.proofs.IdLaws.{id_place}
use Rattle.paper.proofs.WordLaws.{never}
use Rattle.ranking.proofs.HeldLaws.{held_behind, names_length, names_place}

-- One id more gets its entry. Should it have been seen before, it had the same.
pub ranks_next : (names : Dictionary) (seen picked ranks : List ℕ) (id n : ℕ) → RanksOf names seen picked ranks → id < length ranks
    → n ≡ id_of (names_at names picked) (get_or names id []) → RanksOf names (seen ++ (id ∷ [])) picked (set ranks id n)
ranks_next names seen picked ranks id n right h is x e = go (eqb x id) refl (held_behind x id seen e)
  where
    go : (b : Bool) → eqb x id ≡ b → (holds x seen ≡ true) ⊎ (id ≡ x) → get_or (set ranks id n) x 0 ≡ id_of (names_at names picked) (get_or names x [])
    go true t cases = let same_id : x ≡ id = eqb-true x id t in rw same_id (get_or-set_same ranks id n 0 h ∙ is)
    go false t (inl before_it) = get_or-set_other ranks id x n 0 (eqb-false x id t) ∙ right x before_it
    go false t (inr same_id) = absurd (eqb-false x id t (sym same_id))

pub ranks_none : (names : Dictionary) (picked ranks : List ℕ) → RanksOf names [] picked ranks
unfolding holds
ranks_none names picked ranks id e = never (sym e)

-- ---- ids whose names rise: each has its place

pub record Placed (ids ranks₀ ranks : List ℕ) (i : ℕ) : Type 0 where
  pub far : i ≤ length ids
  pub room : length ranks ≡ length ranks₀
  pub right : (names : Dictionary) → rising (names_at names ids) ≡ true → RanksOf names (take i ids) ids ranks

pub place_start : (ids ranks : List ℕ) → Placed ids ranks ranks 0
place_start ids ranks = record { far = omega arith; room = refl; right = λ names rise. ranks_none names ids ranks }

module _ {ids ranks₀ ranks : List ℕ} {i : ℕ} (seen : Placed ids ranks₀ ranks i) where
  module _ (below : all_below (length ranks₀) ids ≡ true) (h : i < length ids) (id : ℕ) (is : id ≡ get_or ids i 0) where
    pub place_inside : id < length ranks
    place_inside = let lower = below_at (length ranks₀) ids i below h in let same-room = seen.room in omega arith

    pub place_next : {after : List ℕ} → after ≡ set ranks id i → Placed ids ranks₀ after (i + 1)
    place_next e =
        record {
          far = omega arith;
          room = ap length e ∙ length-set ranks id i ∙ seen.room;
          right = λ names rise.
              let name : get_or names id [] ≡ get_or (names_at names ids) i [] = ap (λ (n : ℕ). get_or names n []) is ∙ sym (names_place names ids i h) in
              let inside : i < length (names_at names ids) = rw (names_length names ids) h in
              let place : i ≡ id_of (names_at names ids) (get_or names id []) = sym (ap (id_of (names_at names ids)) name ∙ id_place (names_at names ids) i rise inside) in
              rw (e, add-one, take-suc ids i 0 h, ← is) (ranks_next names (take i ids) ids ranks id i (seen.right names rise) place_inside place);
        }

  pub place_done : length ids ≤ i → (names : Dictionary) → rising (names_at names ids) ≡ true → RanksOf names ids ids ranks
  place_done past names rise = rw (take_all i ids past) at (seen.right names rise)
