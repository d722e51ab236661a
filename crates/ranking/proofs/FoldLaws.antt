-- Ids seen one after another in the order of their names: the first of each name is kept, and each id's entry is its name's
-- place among those kept.
use mathlib.Core.Bool.{Bool, true, false, not, ◌||◌}
use mathlib.Core.List.{List, [], ◌∷◌, ◌++◌}
use mathlib.Core.Path.{◌≡◌, refl, sym, ap, ◌∙◌}
use Prim.Native.Nat.{ℕ, suc, ◌+◌, ◌-◌, ◌≤◌, ◌<◌}
use native.Mathlib.Numerals.{add-one}
use native.Mathlib.Omega.{arith}
use borrow.Author.Tests.{lt-ltb, not-true}
use lib.ListN.{length, get_or, take, drop, set, length-append, length-set}
use lib.Seq.{get_or-set_other, get_or_at, take-suc, take-suc-set, length-take-le, take_all, drop-cons}
use Rattle.order.specs.Before.{before}
use Rattle.paper.specs.Metadata.{Dictionary, rising}
use Rattle.paper.specs.Normal.{id_of}
use Rattle.paper.specs.Values.{names_at}
use Rattle.paper.specs.Words.{same, among, all_below}
use Rattle.ranking.specs.Ranks.{never_falls, RanksOf, Folded}
use Rattle.runs.proofs.NumbersRunLaws.{below_at}
use Rattle.names.proofs.IdLaws.{id_place}
use Rattle.names.proofs.SameLaws.{same_refl, same_is, among_at}
use Rattle.order.proofs.OrderLaws.{before_total}
use Rattle.paper.proofs.WordLaws.{and_both}
use Rattle.ranking.proofs.BehindLaws.{rising_behind, among_behind, id_front}
use Rattle.ranking.proofs.HeldLaws.{or_none, below_behind, name_held, names_behind, names_length}
use Rattle.ranking.proofs.PlaceLaws.{ranks_next, ranks_none}

-- Of the ids seen, of which `last` was the last, these are kept.
pub record Kept (names : Dictionary) (seen picked ranks : List ℕ) (last : ℕ) : Type 0 where
  pub within : all_below (length names) picked ≡ true
  pub rise : rising (names_at names picked) ≡ true
  pub all : (name : List ℕ) → among name (names_at names picked) ≡ among name (names_at names seen)
  pub right : RanksOf names seen picked ranks
  pub some : 1 ≤ length picked
  pub top : get_or (names_at names picked) (length picked - 1) [] ≡ get_or names last []

pub kept_first : (names : Dictionary) (ranks : List ℕ) (id : ℕ) → id < length names → id < length ranks
    → Kept names (id ∷ []) (id ∷ []) (set ranks id 0) id
unfolding rising names_at id_of all_below
kept_first names ranks id h k =
    record {
      within = rw (lt-ltb id (length names) h);
      rise = refl;
      all = λ name. refl;
      right = ranks_next names [] (id ∷ []) ranks id 0 (ranks_none names (id ∷ []) ranks) k (rw (same_refl (get_or names id [])));
      some = omega arith;
      top = refl;
    }

module _ {names : Dictionary} {seen picked ranks : List ℕ} {last : ℕ} (kept : Kept names seen picked ranks last) (id : ℕ)
    (h : id < length names) (k : id < length ranks) where
  -- The same name again: nothing is kept.
  module _ (is : get_or names last [] ≡ get_or names id []) where
    same_top : get_or (names_at names picked) (length picked - 1) [] ≡ get_or names id []
    same_top = kept.top ∙ is

    top_inside : length picked - 1 < length (names_at names picked)
    top_inside = let size = names_length names picked in let more = kept.some in omega arith

    same_all : (name : List ℕ) → among name (names_at names picked) ≡ among name (names_at names (seen ++ (id ∷ [])))
    same_all name =
        sym (ap (among name) (names_behind names seen id) ∙ among_behind name (names_at names seen) (get_or names id [])
        ∙ go (same (get_or names id []) name) refl)
      where
        go : (b : Bool) → same (get_or names id []) name ≡ b → among name (names_at names seen) || b ≡ among name (names_at names picked)
        go false e = rw (← kept.all name) (or_none (among name (names_at names picked)))
        go true e =
            let there : among (get_or (names_at names picked) (length picked - 1) []) (names_at names picked) ≡ true =
            among_at (names_at names picked) (length picked - 1) top_inside in
            let is-top : get_or (names_at names picked) (length picked - 1) [] ≡ name = same_top ∙ same_is (get_or names id []) name e in
            let here : among name (names_at names picked) ≡ true = rw is-top at there in
            rw (← kept.all name, here)

    pub kept_same : Kept names (seen ++ (id ∷ [])) picked (set ranks id (length picked - 1)) id
    kept_same =
        record {
          within = kept.within;
          rise = kept.rise;
          all = same_all;
          right = ranks_next names seen picked ranks id (length picked - 1) kept.right k
              (sym (ap (id_of (names_at names picked)) (sym same_top) ∙ id_place (names_at names picked) (length picked - 1) kept.rise top_inside));
          some = kept.some;
          top = same_top;
        }

  -- A name that comes after: its id is kept.
  module _ (after : before (get_or names last []) (get_or names id []) ≡ true) where
    new_rise : rising (names_at names (picked ++ (id ∷ []))) ≡ true
    new_rise =
        let size : length (names_at names picked) ≡ suc (length picked - 1) = let e = names_length names picked in let more = kept.some in omega arith in
        rw (names_behind names picked id)
        (rising_behind (names_at names picked) (length picked - 1) (get_or names id []) kept.rise size (rw kept.top after))

    new_place : get_or (names_at names (picked ++ (id ∷ []))) (length picked) [] ≡ get_or names id []
    new_place = rw (names_behind names picked id) (get_or_at (names_at names picked) (get_or names id []) [] [] (length picked) (names_length names picked))

    new_size : length (picked ++ (id ∷ [])) ≡ suc (length picked)
    new_size = rw length-append (omega arith)

    new_right : RanksOf names seen (picked ++ (id ∷ [])) ranks
    new_right x e =
        kept.right x e
        ∙ sym (ap (λ (l : Dictionary). id_of l (get_or names x [])) (names_behind names picked id)
        ∙ id_front (names_at names picked) (get_or names id [] ∷ []) (get_or names x []) (kept.all (get_or names x []) ∙ name_held names seen x e))

    pub kept_new : Kept names (seen ++ (id ∷ [])) (picked ++ (id ∷ [])) (set ranks id (length picked)) id
    kept_new =
        let inside : length picked < length (names_at names (picked ++ (id ∷ []))) = rw (names_length names (picked ++ (id ∷ [])), new_size) (omega arith) in
        let end : length (picked ++ (id ∷ [])) - 1 ≡ length picked = omega (arith, new_size) in
        record {
          within = below_behind (length names) picked id kept.within h;
          rise = new_rise;
          all = λ name. rw (
            names_behind names picked id,
            names_behind names seen id,
            among_behind name (names_at names picked) (get_or names id []),
            among_behind name (names_at names seen) (get_or names id []),
            kept.all name,
          );
          right = ranks_next names seen (picked ++ (id ∷ [])) ranks id (length picked) new_right k
              (sym (ap (id_of (names_at names (picked ++ (id ∷ [])))) (sym new_place) ∙ id_place (names_at names (picked ++ (id ∷ []))) (length picked) new_rise inside));
          some = rw new_size (omega arith);
          top = rw end new_place;
        }

-- ---- the loop over the ids

-- After i ids: of those kept the ids are in front, and what is left of the names does not fall behind the last.
pub record FoldSeen (names : Dictionary) (ids₀ ids ranks₀ ranks : List ℕ) (last kept i : ℕ) : Type 0 where
  pub far : i ≤ length ids₀
  pub few : kept ≤ i
  pub size : length ids ≡ length ids₀
  pub room : length ranks ≡ length ranks₀
  pub enough : length names ≤ length ranks
  pub least : 1 ≤ kept
  pub last_below : last < length names
  pub rest : (j : ℕ) → i ≤ j → get_or ids j 0 ≡ get_or ids₀ j 0
  pub order : never_falls (get_or names last [] ∷ names_at names (drop i ids₀)) ≡ true
  pub picked : Kept names (take i ids₀) (take kept ids) ranks last

module _ (names : Dictionary) (ids ranks : List ℕ) where
  pub fold_none : length ids ≡ 0 → Folded names ids ids ranks 0
  unfolding all_below rising names_at
  fold_none none = go ids none
    where
      go : (l : List ℕ) → length l ≡ 0 → Folded names l l ranks 0
      go [] e = record { few = omega arith; size = refl; within = refl; rise = refl; all = λ name. refl; right = ranks_none names [] ranks }
      go (id ∷ more) e = absurd (omega arith)

  module _ (below : all_below (length names) ids ≡ true) (room : length names ≤ length ranks) (some : length ids ≡ 0 → ⊥)
      (first : ℕ) (is : first ≡ get_or ids 0 0) where
    first_below : first < length names
    first_below = let lower = below_at (length names) ids 0 below (omega arith) in omega arith

    pub fold_first_inside : first < length ranks
    fold_first_inside = let lower = first_below in omega arith

    pub fold_start : never_falls (names_at names ids) ≡ true → {ranks' : List ℕ} → ranks' ≡ set ranks first 0 → FoldSeen names ids ids ranks' ranks' first 1 1
    unfolding names_at
    fold_start falls-never e =
        let here : 0 < length ids = omega arith in
        let all_ids : ids ≡ first ∷ drop 1 ids = drop-cons ids 0 0 here ∙ ap (λ (n : ℕ). n ∷ drop 1 ids) (sym is) in
        let one : take 1 ids ≡ first ∷ [] = take-suc ids 0 0 here ∙ ap (λ (n : ℕ). n ∷ []) (sym is) in
        record {
          far = omega arith;
          few = omega arith;
          size = refl;
          room = refl;
          enough = rw (e, length-set) room;
          least = omega arith;
          last_below = first_below;
          rest = λ j h. refl;
          order = rw all_ids at falls-never;
          picked = rw (one, e) (kept_first names ranks first first_below fold_first_inside);
        }

module _ {names : Dictionary} {ids₀ ids ranks₀ ranks : List ℕ} {last kept i : ℕ} (seen : FoldSeen names ids₀ ids ranks₀ ranks last kept i) where
  module _ (below : all_below (length names) ids₀ ≡ true) (h : i < length ids) (id : ℕ) (is : id ≡ get_or ids i 0) where
    there : i < length ids₀
    there = let size = seen.size in omega arith

    is_first : id ≡ get_or ids₀ i 0
    is_first = is ∙ seen.rest i (omega arith)

    pub fold_below : id < length names
    fold_below = let lower = below_at (length names) ids₀ i below there in let e = is_first in omega arith

    pub fold_inside : id < length ranks
    fold_inside = let lower = fold_below in let wide = seen.enough in omega arith

    one_more : take (i + 1) ids₀ ≡ take i ids₀ ++ (id ∷ [])
    one_more = rw (add-one, take-suc ids₀ i 0 there, ← is_first)

    falls : (not (before (get_or names id []) (get_or names last [])) ≡ true) × (never_falls (get_or names id [] ∷ names_at names (drop (i + 1) ids₀)) ≡ true)
    unfolding never_falls names_at
    falls =
        let left : drop i ids₀ ≡ id ∷ drop (i + 1) ids₀ = rw (add-one, drop-cons ids₀ i 0 there, ← is_first) in
        and_both _ _ (rw left at seen.order)

    module _ (r : Bool) (told : r ≡ before (get_or names last []) (get_or names id [])) where
      pub fold_new : r ≡ true → {ids' ranks' : List ℕ} {kept' : ℕ} → ids' ≡ set ids kept id → kept' ≡ kept + 1
          → ranks' ≡ set ranks id (kept' - 1) → FoldSeen names ids₀ ids' ranks₀ ranks' id kept' (i + 1)
      fold_new passed {ids'} {ranks'} {kept'} e more f =
          let fewer : kept ≤ i = seen.few in
          let size : length (take kept ids) ≡ kept = length-take-le kept ids (omega arith) in
          let front : take kept' ids' ≡ take kept ids ++ (id ∷ []) =
          rw (e, more, add-one, take-suc-set ids kept id (omega arith)) in
          let value : kept' - 1 ≡ length (take kept ids) = omega arith in
          record {
            far = let h = there in omega arith;
            few = omega arith;
            size = ap length e ∙ length-set ids kept id ∙ seen.size;
            room = ap length f ∙ length-set ranks id (kept' - 1) ∙ seen.room;
            enough = rw (f, length-set) seen.enough;
            least = omega arith;
            last_below = fold_below;
            rest = λ j l. ap (λ (xs : List ℕ). get_or xs j 0) e ∙ get_or-set_other ids kept j id 0 (λ eq. omega arith) ∙ seen.rest j (omega arith);
            order = falls.1;
            picked = rw (front, one_more, f, value) (kept_new seen.picked id fold_below fold_inside (sym told ∙ passed));
          }

      pub fold_same : r ≡ false → {ids' ranks' : List ℕ} {kept' : ℕ} → ids' ≡ ids → kept' ≡ kept → ranks' ≡ set ranks id (kept' - 1)
          → FoldSeen names ids₀ ids' ranks₀ ranks' id kept' (i + 1)
      fold_same failed {ids'} {ranks'} {kept'} e still f =
          let fewer : kept ≤ i = seen.few in
          let size : length (take kept ids) ≡ kept = length-take-le kept ids (omega arith) in
          let equal : get_or names last [] ≡ get_or names id [] =
          before_total (get_or names last []) (get_or names id []) (sym told ∙ failed) (not-true (before (get_or names id []) (get_or names last [])) falls.0) in
          let value : kept' - 1 ≡ length (take kept ids) - 1 = omega arith in
          record {
            far = let h = there in omega arith;
            few = omega arith;
            size = ap length e ∙ seen.size;
            room = ap length f ∙ length-set ranks id (kept' - 1) ∙ seen.room;
            enough = rw (f, length-set) seen.enough;
            least = let more = seen.least in omega arith;
            last_below = fold_below;
            rest = λ j l. ap (λ (xs : List ℕ). get_or xs j 0) e ∙ seen.rest j (omega arith);
            order = falls.1;
            picked = rw (one_more, f, value, e, still) (kept_same seen.picked id fold_below fold_inside equal);
          }

  pub fold_done : length ids ≤ i → Folded names ids₀ ids ranks kept
  fold_done past =
      let all_seen : take i ids₀ ≡ ids₀ = take_all i ids₀ (let size = seen.size in omega arith) in
      let picked : Kept names ids₀ (take kept ids) ranks last = rw all_seen at seen.picked in
      record {
        few = let fewer = seen.few in let far = seen.far in omega arith;
        size = seen.size;
        within = picked.within;
        rise = picked.rise;
        all = picked.all;
        right = picked.right;
      }
