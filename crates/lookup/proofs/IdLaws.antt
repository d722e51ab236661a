-- The ids below a count: how many, which one stands where, whose names they are; and the loop that lists them.
use mathlib.Core.Bool.{Bool, true, false}
use mathlib.Core.List.{List, [], ◌∷◌, ◌++◌}
use mathlib.Core.Path.{◌≡◌, refl, sym, ap, ◌∙◌}
use Prim.Native.Nat.{ℕ, zero, suc, ◌+◌, ◌≤◌, ◌<◌}
use native.Mathlib.Numerals.{add-one}
use native.Mathlib.Omega.{arith}
use borrow.Author.Tests.{ltb-true, ltb-false}
use lib.Dec.{ltb}
use lib.ListN.{length, get_or, take, set, length-append, length-set, get_or-append}
use lib.Seq.{ext_get_or, get_or_at, take_all, take-suc-set}
use Rattle.paper.specs.Metadata.{Dictionary}
use Rattle.paper.specs.Values.{names_at}
use Rattle.paper.specs.Words.{all_below}
use Rattle.lookup.specs.Looking.{ids_below}
use Rattle.ranking.proofs.HeldLaws.{below_behind, names_length, names_place}

pub ids_length : (count : ℕ) → length (ids_below count) ≡ count
unfolding ids_below
ids_length zero = refl
ids_length (suc count) = rw length-append (let e = ids_length count in omega arith)

pub ids_at : (count i : ℕ) → i < count → get_or (ids_below count) i 0 ≡ i
unfolding ids_below
ids_at zero i h = absurd (omega arith)
ids_at (suc count) i h = go (ltb i count) refl (ids_at count i)
  where
    size : length (ids_below count) ≡ count
    size = ids_length count

    go : (b : Bool) → ltb i count ≡ b → (i < count → get_or (ids_below count) i 0 ≡ i) → get_or (ids_below count ++ (count ∷ [])) i 0 ≡ i
    go true e rest =
        let count_of = size in
        let lower = ltb-true i count e in
        get_or-append (ids_below count) (count ∷ []) 0 i (omega arith) ∙ rest lower
    go false e rest =
        let upper = ltb-false i count e in
        let last : count ≡ i = omega arith in
        get_or_at (ids_below count) count [] 0 i (size ∙ last) ∙ last

pub ids_below_lem : (count bound : ℕ) → count ≤ bound → all_below bound (ids_below count) ≡ true
unfolding ids_below all_below
ids_below_lem zero bound h = refl
ids_below_lem (suc count) bound h = below_behind bound (ids_below count) count (ids_below_lem count bound (omega arith)) (omega arith)

-- The names of all ids are the dictionary.
pub names_all : (names : Dictionary) (count : ℕ) → length names ≡ count → names_at names (ids_below count) ≡ names
names_all names count size =
    let ids : length (ids_below count) ≡ count = ids_length count in
    let all : length (names_at names (ids_below count)) ≡ length (ids_below count) = names_length names (ids_below count) in
    ext_get_or [] (names_at names (ids_below count)) names (omega arith) λ i h.
    names_place names (ids_below count) i (omega arith) ∙ ap (λ (id : ℕ). get_or names id []) (ids_at count i (omega arith))

-- ---- the loop that lists them

-- After i ids.
pub record ListSeen (before after : List ℕ) (i : ℕ) : Type 0 where
  pub far : i ≤ length before
  pub size : length after ≡ length before
  pub front : take i after ≡ ids_below i

pub list_start : (ids : List ℕ) → ListSeen ids ids 0
unfolding ids_below
list_start ids = record { far = omega arith; size = refl; front = refl }

module _ {before after : List ℕ} {i : ℕ} (listed : ListSeen before after i) where
  pub list_next : i < length after → {next : List ℕ} → next ≡ set after i i → ListSeen before next (i + 1)
  unfolding ids_below
  list_next h {next} e =
      let size : length after ≡ length before = listed.size in
      record {
        far = omega arith;
        size = ap length e ∙ length-set after i i ∙ size;
        front = rw (e, add-one, take-suc-set after i i h, listed.front);
      }

  pub list_done : length after ≤ i → after ≡ ids_below (length before)
  list_done h =
      let size : length after ≡ length before = listed.size in
      let far : i ≤ length before = listed.far in
      let all : i ≡ length before = omega arith in
      sym (take_all i after h) ∙ listed.front ∙ ap ids_below all
