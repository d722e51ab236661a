-- The two halves of a run sorted one after the other where they stand, and merged: the run is sorted.
use mathlib.Core.Bool.{true}
use mathlib.Core.List.{List, [], ◌++◌, append-nil}
use mathlib.Core.Path.{◌≡◌, sym, ap, ◌∙◌}
use Prim.Native.Nat.{ℕ, ◌-◌, ◌/◌, ◌≤◌, ◌<◌}
use native.Mathlib.Omega.{arith}
use borrow.Rule.Slice.PartMut.{put_mid}
use lib.ListN.{length, take, drop, length-append, length-drop, take-append-drop, drop_of_length-le}
use lib.Seq.{length-take-le, take_at, drop_at}
use Rattle.paper.specs.Metadata.{Dictionary}
use Rattle.paper.specs.Words.{all_below}
use Rattle.ranking.specs.Merging.{merged}
use Rattle.ranking.specs.Ranks.{Sorted}
use Rattle.runs.proofs.NumbersRunLaws.{rest_is}
use Rattle.ranking.proofs.HeldLaws.{below_both, below_join}
use Rattle.ranking.proofs.SortLaws.{sort_few, sort_merged, sorted_below}

-- A run of no half is sorted.
pub sort_none : (names : Dictionary) (ids : List ℕ) → length ids / 2 ≡ 0 → Sorted names ids ids
sort_none names ids none = sort_few names ids (omega arith)

-- The first half is shorter than the run.
module _ (ids : List ℕ) (some : length ids / 2 ≡ 0 → ⊥) where
  pub first_size : length ids / 2 ≡ length (take (length ids / 2) ids)
  first_size = sym (length-take-le (length ids / 2) ids (omega arith))

  pub first_shorter : length (take (length ids / 2) ids) < length ids
  first_shorter = let size = first_size in omega arith

-- The first half is sorted and back in its place.
module _ (names : Dictionary) (ids : List ℕ) (half : ℕ) (h : half ≤ length ids) (a : List ℕ) (first : Sorted names (take half ids) a) where
  front_size : length a ≡ half
  front_size = first.size ∙ length-take-le half ids h

  -- The second half is what it was, ..
  second_is : take (length (a ++ drop half ids) - half) (drop half (a ++ drop half ids)) ≡ drop half ids
  second_is = rest_is (a ++ drop half ids) half ∙ drop_at a (drop half ids) half front_size

  pub second_below : (bound : ℕ) → all_below bound ids ≡ true
      → all_below bound (take (length (a ++ drop half ids) - half) (drop half (a ++ drop half ids))) ≡ true
  second_below bound below = rw second_is (below_both bound (take half ids) (drop half ids) (rw take-append-drop below)).1

  pub second_size : length (take (length (a ++ drop half ids) - half) (drop half (a ++ drop half ids))) ≡ length ids - half
  second_size = rw (second_is, length-drop)

  -- .. and sorted it comes behind the first.
  module _ (b : List ℕ) (second : Sorted names (take (length (a ++ drop half ids) - half) (drop half (a ++ drop half ids))) b) where
    whole : put_mid half (length (a ++ drop half ids) - half) (a ++ drop half ids) b ≡ a ++ b
    whole =
        let end : drop (length (a ++ drop half ids) - half) (drop half (a ++ drop half ids)) ≡ [] =
        drop_of_length-le (drop half (a ++ drop half ids)) {i = length (a ++ drop half ids) - half} (rw length-drop (omega arith)) in
        rw (end, append-nil, take_at a (drop half ids) half front_size)

    second_sorted : Sorted names (drop half ids) b
    second_sorted = rw second_is at second

    pub both_below : (bound : ℕ) → all_below bound ids ≡ true
        → all_below bound (put_mid half (length (a ++ drop half ids) - half) (a ++ drop half ids) b) ≡ true
    both_below bound below =
        let parts = below_both bound (take half ids) (drop half ids) (rw take-append-drop below) in
        rw whole (below_join bound a b (sorted_below names bound first parts.0) (sorted_below names bound second_sorted parts.1))

    pub both_size : length (put_mid half (length (a ++ drop half ids) - half) (a ++ drop half ids) b) ≡ length ids
    both_size =
        let size-a = front_size in
        let size-b : length b ≡ length (drop half ids) = second_sorted.size in
        rw (whole, length-append, size-b, length-drop) (omega arith)

    pub both_sorted : {after : List ℕ} → after ≡ merged names (take half (put_mid half (length (a ++ drop half ids) - half) (a ++ drop half ids) b))
        (drop half (put_mid half (length (a ++ drop half ids) - half) (a ++ drop half ids) b)) → Sorted names ids after
    both_sorted {after} e =
        let parts : after ≡ merged names a b =
        e ∙ ap (λ (l : List ℕ). merged names (take half l) (drop half l)) whole ∙ rw (take_at a b half front_size, drop_at a b half front_size) in
        let joined : Sorted names (take half ids ++ drop half ids) (merged names a b) = sort_merged names first second_sorted in
        let all : Sorted names ids (merged names a b) = rw take-append-drop at joined in
        rw parts all
