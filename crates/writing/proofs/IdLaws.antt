-- The normal ids of some ids: the largest of them, and they written one after another.
use mathlib.Core.Bool.{true}
use mathlib.Core.List.{List, [], ◌∷◌, ◌++◌}
use mathlib.Core.Path.{◌≡◌, refl, sym, ap, ◌∙◌}
use Prim.Native.Nat.{ℕ, suc, ◌+◌, ◌-◌, ◌*◌, ◌^◌, ◌≤◌, ◌<◌, max}
use native.Mathlib.Nat.{suc-mul}
use native.Mathlib.Omega.{arith}
use lib.ListN.{length, get_or, drop, length-map}
use mir.Syntax.{w64}
use mir.Val.{Fits}
use Rattle.numbers.specs.Little.{number_bytes, put_at}
use Rattle.paper.specs.Normal.{largest, numbers_bytes}
use Rattle.paper.specs.Words.{all_below}
use Rattle.writing.specs.Ends.{EndsAt}
use Rattle.writing.specs.Rewritten.{ranks_at}
use Rattle.runs.proofs.NumbersRunLaws.{below_at, next_number, no_more}
use Rattle.names.proofs.RunLaws.{numbers_bytes-length}
use Rattle.numbers.proofs.NumberLaws.{length-number_bytes}
use Rattle.numbers.proofs.PutLaws.{put_none, put_run, length_put}
use Rattle.writing.proofs.EndLaws.{put_ends}

-- An id of some that are in the table.
pub id_inside : (ranks ids : List ℕ) (i : ℕ) → all_below (length ranks) ids ≡ true → i < length ids → (n : ℕ) → n ≡ get_or ids i 0 → n < length ranks
id_inside ranks ids i below h n is = rw is (below_at (length ranks) ids i below h)

-- The next normal id.
rank_next : (ranks ids : List ℕ) {i : ℕ} → i < length ids → (n : ℕ) → n ≡ get_or ids i 0 → (r : ℕ) → r ≡ get_or ranks n 0
    → ranks_at ranks (drop i ids) ≡ r ∷ ranks_at ranks (drop (i + 1) ids)
unfolding ranks_at
rank_next ranks ids {i} h n is r rank = ap (λ (l : List ℕ). ranks_at ranks l) (next_number ids i h n is) ∙ rw rank

rank_ended : (ranks ids : List ℕ) {i : ℕ} → length ids ≤ i → ranks_at ranks (drop i ids) ≡ []
unfolding ranks_at
rank_ended ranks ids {i} past = ap (λ (l : List ℕ). ranks_at ranks l) (no_more ids i past)

pub ranks_length : (ranks ids : List ℕ) → length (ranks_at ranks ids) ≡ length ids
unfolding ranks_at
ranks_length ranks ids = length-map ids (λ (n : ℕ). get_or ranks n 0)

-- ---- the largest

-- After i ids: the largest of all is that of what was seen and what is left.
abbrev pub LargestSeen : (ranks ids : List ℕ) (i most : ℕ) → Type 0
LargestSeen ranks ids i most = largest (ranks_at ranks ids) ≡ max most (largest (ranks_at ranks (drop i ids)))

pub largest_start : (ranks ids : List ℕ) → LargestSeen ranks ids 0 0
largest_start ranks ids = sym (omega arith)

module _ (ranks ids : List ℕ) (i most : ℕ) (seen : LargestSeen ranks ids i most) where
  pub largest_next : i < length ids → (n : ℕ) → n ≡ get_or ids i 0 → (r : ℕ) → r ≡ get_or ranks n 0 → (now-most : ℕ) → now-most ≡ max most r
      → LargestSeen ranks ids (i + 1) now-most
  unfolding largest
  largest_next h n is r rank now-most larger =
      let left : ℕ = largest (ranks_at ranks (drop (i + 1) ids)) in
      let all : largest (ranks_at ranks ids) ≡ max most (max r left) =
      seen ∙ ap (λ (l : List ℕ). max most (largest l)) (rank_next ranks ids h n is r rank) in
      omega arith

  pub largest_done : length ids ≤ i → most ≡ largest (ranks_at ranks ids)
  unfolding largest
  largest_done past =
      let all : largest (ranks_at ranks ids) ≡ max most 0 = seen ∙ ap (λ (l : List ℕ). max most (largest l)) (rank_ended ranks ids past) in
      omega arith

-- ---- written

-- After i ids: what is left is to be put behind what was put.
pub record IdsSeen (ranks ids out₀ out : List ℕ) (width start end to i : ℕ) : Type 0 where
  pub same_size : length out ≡ length out₀
  pub size : start + length ids * width ≡ end
  pub to_is : to + (length ids - i) * width ≡ end
  pub whole : put_at out₀ start (numbers_bytes width (ranks_at ranks ids)) ≡ put_at out to (numbers_bytes width (ranks_at ranks (drop i ids)))

pub ids_start : (ranks ids out : List ℕ) (width end : ℕ) → length ids * width ≤ end
    → IdsSeen ranks ids out out width (end - length ids * width) end (end - length ids * width) 0
ids_start ranks ids out width end fits =
    let all : length ids - 0 ≡ length ids = omega arith in
    record { same_size = refl; size = omega arith; to_is = rw all (omega arith); whole = refl }

module _ {ranks ids out₀ out : List ℕ} {width start end to i : ℕ}
    (seen : IdsSeen ranks ids out₀ out width start end to i) (within : end ≤ length out₀) where
  module _ (h : i < length ids) where
    to_next : to + width + (length ids - (i + 1)) * width ≡ end
    to_next =
        let one : length ids - i ≡ suc (length ids - (i + 1)) = omega arith in
        let more : (length ids - i) * width ≡ (length ids - (i + 1)) * width + width = rw (one, suc-mul) in
        let is = seen.to_is in
        omega arith

    pub to_there : to + width ≤ length out
    to_there = let next = to_next in let same = seen.same_size in omega arith

    pub to_fits : length out₀ < 2 ^ 64 → Fits w64 (to + width)
    to_fits small = let next = to_next in record { fits = omega arith }

    pub ids_next : (n : ℕ) → n ≡ get_or ids i 0 → (r : ℕ) → r ≡ get_or ranks n 0 → {after : List ℕ} → after ≡ put_at out to (number_bytes width r)
        → IdsSeen ranks ids out₀ after width start end (to + width) (i + 1)
    ids_next n is r rank {after} put =
        let left : List ℕ = numbers_bytes width (ranks_at ranks (drop (i + 1) ids)) in
        let size : length (number_bytes width r) ≡ width = length-number_bytes width r in
        let room : to + length (number_bytes width r) ≤ length out = rw size to_there in
        let split : numbers_bytes width (ranks_at ranks (drop i ids)) ≡ number_bytes width r ++ left =
        ap (numbers_bytes width) (rank_next ranks ids h n is r rank) ∙ unfold numbers_bytes in refl in
        let run : put_at (put_at out to (number_bytes width r)) (to + width) left ≡ put_at out to (number_bytes width r ++ left) =
        rw size at (put_run out to (number_bytes width r) left room) in
        record {
          same_size = rw put (length_put out to (number_bytes width r) room) ∙ seen.same_size;
          size = seen.size;
          to_is = to_next;
          whole = seen.whole ∙ ap (put_at out to) split ∙ sym run ∙ ap (λ (l : List ℕ). put_at l (to + width) left) (sym put);
        }

  pub ids_done : length ids ≤ i → EndsAt (numbers_bytes width (ranks_at ranks ids)) out₀ out end start
  ids_done past =
      let done : put_at out to (numbers_bytes width (ranks_at ranks (drop i ids))) ≡ out =
      ap (λ (l : List ℕ). put_at out to (numbers_bytes width l)) (rank_ended ranks ids past) ∙ unfold numbers_bytes in put_none out to in
      put_ends out₀ (numbers_bytes width (ranks_at ranks ids)) start (sym (seen.whole ∙ done)) (rw (numbers_bytes-length, ranks_length ranks ids) seen.size)
