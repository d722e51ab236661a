-- Members merged: in front of a typed one stand the leftover's whose normal ids are lower.
use mathlib.Core.Bool.{Bool, true, false, cond}
use mathlib.Core.List.{List, [], ◌∷◌, ◌++◌}
use mathlib.Core.Path.{◌≡◌, refl, ap}
use Prim.Native.Nat.{ℕ, zero, suc, ◌≤◌, ◌<◌}
use borrow.Author.Tests.{lt-ltb, le-ltb}
use lib.Dec.{ltb}
use lib.ListN.{get_or, drop}
use Rattle.rebuilt.specs.Members.{merge_into, merged_by}
use Rattle.noting.specs.Adding.{low_notes, high_notes}
use Rattle.noting.specs.Notes.{Note, note_rank, left_notes, member_notes}

-- ---- a note at a bound

module _ (ranks : List ℕ) (bound : ℕ) (note : Note) (notes : List Note) where
  module _ (below : note_rank ranks note < bound) where
    pub low_more : low_notes ranks bound (note ∷ notes) ≡ note ∷ low_notes ranks bound notes
    unfolding low_notes
    low_more = rw (lt-ltb (note_rank ranks note) bound below)

    pub high_more : high_notes ranks bound (note ∷ notes) ≡ high_notes ranks bound notes
    unfolding high_notes
    high_more = rw (lt-ltb (note_rank ranks note) bound below)

  module _ (above : bound ≤ note_rank ranks note) where
    pub low_over : low_notes ranks bound (note ∷ notes) ≡ []
    unfolding low_notes
    low_over = rw (le-ltb (note_rank ranks note) bound above)

    pub high_over : high_notes ranks bound (note ∷ notes) ≡ note ∷ notes
    unfolding high_notes
    high_over = rw (le-ltb (note_rank ranks note) bound above)

pub low_none : (ranks : List ℕ) (bound : ℕ) → low_notes ranks bound [] ≡ []
unfolding low_notes
low_none ranks bound = refl

pub high_none : (ranks : List ℕ) (bound : ℕ) → high_notes ranks bound [] ≡ []
unfolding high_notes
high_none ranks bound = refl

-- Below a bound above every normal id stand all.
pub low_all : (ranks : List ℕ) (bound : ℕ) → ((i : ℕ) → get_or ranks i 0 < bound) → (notes : List Note) → low_notes ranks bound notes ≡ notes
low_all ranks bound all [] = low_none ranks bound
low_all ranks bound all (note ∷ notes) =
    rw (low_more ranks bound note notes (unfold note_rank in all note.id), low_all ranks bound all notes)

-- ---- merged

pub merged_first : (ranks : List ℕ) (note : Note) (typed lefts : List Note)
    → member_notes ranks (note ∷ typed) lefts
    ≡ low_notes ranks (note_rank ranks note) lefts ++ (note ∷ member_notes ranks typed (high_notes ranks (note_rank ranks note) lefts))
unfolding member_notes merged_by merge_into low_notes high_notes
merged_first ranks note typed [] = refl
merged_first ranks note typed (left ∷ lefts) = go (ltb (note_rank ranks left) (note_rank ranks note)) (merged_first ranks note typed lefts)
  where
    go : (b : Bool)
        → merge_into (note_rank ranks) note (merged_by (note_rank ranks) typed) lefts
        ≡ low_notes ranks (note_rank ranks note) lefts ++ (note ∷ merged_by (note_rank ranks) typed (high_notes ranks (note_rank ranks note) lefts))
        → cond b (left ∷ merge_into (note_rank ranks) note (merged_by (note_rank ranks) typed) lefts) (note ∷ merged_by (note_rank ranks) typed (left ∷ lefts))
        ≡ cond b (left ∷ low_notes ranks (note_rank ranks note) lefts) []
        ++ (note ∷ merged_by (note_rank ranks) typed (cond b (high_notes ranks (note_rank ranks note) lefts) (left ∷ lefts)))
    go true behind = ap (λ (l : List Note). left ∷ l) behind
    go false behind = refl

pub merged_none : (ranks : List ℕ) (lefts : List Note) → member_notes ranks [] lefts ≡ lefts
unfolding member_notes merged_by
merged_none ranks lefts = refl

-- ---- a leftover's members from one on

pub left_drop : (i : ℕ) (ids starts : List ℕ) → drop i (left_notes ids starts) ≡ left_notes (drop i ids) (drop i starts)
unfolding left_notes
left_drop zero ids starts = refl
left_drop (suc i) [] starts = refl
left_drop (suc i) (id ∷ ids) [] = go (drop i ids)
  where
    go : (ids : List ℕ) → [] ≡ left_notes ids []
    go [] = refl
    go (id ∷ ids) = refl
left_drop (suc i) (id ∷ ids) (start ∷ starts) = left_drop i ids starts
