-- A frame of a tag, as it is tested.
use mathlib.Core.Bool.{true, false}
use mathlib.Core.List.{List}
use mathlib.Core.Path.{◌≡◌}
use Prim.Native.Nat.{ℕ, ◌+◌, ◌-◌, ◌≤◌, ◌<◌}
use native.Mathlib.Omega.{arith}
use borrow.Author.Tests.{le-leb, lt-leb, eqb-true}
use lib.Dec.{eqb}
use Rattle.numbers.specs.Little.{number_at}
use Rattle.paper.specs.Words.{at}
use Rattle.paper.proofs.WordLaws.{and_both}
use Rattle.schemas.proofs.FramingLaws.{frame_ends}
use Rattle.schemas.specs.Frames.{frame_end, frame_within, tagged_within}

-- ---- a frame of a tag

module _ (s : List ℕ) (place end tag : ℕ) (ordered : place ≤ end) where
  pub tagged_short : end - place < 3 → false ≡ tagged_within s place end tag
  unfolding tagged_within frame_within
  tagged_short h = rw (lt-leb (place + 3) end (omega arith))

  module _ (head : 3 ≤ end - place) (size : ℕ) (is : size ≡ number_at s (place + 1) 2) where
    pub tagged_cut : end - (place + 3) < size → false ≡ tagged_within s place end tag
    unfolding tagged_within frame_within
    tagged_cut h = rw (le-leb (place + 3) end (omega arith), lt-leb (frame_end s place) end (omega arith))

    pub tagged_is : size ≤ end - (place + 3) → eqb (at s place) tag ≡ tagged_within s place end tag
    unfolding tagged_within frame_within
    tagged_is h = rw (le-leb (place + 3) end (omega arith), le-leb (frame_end s place) end (omega arith))

-- What a frame that passed has.
pub tagged_ends : (s : List ℕ) (place end tag : ℕ) → tagged_within s place end tag ≡ true → frame_end s place ≤ end
unfolding tagged_within
tagged_ends s place end tag e = frame_ends s place end (and_both (frame_within s place end) (eqb (at s place) tag) e).0

pub tagged_tag : (s : List ℕ) (place end tag : ℕ) → tagged_within s place end tag ≡ true → at s place ≡ tag
unfolding tagged_within
tagged_tag s place end tag e = eqb-true (at s place) tag (and_both (frame_within s place end) _ e).1
