-- Framed pieces by the positions where they stand.
use Rattle.std.specs.Prelude.{Bool, ◌&&◌, List, ℕ, ◌+◌, leb, eqb}
use Rattle.frames.specs.Frames.{end_at, piece_in}
use Rattle.paper.specs.Framing.{Piece}
use Rattle.paper.specs.Words.{at}

-- Where the frame at a position ends, and its piece.
abbrev pub frame_end : List ℕ → ℕ → ℕ
frame_end s place = end_at s place

abbrev pub piece_at : List ℕ → ℕ → Piece
piece_at s place = piece_in s place (frame_end s place)

-- The frame at a position is whole, and ends at another at the latest.
unfoldable pub frame_within : List ℕ → (place end : ℕ) → Bool
frame_within s place end = leb (place + 3) end && leb (frame_end s place) end

unfoldable pub tagged_within : List ℕ → (place end tag : ℕ) → Bool
tagged_within s place end tag = frame_within s place end && eqb (at s place) tag
