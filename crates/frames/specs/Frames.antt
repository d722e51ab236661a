-- A frame at a place of some bytes: its piece, and where it ends.
use Rattle.std.specs.Prelude.{◌&&◌, List, ℕ, ◌+◌, leb, length, Option, Some}
use Rattle.numbers.specs.Little.{number_at}
use Rattle.paper.specs.Framing.{Piece}
use Rattle.paper.specs.Words.{at, part, given}

-- Where the frame that starts at a place ends: behind its tag, its two-byte length and its body.
abbrev pub end_at : List ℕ → (place : ℕ) → ℕ
end_at s place = place + 3 + number_at s (place + 1) 2

-- The same, if it fits.
unfoldable pub frame_end : List ℕ → (place : ℕ) → Option ℕ
frame_end s place = given (leb (place + 3) (length s) && leb (end_at s place) (length s)) (Some (end_at s place))

-- The piece of a frame from a place to its end.
abbrev pub piece_in : List ℕ → (place end : ℕ) → Piece
piece_in s place end = record { tag = at s place; body = part s (place + 3) end }
