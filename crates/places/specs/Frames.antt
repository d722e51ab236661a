-- The frame of an inner place: tag `50`, and it fits.
use Rattle.std.specs.Prelude.{List, ℕ, eqb, Option}
use Rattle.frames.specs.Frames.{frame_end}
use Rattle.paper.specs.Words.{at, given}

unfoldable pub place_end : List ℕ → (place : ℕ) → Option ℕ
place_end s place = given (eqb (at s place) 0x50) (frame_end s place)
