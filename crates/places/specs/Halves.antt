-- The two frames of a row: its metadata's and its outermost place's.
use Rattle.std.specs.Prelude.{List, [], ◌∷◌, ℕ, ◌+◌, length, Option, None, Some}
use Rattle.paper.specs.Framing.{Piece, pieces_of}
use Rattle.paper.specs.Words.{and_then}

unfoldable pub middle_in : List Piece → Option ℕ
middle_in [] = None
middle_in (first ∷ []) = None
middle_in (first ∷ second ∷ []) = Some (3 + length first.body)
middle_in (first ∷ second ∷ third ∷ more) = None

-- Where the first frame ends, in bytes of two frames.
unfoldable pub middle_of : List ℕ → Option ℕ
middle_of s = and_then (pieces_of s) middle_in
