-- The body of a place by its frames: `41`, `42`, both or neither.
use Rattle.std.specs.Prelude.{cond, ◌&&◌, List, [], ◌∷◌, ℕ, ◌+◌, eqb, length, Option, None, Some}
use Rattle.paper.specs.Framing.{Piece, pieces_of}
use Rattle.places.specs.declared.parts.Parts.{Parts}
use Rattle.places.specs.declared.parts.Parts.TheVariants.{Empty, Leftover, Typed, Both, Unframed}

-- One frame alone, by its tag.
unfoldable pub part_by : (tag : ℕ) → Parts
part_by tag = cond (eqb tag 0x41) Leftover (cond (eqb tag 0x42) Typed Unframed)

unfoldable pub parts_in : List Piece → Parts
parts_in [] = Empty
parts_in (first ∷ []) = part_by first.tag
parts_in (first ∷ second ∷ []) = cond (eqb first.tag 0x41 && eqb second.tag 0x42) (Both (3 + length first.body)) Unframed
parts_in (first ∷ second ∷ third ∷ more) = Unframed

unfoldable pub parts_by : Option (List Piece) → Parts
parts_by None = Unframed
parts_by (Some pieces) = parts_in pieces

-- Where there are both, the place where the leftover ends is told.
unfoldable pub parts_of : List ℕ → Parts
parts_of body = parts_by (pieces_of body)
