-- "A lot's box is four doubles named east, north, south and west" (01, Two readers).
use Rattle.std.specs.Prelude.{Bool, true, false, ◌&&◌, List, [], ◌∷◌, ℕ, eqb, Float, Option, None, Some}
use Rattle.std.specs.Float.Ieee.{of_bits, le}
use Rattle.std.specs.Float.{binary64}
use Rattle.numbers.specs.Little.{number}
use Rattle.paper.specs.Words.{given, and_then}
use Rattle.paper.specs.Meaning.{Scalar, boolean, payload, text, Doc, null, scalar, array, object, Fields}
use Rattle.paper.specs.Standing.{field_at}
use Rattle.paper.specs.declared.LotBox.{LotBox}

-- The four names, in ASCII.
unfoldable pub east : List ℕ
east = 101 ∷ 97 ∷ 115 ∷ 116 ∷ []

unfoldable pub north : List ℕ
north = 110 ∷ 111 ∷ 114 ∷ 116 ∷ 104 ∷ []

unfoldable pub south : List ℕ
south = 115 ∷ 111 ∷ 117 ∷ 116 ∷ 104 ∷ []

unfoldable pub west : List ℕ
west = 119 ∷ 101 ∷ 115 ∷ 116 ∷ []

-- Type 7 is a double; its number is that of its bits.
unfoldable pub double_in : Scalar → Option Float
double_in (boolean b) = None
double_in (payload type s) = given (eqb type 7) (Some (of_bits binary64 (number s)))
double_in (text s) = None

unfoldable pub double_of : Doc → Option Float
double_of null = None
double_of (scalar s) = double_in s
double_of (array ds) = None
double_of (object fs) = None

unfoldable pub side : List ℕ → Fields → Option Float
side name fs = and_then (field_at name fs) double_of

-- All four are doubles, west ≤ east and south ≤ north; other fields are ignored. A NaN is in no order, so is no box.
unfoldable pub box_in : Fields → Option LotBox
box_in fs =
    and_then (side east fs) λ e.
    and_then (side north fs) λ n.
    and_then (side south fs) λ s.
    and_then (side west fs) λ w.
    given (le w e && le s n) (Some (record { east = e; north = n; south = s; west = w }))

-- The box of a document's outermost object.
unfoldable pub box_of : Doc → Option LotBox
box_of null = None
box_of (scalar s) = None
box_of (array ds) = None
box_of (object fs) = box_in fs
