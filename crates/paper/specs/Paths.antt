-- Paths and find (01): steps `60` name or `61` two-byte index, both framed.
use Rattle.std.specs.Prelude.{cond, ◌&&◌, List, [], ◌∷◌, ℕ, zero, suc, ◌+◌, eqb, length, Option, None, Some}
use Rattle.numbers.specs.Little.{number, number_at}
use Rattle.paper.specs.Words.{at, given, and_then, same}
use Rattle.paper.specs.Metadata.{Dictionary}
use Rattle.paper.specs.FirstBytes.{reading_of}
use Rattle.paper.specs.declared.Reading.{Reading}
use Rattle.paper.specs.declared.Reading.TheVariants.{Fixed, Prefixed, Short, ObjectHead, ArrayHead, Nothing}
use Rattle.paper.specs.Values.{child_bytes, head_size_of, members_of, elements_of, names_at, ids_of}
use Rattle.paper.specs.declared.Child.{Child}
use Rattle.paper.specs.Framing.{Piece, pieces_of}
use Rattle.paper.specs.Standing.{Step, by_name, by_index}

unfoldable pub step_of : Piece → Option Step
step_of piece =
    cond (eqb piece.tag 0x60) (Some (by_name piece.body))
    (given (eqb piece.tag 0x61 && eqb (length piece.body) 2) (Some (by_index (number piece.body))))

unfoldable pub steps_of : List Piece → Option (List Step)
steps_of [] = Some []
steps_of (piece ∷ more) = and_then (step_of piece) λ step. and_then (steps_of more) λ steps. Some (step ∷ steps)

-- A lent path, if it keeps its rules.
unfoldable pub path_of : List ℕ → Option (List Step)
path_of s = and_then (pieces_of s) steps_of

-- ---- find, in a lawful value

unfoldable pub child_named : List ℕ → List (List ℕ) → List Child → Option Child
child_named name [] children = None
child_named name (first ∷ names) [] = None
child_named name (first ∷ names) (child ∷ more) = cond (same first name) (Some child) (child_named name names more)

unfoldable pub child_number : ℕ → List Child → Option Child
child_number index [] = None
child_number zero (child ∷ more) = Some child
child_number (suc index) (child ∷ more) = child_number index more

-- A child of the area as a part of its container.
unfoldable pub behind_head : ℕ → Child → Child
behind_head head child = record { start = head + child.start; size = child.size }

-- A name leads into an object that has it.
unfoldable pub into_field : Dictionary → List ℕ → Reading → List ℕ → Option Child
into_field names name (ObjectHead count id offset) s =
    and_then (members_of names count id offset s) λ children.
    and_then (child_named name (names_at names (ids_of count id s)) children) λ child.
    Some (behind_head (head_size_of (number_at s 1 count) count id offset) child)
into_field names name (ArrayHead count offset) s = None
into_field names name (Fixed type size) s = None
into_field names name (Prefixed type) s = None
into_field names name (Short size) s = None
into_field names name Nothing s = None

-- An index leads into an array that is long enough.
unfoldable pub into_element : ℕ → Reading → List ℕ → Option Child
into_element index (ArrayHead count offset) s =
    and_then (elements_of count offset s) λ children.
    and_then (child_number index children) λ child.
    Some (behind_head (head_size_of (number_at s 1 count) count 0 offset) child)
into_element index (ObjectHead count id offset) s = None
into_element index (Fixed type size) s = None
into_element index (Prefixed type) s = None
into_element index (Short size) s = None
into_element index Nothing s = None

unfoldable pub step_into : Dictionary → Step → List ℕ → Option Child
step_into names (by_name name) s = into_field names name (reading_of (at s 0)) s
step_into names (by_index index) s = into_element index (reading_of (at s 0)) s

-- Where a path leads from a value that starts at a place: a start and a length, or nowhere (wrong kind, no such name,
-- past the end). The empty path is the whole value.
unfoldable pub find_from : Dictionary → List Step → (place : ℕ) → List ℕ → Option Child
find_from names [] place s = Some (record { start = place; size = length s })
find_from names (step ∷ more) place s =
    and_then (step_into names step s) λ child. find_from names more (place + child.start) (child_bytes s child)
