-- The frames of a place put around what stands in a room, and a value under a column, by its first byte.
use Rattle.std.specs.Prelude.{Bool, true, cond, List, [], ◌∷◌, ◌≡◌, ℕ, ◌≤◌, ◌<◌, eqb, length, drop}
use Rattle.numbers.specs.Little.{number_bytes}
use Rattle.paper.specs.FirstBytes.{reading_of}
use Rattle.paper.specs.Framing.{frame}
use Rattle.paper.specs.Limits.{most_value}
use Rattle.paper.specs.Words.{at}
use Rattle.paper.specs.declared.Reading.{Reading}
use Rattle.paper.specs.declared.Reading.TheVariants.{Fixed, Prefixed, Short, ObjectHead, ArrayHead, Nothing}

-- The head of a frame whose body is so long.
unfoldable pub frame_head : (tag size : ℕ) → List ℕ
frame_head tag size = tag ∷ number_bytes 2 size

-- A place of one part.
unfoldable pub place_of : (tag : ℕ) → List ℕ → List ℕ
place_of tag body = frame 0x50 (frame tag body)

-- A value under a column of a type code: a cell if its type is the column's, else a leftover.
unfoldable pub typed_if : Bool → (cell value : List ℕ) → List ℕ
typed_if takes cell value = cond takes (place_of 0x42 cell) (place_of 0x41 value)

-- A boolean's code is 1, and types 1 and 2 are true and false.
unfoldable pub fixed_place : (code kind : ℕ) → List ℕ → List ℕ
fixed_place code kind s =
    cond (eqb code 1)
    (cond (eqb kind 1) (place_of 0x42 (0x01 ∷ [])) (cond (eqb kind 2) (place_of 0x42 (0x00 ∷ [])) (place_of 0x41 s)))
    (typed_if (eqb code kind) (drop 1 s) s)

-- A string or binary stands without its length in a cell.
unfoldable pub column_place : (code : ℕ) → Reading → List ℕ → List ℕ
column_place code (Fixed kind size) s = fixed_place code kind s
column_place code (Prefixed kind) s = typed_if (eqb code kind) (drop 5 s) s
column_place code (Short size) s = typed_if (eqb code 16) (drop 1 s) s
column_place code (ObjectHead counted id width) s = place_of 0x41 s
column_place code (ArrayHead counted width) s = place_of 0x41 s
column_place code Nothing s = place_of 0x41 s

-- A value whose first byte, and length if it has one, are there.
pub record Headed (s : List ℕ) : Type 0 where
  pub first : 1 ≤ length s
  pub prefix : (kind : ℕ) → reading_of (at s 0) ≡ Prefixed kind → 5 ≤ length s
  pub short : length s ≤ most_value
