-- A reading in one byte: its kind below 8, and above that its sizes. The type of a primitive and the size of a short
-- string are the six upper bits of the first byte itself.
use Rattle.std.specs.Prelude.{cond, List, ◌≡◌, ℕ, ◌+◌, ◌*◌, ◌/◌, ◌%◌, ◌<◌, eqb, length, get_or}
use Rattle.paper.specs.FirstBytes.{reading_of}
use Rattle.paper.specs.declared.Reading.{Reading}
use Rattle.paper.specs.declared.Reading.TheVariants.{Fixed, Prefixed, Short, ObjectHead, ArrayHead, Nothing}

unfoldable pub unpack : (first packed : ℕ) → Reading
unpack first packed =
    let rest = first / 4 in
    let size = packed / 8 in
    cond (eqb (packed % 8) 0) (Fixed rest size)
    (cond (eqb (packed % 8) 1) (Prefixed rest)
    (cond (eqb (packed % 8) 2) (Short rest)
    (cond (eqb (packed % 8) 3) (ObjectHead (1 + 3 * (size / 16)) (size / 4 % 4 + 1) (size % 4 + 1))
    (cond (eqb (packed % 8) 4) (ArrayHead (1 + 3 * (size / 4)) (size % 4 + 1)) Nothing))))

-- A table that has the reading of each first byte, packed, at its place.
pub record Packed (table : List ℕ) : Type 0 where
  pub all : length table ≡ 256
  pub says : (first : ℕ) → first < 256 → unpack first (get_or table first 0) ≡ reading_of first
