-- "All numbers are little-endian" (01): a number and the bytes that hold it, the lowest byte first.
use Rattle.std.specs.Prelude.{cond, List, [], ◌∷◌, ◌++◌, ℕ, zero, suc, ◌+◌, ◌*◌, ◌/◌, ◌%◌, ltb, length, take, drop}

-- The number that bytes hold.
unfoldable pub number : List ℕ → ℕ
number [] = 0
number (byte ∷ rest) = byte + 256 * number rest

-- The bytes of a number, as many as the width says. Of a number that needs more, the lowest ones.
unfoldable pub number_bytes : ℕ → ℕ → List ℕ
number_bytes zero n = []
number_bytes (suc width) n = n % 256 ∷ number_bytes width (n / 256)

-- The number of `width` bytes that stands at a place.
unfoldable pub number_at : List ℕ → ℕ → ℕ → ℕ
number_at bytes place width = number (take width (drop place bytes))

-- The bytes with others put over them from a place on; all before and after keep their values.
unfoldable pub put_at : List ℕ → ℕ → List ℕ → List ℕ
put_at bytes place new = take place bytes ++ (new ++ drop (place + length new) bytes)

-- The smallest width, one byte at least, that holds a number: one byte, or one more than what is left above it needs.
-- It looks at `more` further bytes.
unfoldable pub width_within : ℕ → ℕ → ℕ
width_within zero n = 1
width_within (suc more) n = cond (ltb n 256) 1 (suc (width_within more (n / 256)))

-- The smallest of the widths one to four.
unfoldable pub smallest_width : ℕ → ℕ
smallest_width n = width_within 3 n
