-- A value that is a scalar and its own normal form, by its first byte and its length.
use Rattle.std.specs.Prelude.{Bool, not, ◌&&◌, ◌||◌, List, ℕ, ◌%◌, ltb, eqb, length}
use Rattle.paper.specs.Words.{at}

-- A primitive or a short string, and no string of at most 63 bytes that has its length in front, `40`.
unfoldable pub stands_alone : List ℕ → Bool
stands_alone s = ltb (at s 0 % 4) 2 && (not (eqb (at s 0) 0x40) || ltb 68 (length s))
