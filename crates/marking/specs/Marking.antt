-- What marking asks of bytes: they are lawful under a dictionary for whose names the table has room.
use Rattle.std.specs.Prelude.{true, List, [], ◌≡◌, ℕ, ◌≤◌, length, Option, None, Some}
use Rattle.paper.specs.Bounds.{most_walked}
use Rattle.paper.specs.Metadata.{Dictionary}
use Rattle.paper.specs.Values.{child_extent, children_at, child_bytes, meaning_of}
use Rattle.paper.specs.Words.{is_there}
use Rattle.values.specs.Insides.{child_good, insides_good}

-- Of a value, within so many levels, and a table of a size.
pub record Markable (levels : ℕ) (s : List ℕ) (size : ℕ) : Type 0 where
  pub names : Dictionary
  pub meant : is_there (meaning_of levels names s) ≡ true
  pub room : length names ≤ size
  pub small : length s ≤ most_walked

-- Of the child at a start.
pub record MarkableChild (levels : ℕ) (area : List ℕ) (start size : ℕ) : Type 0 where
  pub names : Dictionary
  pub good : child_good (meaning_of levels names) area start ≡ true
  pub room : length names ≤ size
  pub small : length area ≤ most_walked

-- Of a container's children, by its value area and their starts.
pub record MarkableInside (levels : ℕ) (area starts : List ℕ) (size : ℕ) : Type 0 where
  pub names : Dictionary
  pub good : insides_good (meaning_of levels names) area (children_at area starts) ≡ true
  pub room : length names ≤ size

-- The ids inside the child at a start, by what gives the ids inside one.
unfoldable pub ids_of_sized : (List ℕ → List ℕ) → List ℕ → (start : ℕ) → Option ℕ → List ℕ
ids_of_sized inner area start None = []
ids_of_sized inner area start (Some size) = inner (child_bytes area (record { start = start; size = size }))

unfoldable pub ids_at : (List ℕ → List ℕ) → List ℕ → (start : ℕ) → List ℕ
ids_at inner area start = ids_of_sized inner area start (child_extent area start)
