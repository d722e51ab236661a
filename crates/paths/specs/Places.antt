-- The position of a name among the names of an object's fields, and lawful bytes.
use Rattle.std.specs.Prelude.{true, cond, List, [], ◌∷◌, ◌≡◌, ℕ, suc, ◌≤◌, length}
use Rattle.paper.specs.Bounds.{most_walked}
use Rattle.paper.specs.Words.{same, is_there}
use Rattle.paper.specs.Metadata.{Dictionary}
use Rattle.paper.specs.Values.{meaning_of}

-- How many names come before the first that is the given one.
unfoldable pub position_in : List ℕ → List (List ℕ) → ℕ
position_in name [] = 0
position_in name (first ∷ more) = cond (same first name) 0 (suc (position_in name more))

-- Bytes that are a lawful value within some levels, and not too long.
pub record LawfulIn (names : Dictionary) (s : List ℕ) : Type 0 where
  pub levels : ℕ
  pub meant : is_there (meaning_of levels names s) ≡ true
  pub small : length s ≤ most_walked
