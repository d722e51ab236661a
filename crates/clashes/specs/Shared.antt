-- Names that two lists share.
use Rattle.std.specs.Prelude.{Bool, false, ◌||◌, List, [], ◌∷◌, ℕ}
use Rattle.paper.specs.Schemas.{SchemaFields}
use Rattle.paper.specs.Words.{among}
use Rattle.schemas.specs.Positions.{FieldsStand}

-- Some name of the first list is among the second.
unfoldable pub shared : List (List ℕ) → List (List ℕ) → Bool
shared [] ys = false
shared (x ∷ xs) ys = among x ys || shared xs ys

-- Some fields stand between two positions of a schema.
pub record SomeFields (s : List ℕ) (from to : ℕ) : Type 0 where
  pub levels : ℕ
  pub columns : SchemaFields
  pub stand : FieldsStand levels s from to columns
