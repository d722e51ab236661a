-- What the walkers of a row stand on: a node of a good schema, and the table that tells of its fields.
use Rattle.dictionary.specs.declared.ids.InputId.{InputId}
use Rattle.std.specs.Prelude.{Bool, true, false, List, ◌≡◌, ℕ, ◌/◌, ◌≤◌, length, Option, Some, None}
use Rattle.fields.specs.Telling.{Told, FieldsTold}
use Rattle.paper.specs.Metadata.{Dictionary}
use Rattle.paper.specs.Rows.{leftover_meaning}
use Rattle.paper.specs.Schemas.{Schema, SchemaFields}
use Rattle.paper.specs.Words.{is_there}
use Rattle.schemas.specs.Positions.{Stands, FieldsStand}

-- A node stands at a position, with so many levels left.
pub record NodeReady (levels : ℕ) (names : Dictionary) (schema table : List ℕ) (place : ℕ) : Type 0 where
  pub tabled : length schema / 9 ≤ length table
  pub node : Schema
  pub stands : Stands levels schema place node
  pub told : Told names schema table node place

-- Fields stand between two positions.
pub record FieldsReady (levels : ℕ) (names : Dictionary) (schema table : List ℕ) (from to : ℕ) : Type 0 where
  pub tabled : length schema / 9 ≤ length table
  pub columns : SchemaFields
  pub stand : FieldsStand levels schema from to columns
  pub told : FieldsTold names schema table columns from

-- Some node stands at a position.
pub record LeftReady (levels : ℕ) (schema : List ℕ) (place : ℕ) : Type 0 where
  pub node : Schema
  pub stands : Stands levels schema place node

-- The same, and a leftover is a lawful value.
pub record BesideReady (names : Dictionary) (schema : List ℕ) (place : ℕ) (left : List ℕ) : Type 0 where
  pub levels : ℕ
  pub node : Schema
  pub stands : Stands levels schema place node
  pub meant : is_there (leftover_meaning levels names left) ≡ true

-- No id has the name.
unfoldable pub is_nowhere : Option InputId → Bool
is_nowhere (Some id) = false
is_nowhere None = true
