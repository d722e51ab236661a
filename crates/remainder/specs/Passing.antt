-- The fields of a node side by side with ids that rise: fields passed over on the way to an id name nothing from there on.
use Rattle.dictionary.specs.declared.ids.InputId.{InputId}
use Rattle.std.specs.Prelude.{Bool, true, false, ◌&&◌, List, ◌≡◌, ℕ, ◌≤◌, ◌<◌, leb, ltb, eqb, Option, Some, None}
use Rattle.fields.specs.Telling.{looked_at, FieldsTold}
use Rattle.paper.specs.Metadata.{Dictionary, rising}
use Rattle.paper.specs.Normal.{id_of}
use Rattle.paper.specs.Schemas.{SchemaFields, column_names}
use Rattle.paper.specs.Words.{among}
use Rattle.schemas.specs.Positions.{FieldsStand}

-- By what a table tells of a field: its id is so much at least, and it is this one.
unfoldable pub reaches_id : Option InputId → (id : ℕ) → Bool
reaches_id (Some found) id = leb id found.0
reaches_id None id = false

unfoldable pub is_id : Option InputId → (id : ℕ) → Bool
is_id (Some found) id = eqb found.0 id
is_id None id = false

-- The field at a position, if there is one, has an id.
unfoldable pub names_id : (table : List ℕ) → (place to id : ℕ) → Bool
names_id table place to id = ltb place to && is_id (looked_at table place) id

-- The fields between two positions, and a dictionary of which the table tells.
pub record Fielded (schema table : List ℕ) (from to : ℕ) : Type 0 where
  pub names : Dictionary
  pub columns : SchemaFields
  pub levels : ℕ
  pub rises : rising names ≡ true
  pub stand : FieldsStand levels schema from to columns
  pub told : FieldsTold names schema table columns from

-- Those from another position on name the same of all that has an id of so much at least.
pub record Skipped {schema table : List ℕ} {from to : ℕ} (fielded : Fielded schema table from to) (id place : ℕ) : Type 0 where
  pub more : SchemaFields
  pub stand : FieldsStand fielded.levels schema place to more
  pub told : FieldsTold fielded.names schema table more place
  pub alike : (name : List ℕ) → among name fielded.names ≡ true → id ≤ id_of fielded.names name
      → among name (column_names fielded.columns) ≡ among name (column_names more)

-- And the first of them has such an id.
pub record Passed {schema table : List ℕ} {from to : ℕ} (fielded : Fielded schema table from to) (id place : ℕ) : Type 0 where
  pub skipped : Skipped fielded id place
  pub high : place < to → reaches_id (looked_at table place) id ≡ true

-- Whatever the fields are, and the dictionary.
pub record AllPassed (schema table : List ℕ) (from to id place : ℕ) : Type 0 where
  pub each : (fielded : Fielded schema table from to) → Passed fielded id place
