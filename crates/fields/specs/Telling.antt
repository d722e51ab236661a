-- A table that tells of each schema field which id its name has in a dictionary, by the field's position in the schema.
use Rattle.dictionary.specs.declared.ids.InputId.{InputId}
use Rattle.std.specs.Prelude.{Bool, true, false, List, ◌≡◌, ℕ, zero, suc, ◌+◌, ◌/◌, get_or, set, Option, Some, None}
use Rattle.lookup.specs.Looking.{Tells}
use Rattle.paper.specs.Metadata.{Dictionary}
use Rattle.paper.specs.Schemas.{Column, Schema, leftover_only, column, list, fields, SchemaFields, none_named, named}
use Rattle.schemas.specs.Frames.{frame_end}
use Rattle.schemas.specs.Positions.{field_node}

-- ---- entries

-- An entry is 0 where no id has the name, else one more than the id.
unfoldable pub entry_of : Option InputId → ℕ
entry_of (Some id) = id.0 + 1
entry_of None = 0

unfoldable pub looked_of : ℕ → Option InputId
looked_of zero = None
looked_of (suc id) = Some (record { 0 = id })

-- A field takes nine bytes at least, the heads of its own frame, its name's and its node's, so no two share an entry.
abbrev pub entry_place : (place : ℕ) → ℕ
entry_place place = place / 9

abbrev pub looked_at : (table : List ℕ) → (place : ℕ) → Option InputId
looked_at table place = looked_of (get_or table (entry_place place) 0)

-- ---- whether there are fields

-- A schema names fields where an object stands under its lists.
unfoldable pub names_fields : Schema → Bool
names_fields leftover_only = false
names_fields (column said) = false
names_fields (list element) = names_fields element
names_fields (fields columns) = true

-- ---- what a table tells

mutual
  -- Of each field of a node that stands at a position, and of each node inside it.
  pub data Told (names : Dictionary) (schema table : List ℕ) : Schema → (place : ℕ) → Type 0 where
    leftover_told : {place : ℕ} → Told names schema table leftover_only place
    column_told : {said : Column} {place : ℕ} → Told names schema table (column said) place
    list_told : {element : Schema} {place : ℕ} → Told names schema table element (place + 3) → Told names schema table (list element) place
    object_told : {columns : SchemaFields} {place : ℕ} → FieldsTold names schema table columns (place + 3) → Told names schema table (fields columns) place

  -- Of each of some fields: its name by its entry, its node behind its name, the next field behind both.
  pub data FieldsTold (names : Dictionary) (schema table : List ℕ) : SchemaFields → (place : ℕ) → Type 0 where
    none_told : {place : ℕ} → FieldsTold names schema table none_named place
    field_told : {name : List ℕ} {node : Schema} {more : SchemaFields} {place : ℕ} → Tells names name (looked_at table place)
        → Told names schema table node (field_node schema place) → FieldsTold names schema table more (frame_end schema place)
        → FieldsTold names schema table (named name node more) place

-- A table with one entry more: what it tells of a name.
pub record Noted (names : Dictionary) (name : List ℕ) (place : ℕ) (before after : List ℕ) : Type 0 where
  pub looked : Option InputId
  pub tells : Tells names name looked
  pub entered : after ≡ set before (entry_place place) (entry_of looked)
