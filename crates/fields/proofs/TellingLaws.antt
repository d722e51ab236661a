-- What a table tells of a node, it tells of the nodes and fields inside; and a field that stands has its entry in it.
use mathlib.Core.List.{List}
use Prim.Native.Nat.{ℕ, ◌+◌, ◌/◌, ◌≤◌, ◌<◌}
use native.Mathlib.Omega.{arith}
use lib.ListN.{length}
use Rattle.fields.proofs.EntryLaws.{entry_there}
use Rattle.fields.specs.Telling.{entry_place, looked_at, Told, list_told, object_told, FieldsTold, field_told}
use Rattle.lookup.specs.Looking.{Tells}
use Rattle.paper.specs.Metadata.{Dictionary}
use Rattle.paper.specs.Schemas.{Schema, list, fields, SchemaFields, named}
use Rattle.schemas.proofs.FieldsStandLaws.{FieldStands}
use Rattle.schemas.specs.Frames.{frame_end}
use Rattle.schemas.specs.Positions.{field_node}

-- A field, its node, and the fields behind it.
pub record FirstTold (names : Dictionary) (s table : List ℕ) (name : List ℕ) (node : Schema) (more : SchemaFields) (place : ℕ) : Type 0 where
  pub here : Tells names name (looked_at table place)
  pub inside : Told names s table node (field_node s place)
  pub behind : FieldsTold names s table more (frame_end s place)

module _ {names : Dictionary} {s table : List ℕ} {place : ℕ} where
  pub element_told : {element : Schema} → Told names s table (list element) place → Told names s table element (place + 3)
  element_told (list_told inside) = inside

  pub fields_told : {columns : SchemaFields} → Told names s table (fields columns) place → FieldsTold names s table columns (place + 3)
  fields_told (object_told inside) = inside

  pub field_told_lem : {name : List ℕ} {node : Schema} {more : SchemaFields} → FieldsTold names s table (named name node more) place → FirstTold names s table name node more place
  field_told_lem (field_told here inside behind) = record { here = here; inside = inside; behind = behind }

-- ---- a field's entry

module _ {levels : ℕ} {s : List ℕ} {place to : ℕ} {name : List ℕ} {node : Schema} {more : SchemaFields} (stands : FieldStands levels s place to name node more) where
  pub field_room : place + 9 ≤ length s
  field_room = let inside = stands.inside in let within = inside.within in omega arith

  pub field_in_table : (table : List ℕ) → length s / 9 ≤ length table → entry_place place < length table
  field_in_table table room = entry_there place (length s) (length table) field_room room
