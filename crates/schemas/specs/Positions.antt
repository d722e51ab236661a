-- A schema stays bytes: nodes and fields are known by the positions where they stand.
use Rattle.std.specs.Prelude.{Bool, true, ◌&&◌, ◌||◌, List, ◌≡◌, ℕ, ◌+◌, ◌≤◌, eqb, length, Option, Some}
use Rattle.order.specs.Before.{before}
use Rattle.paper.specs.Framing.{pieces_of, one_piece}
use Rattle.paper.specs.Metadata.{rising}
use Rattle.paper.specs.Schemas.{Schema, SchemaFields, column_names, field_nodes, fields_tag, node_by, node_of}
use Rattle.paper.specs.Words.{part, and_then}
use Rattle.schemas.specs.Frames.{frame_end, piece_at, tagged_within}

-- ---- a field: its name's frame opens its body, and its node stands behind the name

abbrev pub field_node : List ℕ → ℕ → ℕ
field_node s place = frame_end s (place + 3)

abbrev pub field_name : List ℕ → ℕ → List ℕ
field_name s place = (piece_at s (place + 3)).body

-- The frame of the field at a position is whole and ends at another at the latest, and so is that of its name in it.
unfoldable pub field_within : List ℕ → (place end : ℕ) → Bool
field_within s place end = tagged_within s place end 0x31 && tagged_within s (place + 3) (frame_end s place) 0x32

-- The field at a position is the first one, or its name comes behind that of the one before it.
unfoldable pub follows_at : List ℕ → (last place : ℕ) → Bool
follows_at s last place = eqb last place || before (field_name s last) (field_name s place)

-- ---- what the bytes between two positions are, with so many levels left

unfoldable pub node_in : (levels : ℕ) → List ℕ → (from to : ℕ) → Option Schema
node_in levels s from to = and_then (one_piece (part s from to)) (node_of levels)

unfoldable pub columns_in : (levels : ℕ) → List ℕ → (from to : ℕ) → Option SchemaFields
columns_in levels s from to = and_then (pieces_of (part s from to)) (field_nodes (node_of levels))

unfoldable pub object_in : (levels : ℕ) → List ℕ → (from to : ℕ) → Option Schema
object_in levels s from to = node_by (node_of levels) fields_tag (part s from to)

-- ---- what stands in a schema

-- A node, with so many levels left, stands at a position.
pub record Stands (levels : ℕ) (s : List ℕ) (place : ℕ) (node : Schema) : Type 0 where
  pub within : frame_end s place ≤ length s
  pub is : node_of levels (piece_at s place) ≡ Some node

-- Fields, their nodes with so many levels left, stand between two positions.
pub record FieldsStand (levels : ℕ) (s : List ℕ) (from to : ℕ) (columns : SchemaFields) : Type 0 where
  pub ordered : from ≤ to
  pub within : to ≤ length s
  pub are : columns_in levels s from to ≡ Some columns
  pub rise : rising (column_names columns) ≡ true
