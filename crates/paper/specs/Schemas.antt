-- Schema nodes (01): `00` empty body, leftover only; `10` one type code; `20` one element node; `30` one or more fields
-- `31`, each a name `32` and a node, names rising strictly.
use Rattle.std.specs.Prelude.{Bool, true, false, cond, ◌&&◌, ◌||◌, List, [], ◌∷◌, ℕ, zero, suc, leb, eqb, length, Option, None, Some}
use Rattle.paper.specs.Words.{at, given, and_then}
use Rattle.paper.specs.Limits.{most_levels}
use Rattle.paper.specs.Metadata.{rising}
use Rattle.paper.specs.Framing.{Piece, pieces_of, one_piece}

-- A column: the type code of its cells.
pub record Column : Type 0 where
  pub code : ℕ

mutual
  pub data Schema : Type 0 where
    leftover_only : Schema
    column : Column → Schema
    list : (element : Schema) → Schema
    fields : SchemaFields → Schema

  pub data SchemaFields : Type 0 where
    none_named : SchemaFields
    named : (name : List ℕ) → Schema → SchemaFields → SchemaFields

unfoldable pub column_names : SchemaFields → List (List ℕ)
column_names none_named = []
column_names (named name node more) = name ∷ column_names more

-- A type code from 1, 3-7, 11-20 (1 is boolean).
unfoldable pub column_code : ℕ → Bool
column_code code = eqb code 1 || ((leb 3 code && leb code 7) || (leb 11 code && leb code 20))

-- The column that a body says: one type code.
unfoldable pub column_of : List ℕ → Option Column
column_of body = given (eqb (length body) 1 && column_code (at body 0)) (Some (record { code = at body 0 }))

-- The tags of nodes.
pub data NodeTag : Type 0 where
  leftover_tag column_tag list_tag fields_tag no_node_tag : NodeTag

unfoldable pub node_tag : ℕ → NodeTag
node_tag tag =
    cond (eqb tag 0x00) leftover_tag
    (cond (eqb tag 0x10) column_tag (cond (eqb tag 0x20) list_tag (cond (eqb tag 0x30) fields_tag no_node_tag)))

-- A field: a name `32` and a node, by what reads a node.
unfoldable pub field_parts : (Piece → Option Schema) → List Piece → SchemaFields → Option SchemaFields
field_parts inner [] more = None
field_parts inner (name ∷ []) more = None
field_parts inner (name ∷ node ∷ []) more =
    given (eqb name.tag 0x32) (and_then (inner node) λ n. Some (named name.body n more))
field_parts inner (name ∷ node ∷ other ∷ rest) more = None

unfoldable pub field_nodes : (Piece → Option Schema) → List Piece → Option SchemaFields
field_nodes inner [] = Some none_named
field_nodes inner (piece ∷ more) =
    given (eqb piece.tag 0x31)
    (and_then (field_nodes inner more) λ columns. and_then (pieces_of piece.body) λ parts. field_parts inner parts columns)

-- A node by its tag, its inner nodes by what reads one.
unfoldable pub node_by : (Piece → Option Schema) → NodeTag → List ℕ → Option Schema
node_by inner leftover_tag body = given (eqb (length body) 0) (Some leftover_only)
node_by inner column_tag body = and_then (column_of body) λ said. Some (column said)
node_by inner list_tag body = and_then (one_piece body) λ piece. and_then (inner piece) λ element. Some (list element)
node_by inner fields_tag body =
    and_then (pieces_of body) λ pieces.
    and_then (field_nodes inner pieces) λ columns.
    given (leb 1 (length pieces) && rising (column_names columns)) (Some (fields columns))
node_by inner no_node_tag body = None

unfoldable pub node_of : (levels : ℕ) → Piece → Option Schema
node_of zero piece = None
node_of (suc levels) piece = node_by (node_of levels) (node_tag piece.tag) piece.body

-- A lent schema, if it keeps its rules.
unfoldable pub schema_of : List ℕ → Option Schema
schema_of s = and_then (one_piece s) (node_of most_levels)
