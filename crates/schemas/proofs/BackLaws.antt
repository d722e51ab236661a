-- A good tree that is written is read back: with the law before, a good schema and its tree are one another's.
use Rattle.std.specs.Prelude.{Some}
use mathlib.Core.Bool.{true}
use mathlib.Core.List.{List, [], ◌∷◌, ◌++◌}
use mathlib.Core.Path.{◌≡◌, refl, sym, ap, ◌∙◌}
use Prim.Native.Nat.{ℕ, suc, ◌+◌, ◌-◌, ◌<◌}
use native.Mathlib.Omega.{arith}
use borrow.Author.Tests.{le-leb}
use lib.Dec.{leb}
use lib.ListN.{length, length-append}
use Rattle.paper.specs.Framing.{Piece, pieces_within, pieces_of, only, one_piece, frame}
use Rattle.paper.specs.Limits.{most_levels}
use Rattle.paper.specs.Schemas.{Schema, leftover_only, column, list, fields, SchemaFields, none_named, named, column_of, node_tag, field_parts, field_nodes, node_by, node_of, schema_of}
use Rattle.paper.specs.Words.{given, and_then}
use Rattle.paper.proofs.WordLaws.{never}
use Rattle.frames.proofs.BackLaws.{length_frame, pieces_frame, frame_alone}
use Rattle.frames.proofs.PieceLaws.{piece_then}
use Rattle.schemas.proofs.GoodLaws.{good_level, good_column, good_element, good_object, good_field}
use Rattle.schemas.proofs.NodeLaws.{node_step}
use Rattle.schemas.specs.Written.{schema_bytes, fields_bytes, some_field, good_schema, good_fields}

-- ---- trees

-- The piece that a node is written as, and those of fields.
node_piece : Schema → Piece
node_piece leftover_only = record { tag = 0x00; body = [] }
node_piece (column said) = record { tag = 0x10; body = said.code ∷ [] }
node_piece (list element) = record { tag = 0x20; body = schema_bytes element }
node_piece (fields columns) = record { tag = 0x30; body = fields_bytes columns }

field_pieces : SchemaFields → List Piece
field_pieces none_named = []
field_pieces (named name node more) = record { tag = 0x31; body = frame 0x32 name ++ schema_bytes node } ∷ field_pieces more

node_piece_lem : (node : Schema) → frame (node_piece node).tag (node_piece node).body ≡ schema_bytes node
unfolding node_piece schema_bytes
node_piece_lem leftover_only = refl
node_piece_lem (column said) = refl
node_piece_lem (list element) = refl
node_piece_lem (fields columns) = refl

piece_fits : (node : Schema) → length (schema_bytes node) < 65536 → length (node_piece node).body < 65536
piece_fits node h = omega (arith, ap length (node_piece_lem node), length_frame (node_piece node).tag (node_piece node).body)

node_pieces : (node : Schema) → length (schema_bytes node) < 65536 → pieces_of (schema_bytes node) ≡ Some (node_piece node ∷ [])
node_pieces node h = ap pieces_of (sym (node_piece_lem node)) ∙ frame_alone (node_piece node).tag (node_piece node).body (piece_fits node h)

-- What a field takes.
field_length : (name : List ℕ) (node : Schema) (more : SchemaFields)
    → length (fields_bytes (named name node more)) ≡ 6 + length name + length (schema_bytes node) + length (fields_bytes more)
unfolding schema_bytes
field_length name node more =
    let body : List ℕ = frame 0x32 name ++ schema_bytes node in
    omega (arith, length-append (frame 0x31 body) (fields_bytes more), length_frame 0x31 body, length-append (frame 0x32 name) (schema_bytes node), length_frame 0x32 name)

body_length : (name : List ℕ) (node : Schema) → length (frame 0x32 name ++ schema_bytes node) ≡ 3 + length name + length (schema_bytes node)
body_length name node = omega (arith, length-append (frame 0x32 name) (schema_bytes node), length_frame 0x32 name)

fields_pieces : (columns : SchemaFields) → length (fields_bytes columns) < 65536 → pieces_of (fields_bytes columns) ≡ Some (field_pieces columns)
unfolding field_pieces schema_bytes pieces_of pieces_within piece_then and_then
fields_pieces none_named h = refl
fields_pieces (named name node more) h =
    let long = field_length name node more in
    rw (pieces_frame 0x31 (frame 0x32 name ++ schema_bytes node) (fields_bytes more) (omega (arith, body_length name node)), fields_pieces more (omega arith))

some_pieces : (columns : SchemaFields) → some_field columns ≡ true → leb 1 (length (field_pieces columns)) ≡ true
unfolding some_field field_pieces
some_pieces none_named e = never (sym e)
some_pieces (named name node more) e = le-leb 1 (suc (length (field_pieces more))) (omega arith)

-- A good node by its piece.
node_read : (node : Schema) (levels : ℕ) → good_schema node levels ≡ true → node_of levels (node_piece node) ≡ node_by (node_of (levels - 1)) (node_tag (node_piece node).tag) (node_piece node).body
node_read node levels good = node_step levels (node_piece node) (omega (arith, good_level node levels good))

mutual
  unfolding node_piece field_pieces node_tag node_by column_of one_piece only field_nodes field_parts piece_then given and_then

  node_back : (node : Schema) (levels : ℕ) → good_schema node levels ≡ true → length (schema_bytes node) < 65536 → node_of levels (node_piece node) ≡ Some node
  node_back leftover_only levels good fits = node_read leftover_only levels good
  node_back (column said) levels good fits = node_read (column said) levels good ∙ rw (good_column said levels good)
  node_back (list element) levels good fits =
      let shorter : length (schema_bytes element) < 65536 = piece_fits (list element) fits in
      node_read (list element) levels good ∙ rw (node_pieces element shorter, node_back element (levels - 1) (good_element element levels good) shorter)
  node_back (fields columns) levels good fits =
      let object = good_object columns levels good in
      let shorter : length (fields_bytes columns) < 65536 = piece_fits (fields columns) fits in
      node_read (fields columns) levels good
      ∙ rw (fields_pieces columns shorter, fields_back columns (levels - 1) object.inside shorter, some_pieces columns object.some_field_lem, object.rise)

  fields_back : (columns : SchemaFields) (levels : ℕ) → good_fields columns levels ≡ true → length (fields_bytes columns) < 65536
      → field_nodes (node_of levels) (field_pieces columns) ≡ Some columns
  fields_back none_named levels good fits = refl
  fields_back (named name node more) levels good fits =
      let each = good_field name node more levels good in
      let long = field_length name node more in
      let shorter : length (schema_bytes node) < 65536 = omega arith in
      rw (fields_back more levels each.1 (omega arith), pieces_frame 0x32 name (schema_bytes node) (omega arith), node_pieces node shorter, node_back node levels each.0 shorter)

pub schema_back : (node : Schema) → good_schema node most_levels ≡ true → length (schema_bytes node) < 65536 → schema_of (schema_bytes node) ≡ Some node
unfolding schema_of one_piece only and_then
schema_back node good fits = rw (node_pieces node fits) (node_back node most_levels good fits)
