-- What stands in a good schema: a node by its kind, with what stands inside it.
use Rattle.std.specs.Prelude.{Option, Some}
use mathlib.Core.Bool.{Bool, true, false, cond, ◌&&◌}
use mathlib.Core.List.{List, []}
use mathlib.Core.Path.{◌≡◌, refl, sym, ap, ◌∙◌}
use Prim.Native.Nat.{ℕ, zero, suc, ◌+◌, ◌-◌, ◌≤◌, ◌<◌}
use native.Mathlib.Omega.{arith}
use borrow.Author.Tests.{leb-true, leb-false, eqb-true, eqb-false}
use lib.Dec.{leb, eqb}
use lib.ListN.{length}
use Rattle.paper.specs.Framing.{Piece, pieces_of, one_piece}
use Rattle.paper.specs.Limits.{most_levels}
use Rattle.paper.specs.Metadata.{rising}
use Rattle.paper.specs.Schemas.{Column, Schema, leftover_only, column, list, fields, SchemaFields, column_names, column_code, column_of, NodeTag, leftover_tag, column_tag, list_tag, fields_tag, no_node_tag, node_tag, field_nodes, node_by, node_of, schema_of}
use Rattle.paper.specs.Words.{at, part, given, and_then, is_there}
use Rattle.paper.proofs.WordLaws.{never, and_both, given_some, then_some}
use Rattle.frames.proofs.PieceLaws.{length_part, part_cons, pieces_none}
use Rattle.schemas.proofs.FramingLaws.{one_piece_lem, one_not}
use Rattle.schemas.proofs.NodeLaws.{schema_node}
use Rattle.schemas.specs.Frames.{frame_end, piece_at}
use Rattle.schemas.specs.Positions.{node_in, columns_in, Stands, FieldsStand}

-- ---- a piece that is alone between two positions

alone_is : (s : List ℕ) (from to : ℕ) → to ≤ length s → {piece : Piece} → one_piece (part s from to) ≡ Some piece → (frame_end s from ≡ to) × (piece ≡ piece_at s from)
unfolding is_there
alone_is s from to within {piece} e = go (eqb (frame_end s from) to) refl
  where
    go : (b : Bool) → eqb (frame_end s from) to ≡ b → (frame_end s from ≡ to) × (piece ≡ piece_at s from)
    go true f =
        let ends : frame_end s from ≡ to = eqb-true (frame_end s from) to f in
        let is : one_piece (part s from to) ≡ Some (piece_at s from) = one_piece_lem s from to within ends in
        (ends, cc)
    go false f = never (sym (sym (ap is_there (one_not s from to within (eqb-false (frame_end s from) to f))) ∙ ap is_there e))

-- ---- a tag's byte

-- (Where a byte is no node's tag, the byte itself.)
byte_of : ℕ → NodeTag → ℕ
byte_of tag leftover_tag = 0x00
byte_of tag column_tag = 0x10
byte_of tag list_tag = 0x20
byte_of tag fields_tag = 0x30
byte_of tag no_node_tag = tag

tag_byte : (tag : ℕ) {t : NodeTag} → node_tag tag ≡ t → tag ≡ byte_of tag t
unfolding node_tag byte_of
tag_byte tag {t} = go (eqb tag 0x00) (eqb tag 0x10) (eqb tag 0x20) (eqb tag 0x30) refl refl refl refl
  where
    go : (a b c d : Bool) → eqb tag 0x00 ≡ a → eqb tag 0x10 ≡ b → eqb tag 0x20 ≡ c → eqb tag 0x30 ≡ d
        → cond a leftover_tag (cond b column_tag (cond c list_tag (cond d fields_tag no_node_tag))) ≡ t → tag ≡ byte_of tag t
    go true b c d f g h k e = eqb-true tag 0x00 f ∙ ap (byte_of tag) e
    go false true c d f g h k e = eqb-true tag 0x10 g ∙ ap (byte_of tag) e
    go false false true d f g h k e = eqb-true tag 0x20 h ∙ ap (byte_of tag) e
    go false false false true f g h k e = eqb-true tag 0x30 k ∙ ap (byte_of tag) e
    go false false false false f g h k e = ap (byte_of tag) e

-- ---- a node by its kind

pub record LeftoverStands (s : List ℕ) (place : ℕ) : Type 0 where
  pub tagged : at s place ≡ 0x00
  pub ends : frame_end s place ≡ place + 3

pub record ColumnStands (s : List ℕ) (place : ℕ) (said : Column) : Type 0 where
  pub tagged : at s place ≡ 0x10
  pub ends : frame_end s place ≡ place + 4
  pub code_at : said.code ≡ at s (place + 3)
  pub good : column_code said.code ≡ true

pub record ListStands (levels : ℕ) (s : List ℕ) (place : ℕ) (element : Schema) : Type 0 where
  pub tagged : at s place ≡ 0x20
  pub inside : Stands (levels - 1) s (place + 3) element
  pub fills : frame_end s (place + 3) ≡ frame_end s place

pub record ObjectStands (levels : ℕ) (s : List ℕ) (place : ℕ) (columns : SchemaFields) : Type 0 where
  pub tagged : at s place ≡ 0x30
  pub inside : FieldsStand (levels - 1) s (place + 3) (frame_end s place) columns
  pub some_field_lem : place + 3 < frame_end s place

pub data NodeAt (levels : ℕ) (s : List ℕ) (place : ℕ) : Schema → Type 0 where
  leftover_at : LeftoverStands s place → NodeAt levels s place leftover_only
  column_at : {said : Column} → ColumnStands s place said → NodeAt levels s place (column said)
  list_at : {element : Schema} → ListStands levels s place element → NodeAt levels s place (list element)
  fields_at : {columns : SchemaFields} → ObjectStands levels s place columns → NodeAt levels s place (fields columns)

abbrev body_at : List ℕ → ℕ → List ℕ
body_at s place = (piece_at s place).body

module _ (levels : ℕ) (s : List ℕ) (place : ℕ) (within : frame_end s place ≤ length s) (node : Schema) where
  leftover_view : at s place ≡ 0x00 → node_by (node_of (levels - 1)) leftover_tag (body_at s place) ≡ Some node → NodeAt levels s place node
  unfolding node_by
  leftover_view tag e =
      let passed = given_some (eqb (length (body_at s place)) 0) (Some leftover_only) e in
      let same : leftover_only ≡ node = cc passed.1 in
      let size : length (body_at s place) ≡ frame_end s place - (place + 3) = length_part s (place + 3) (frame_end s place) within in
      rw (← same) (leftover_at (record { tagged = tag; ends = omega (arith, eqb-true (length (body_at s place)) 0 passed.0) }))

  column_view : at s place ≡ 0x10 → node_by (node_of (levels - 1)) column_tag (body_at s place) ≡ Some node → NodeAt levels s place node
  unfolding node_by column_of
  column_view tag e =
      let read = then_some (column_of (body_at s place)) (λ said. Some (column said)) e in
      let passed = given_some (eqb (length (body_at s place)) 1 && column_code (at (body_at s place) 0)) (Some (record { code = at (body_at s place) 0 })) read.1 in
      let tests = and_both (eqb (length (body_at s place)) 1) (column_code (at (body_at s place) 0)) passed.0 in
      let size : length (body_at s place) ≡ frame_end s place - (place + 3) = length_part s (place + 3) (frame_end s place) within in
      let one : frame_end s place ≡ place + 4 = omega (arith, eqb-true (length (body_at s place)) 1 tests.0) in
      let first : at (body_at s place) 0 ≡ at s (place + 3) = rw (part_cons s (place + 3) (frame_end s place) within (omega arith)) in
      let said : ◌≡◌ {A = Column} (record { code = at (body_at s place) 0 }) read.0 = cc passed.1 in
      let same : column (record { code = at (body_at s place) 0 }) ≡ node = cc (said, read.2) in
      rw (← same) (column_at (record { tagged = tag; ends = one; code_at = first; good = tests.1 }))

  list_view : at s place ≡ 0x20 → node_by (node_of (levels - 1)) list_tag (body_at s place) ≡ Some node → NodeAt levels s place node
  unfolding node_by
  list_view tag e =
      let alone = then_some (one_piece (body_at s place)) (λ piece. and_then (node_of (levels - 1) piece) λ element. Some (list element)) e in
      let element = then_some (node_of (levels - 1) alone.0) (λ element. Some (list element)) alone.2 in
      let fills = alone_is s (place + 3) (frame_end s place) within alone.1 in
      let same : list element.0 ≡ node = cc element.2 in
      let inside : Stands (levels - 1) s (place + 3) element.0 =
      record { within = omega (arith, fills.0); is = sym (ap (node_of (levels - 1)) fills.1) ∙ element.1 } in
      rw (← same) (list_at (record { tagged = tag; inside = inside; fills = fills.0 }))

  some_more : {pieces : List Piece} → pieces_of (body_at s place) ≡ Some pieces → 1 ≤ length pieces → place + 3 < frame_end s place
  some_more {pieces} read some_pieces = go (leb (frame_end s place) (place + 3)) refl
    where
      go : (b : Bool) → leb (frame_end s place) (place + 3) ≡ b → place + 3 < frame_end s place
      go true e =
          let ended : pieces_of (body_at s place) ≡ Some [] = pieces_none s (place + 3) (frame_end s place) (leb-true (frame_end s place) (place + 3) e) in
          let empty : [] ≡ pieces = cc in
          absurd (omega (arith, ap length empty))
      go false e = leb-false (frame_end s place) (place + 3) e

  fields_view : at s place ≡ 0x30 → node_by (node_of (levels - 1)) fields_tag (body_at s place) ≡ Some node → NodeAt levels s place node
  unfolding node_by columns_in and_then
  fields_view tag e =
      let pieces = then_some (pieces_of (body_at s place)) (λ pieces. and_then (field_nodes (node_of (levels - 1)) pieces) λ columns. given (leb 1 (length pieces) && rising (column_names columns)) (Some (fields columns))) e in
      let columns = then_some (field_nodes (node_of (levels - 1)) pieces.0) (λ columns. given (leb 1 (length pieces.0) && rising (column_names columns)) (Some (fields columns))) pieces.2 in
      let passed = given_some (leb 1 (length pieces.0) && rising (column_names columns.0)) (Some (fields columns.0)) columns.2 in
      let tests = and_both (leb 1 (length pieces.0)) (rising (column_names columns.0)) passed.0 in
      let same : fields columns.0 ≡ node = cc passed.1 in
      let more : place + 3 < frame_end s place = some_more pieces.1 (leb-true 1 (length pieces.0) tests.0) in
      let are : columns_in (levels - 1) s (place + 3) (frame_end s place) ≡ Some columns.0 =
      ap (λ (x : Option (List Piece)). and_then x (field_nodes (node_of (levels - 1)))) pieces.1 ∙ columns.1 in
      let inside : FieldsStand (levels - 1) s (place + 3) (frame_end s place) columns.0 =
      record { ordered = omega arith; within = within; are = are; rise = tests.1 } in
      rw (← same) (fields_at (record { tagged = tag; inside = inside; some_field_lem = more }))

  view_by : (t : NodeTag) → node_tag (at s place) ≡ t → node_by (node_of (levels - 1)) t (body_at s place) ≡ Some node → NodeAt levels s place node
  unfolding byte_of is_there node_by
  view_by leftover_tag is e = leftover_view (tag_byte (at s place) is) e
  view_by column_tag is e = column_view (tag_byte (at s place) is) e
  view_by list_tag is e = list_view (tag_byte (at s place) is) e
  view_by fields_tag is e = fields_view (tag_byte (at s place) is) e
  view_by no_node_tag is e = never (sym (ap is_there e))

view_of : (levels : ℕ) (s : List ℕ) (place : ℕ) (node : Schema) → Stands levels s place node → (1 ≤ levels) × NodeAt levels s place node
unfolding node_of is_there
view_of zero s place node stands = never (sym (ap is_there stands.is))
view_of (suc levels) s place node stands =
    let e : suc levels - 1 ≡ levels = omega arith in
    (omega arith, view_by (suc levels) s place stands.within node (node_tag (at s place)) refl (rw e stands.is))

module _ {levels : ℕ} {s : List ℕ} {place : ℕ} where
  pub some_level : {node : Schema} → Stands levels s place node → 1 ≤ levels
  some_level {node} stands = (view_of levels s place node stands).0

  pub node_at : {node : Schema} → Stands levels s place node → NodeAt levels s place node
  node_at {node} stands = (view_of levels s place node stands).1

  pub leftover_stands : Stands levels s place leftover_only → LeftoverStands s place
  leftover_stands stands = go (node_at stands)
    where
      go : NodeAt levels s place leftover_only → LeftoverStands s place
      go (leftover_at here) = here

  pub column_stands : {said : Column} → Stands levels s place (column said) → ColumnStands s place said
  column_stands stands = go (node_at stands)
    where
      go : {said : Column} → NodeAt levels s place (column said) → ColumnStands s place said
      go (column_at here) = here

  pub list_stands : {element : Schema} → Stands levels s place (list element) → ListStands levels s place element
  list_stands stands = go (node_at stands)
    where
      go : {element : Schema} → NodeAt levels s place (list element) → ListStands levels s place element
      go (list_at here) = here

  pub object_stands : {columns : SchemaFields} → Stands levels s place (fields columns) → ObjectStands levels s place columns
  object_stands stands = go (node_at stands)
    where
      go : {columns : SchemaFields} → NodeAt levels s place (fields columns) → ObjectStands levels s place columns
      go (fields_at here) = here

  -- One node at most stands at a position.
  pub one_stands : {node other : Schema} → Stands levels s place node → Stands levels s place other → node ≡ other
  one_stands stands also = let is = stands.is in let also-is = also.is in cc

-- ---- a node that fills a part, and a schema

pub node_stands : (levels : ℕ) (s : List ℕ) (from to : ℕ) (node : Schema) → to ≤ length s → node_in levels s from to ≡ Some node
    → Stands levels s from node × (frame_end s from ≡ to)
unfolding node_in
node_stands levels s from to node within e =
    let alone = then_some (one_piece (part s from to)) (node_of levels) e in
    let fills = alone_is s from to within alone.1 in
    (record { within = omega (arith, fills.0); is = sym (ap (node_of levels) fills.1) ∙ alone.2 }, fills.0)

pub schema_stands : (s : List ℕ) (node : Schema) → schema_of s ≡ Some node → Stands most_levels s 0 node × (frame_end s 0 ≡ length s)
schema_stands s node e = node_stands most_levels s 0 (length s) node (omega arith) (schema_node s ∙ e)
