-- The ids that a place uses: those inside its leftovers, and those of the schema fields that are present in it.
use Rattle.dictionary.specs.declared.ids.InputId.{InputId}
use Rattle.std.specs.Prelude.{List, [], ◌∷◌, ◌++◌, map, ℕ, ◌+◌, ◌-◌, Option, Some, None}
use Rattle.fields.specs.Telling.{looked_at}
use Rattle.marking.specs.Ids.{ids_in}
use Rattle.paper.specs.Framing.{Piece}
use Rattle.paper.specs.Schemas.{Schema, leftover_only, column, list, fields, SchemaFields, none_named, named}
use Rattle.paper.specs.Words.{joined}
use Rattle.places.specs.Parts.{parts_of}
use Rattle.schemas.specs.Frames.{frame_end}
use Rattle.schemas.specs.Positions.{field_node}
use Rattle.rebuilt.specs.Rebuilt.{rebuilt_by, pieces_in}

-- The id of a schema field that is present.
unfoldable pub add_id : (body : List ℕ) → Option InputId → List ℕ → List ℕ
add_id [] looked ids = ids
add_id (b ∷ bs) (Some id) ids = id.0 ∷ ids
add_id (b ∷ bs) None ids = ids

unfoldable mutual
  -- Of a place under a node that stands at a position of the schema, with so many levels left.
  pub place_ids : Schema → (levels : ℕ) → (schema table : List ℕ) → (node : ℕ) → List ℕ → List ℕ
  place_ids leftover_only levels schema table node body =
      rebuilt_by [] [] (ids_in levels) (λ left typed. ids_in levels left) (parts_of body) body
  place_ids (column said) levels schema table node body =
      rebuilt_by [] [] (ids_in levels) (λ left typed. ids_in levels left) (parts_of body) body
  place_ids (list element) levels schema table node body =
      rebuilt_by [] [] (ids_in levels)
      (λ left typed. ids_in levels left ++ joined (map (λ piece. place_ids element (levels - 1) schema table (node + 3) piece.body) (pieces_in typed)))
      (parts_of body) body
  place_ids (fields columns) levels schema table node body =
      rebuilt_by [] [] (ids_in levels)
      (λ left typed. ids_in levels left ++ member_ids columns (levels - 1) schema table (node + 3) (pieces_in typed))
      (parts_of body) body

  -- Of an object's places, under fields that stand from a position on.
  pub member_ids : SchemaFields → (levels : ℕ) → (schema table : List ℕ) → (field : ℕ) → List Piece → List ℕ
  member_ids none_named levels schema table field pieces = []
  member_ids (named name node columns) levels schema table field [] = []
  member_ids (named name node columns) levels schema table field (piece ∷ pieces) =
      add_id piece.body (looked_at table field)
      (place_ids node levels schema table (field_node schema field) piece.body
      ++ member_ids columns levels schema table (frame_end schema field) pieces)

-- Of a list's places.
unfoldable pub element_ids : Schema → (levels : ℕ) → (schema table : List ℕ) → (node : ℕ) → List Piece → List ℕ
element_ids element levels schema table node pieces =
    joined (map (λ (piece : Piece). place_ids element levels schema table node piece.body) pieces)

-- Of what is typed under a node.
unfoldable pub typed_ids : Schema → (levels : ℕ) → (schema table : List ℕ) → (node : ℕ) → (typed : List ℕ) → List ℕ
typed_ids leftover_only levels schema table node typed = []
typed_ids (column said) levels schema table node typed = []
typed_ids (list element) levels schema table node typed = element_ids element (levels - 1) schema table (node + 3) (pieces_in typed)
typed_ids (fields columns) levels schema table node typed = member_ids columns (levels - 1) schema table (node + 3) (pieces_in typed)
