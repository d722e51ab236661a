-- What a place of a lawful row is rebuilt to, read off its own bytes: a leftover's normal form; a cell as a value; a list's
-- places as an array; an object's places and its leftover's members as one object. An id is changed by its place in a table.
-- (Where a lawful row has nothing, nothing is rebuilt.)
use Rattle.dictionary.specs.declared.ids.InputId.{InputId}
use Rattle.std.specs.Prelude.{cond, List, [], ◌∷◌, map, ℕ, ◌+◌, ◌-◌, ◌*◌, eqb, length, Option, None, Some}
use Rattle.fields.specs.Telling.{looked_at}
use Rattle.paper.specs.Framing.{Piece, pieces_of}
use Rattle.paper.specs.Normal.{text_bytes, prefixed_bytes, array_bytes}
use Rattle.paper.specs.Schemas.{Schema, leftover_only, column, list, fields, SchemaFields, none_named, named}
use Rattle.paper.specs.Words.{at, part}
use Rattle.places.specs.Parts.{parts_of}
use Rattle.places.specs.declared.parts.Parts.{Parts}
use Rattle.places.specs.declared.parts.Parts.TheVariants.{Empty, Leftover, Typed, Both, Unframed}
use Rattle.schemas.specs.Frames.{frame_end}
use Rattle.schemas.specs.Positions.{field_node}
use Rattle.writing.specs.Rewritten.{rewritten}
use Rattle.rebuilt.specs.Members.{Member, merged_by, left_members, no_left, normal_id_of, object_of}

-- A cell as a value: true is type 1 and false type 2; a string's and a binary's length stands in front.
unfoldable pub cell_value : (code : ℕ) → List ℕ → List ℕ
cell_value code s =
    cond (eqb code 1) (cond (eqb (at s 0) 1) 0x04 0x08 ∷ [])
    (cond (eqb code 16) (text_bytes s) (cond (eqb code 15) (prefixed_bytes 15 s) ((4 * code) ∷ s)))

-- The pieces of framed bytes.
unfoldable pub listed : Option (List Piece) → List Piece
listed None = []
listed (Some pieces) = pieces

unfoldable pub pieces_in : List ℕ → List Piece
pieces_in s = listed (pieces_of s)

-- A place by its parts: by what comes of a leftover alone, and of a leftover and what is typed beside it.
unfoldable pub rebuilt_by : {A : Type 0} → A → A → (List ℕ → A) → (List ℕ → List ℕ → A) → Parts → List ℕ → A
rebuilt_by nothing empty alone inside Empty body = empty
rebuilt_by nothing empty alone inside Leftover body = alone (part body 3 (length body))
rebuilt_by nothing empty alone inside Typed body = inside no_left (part body 3 (length body))
rebuilt_by nothing empty alone inside (Both middle) body = inside (part body 3 middle) (part body (middle + 3) (length body))
rebuilt_by nothing empty alone inside Unframed body = nothing

-- A schema field that is present is a member.
unfoldable pub add_member : (body : List ℕ) → Option InputId → (bytes : List ℕ) → List Member → List Member
add_member [] looked bytes ms = ms
add_member (b ∷ bs) (Some id) bytes ms = record { id = id.0; bytes = bytes } ∷ ms
add_member (b ∷ bs) None bytes ms = ms

unfoldable mutual
  -- A place under a node that stands at a position of the schema, with so many levels left.
  pub place_rebuilt : Schema → (levels : ℕ) → (ranks schema table : List ℕ) → (node : ℕ) → List ℕ → List ℕ
  place_rebuilt leftover_only levels ranks schema table node body =
      rebuilt_by [] (0x00 ∷ []) (rewritten levels ranks) (λ left typed. []) (parts_of body) body
  place_rebuilt (column said) levels ranks schema table node body =
      rebuilt_by [] (0x00 ∷ []) (rewritten levels ranks) (λ left typed. cell_value said.code typed) (parts_of body) body
  place_rebuilt (list element) levels ranks schema table node body =
      rebuilt_by [] (0x00 ∷ []) (rewritten levels ranks)
      (λ left typed. array_bytes (map (λ piece. place_rebuilt element (levels - 1) ranks schema table (node + 3) piece.body) (pieces_in typed)))
      (parts_of body) body
  place_rebuilt (fields columns) levels ranks schema table node body =
      rebuilt_by [] (0x00 ∷ []) (rewritten levels ranks)
      (λ left typed.
      object_of ranks
      (merged_by (normal_id_of ranks) (member_places columns (levels - 1) ranks schema table (node + 3) (pieces_in typed)) (left_members (levels - 1) ranks left)))
      (parts_of body) body

  -- An object's places that are present, under fields that stand from a position on.
  pub member_places : SchemaFields → (levels : ℕ) → (ranks schema table : List ℕ) → (field : ℕ) → List Piece → List Member
  member_places none_named levels ranks schema table field pieces = []
  member_places (named name node columns) levels ranks schema table field [] = []
  member_places (named name node columns) levels ranks schema table field (piece ∷ pieces) =
      add_member piece.body (looked_at table field)
      (place_rebuilt node levels ranks schema table (field_node schema field) piece.body)
      (member_places columns levels ranks schema table (frame_end schema field) pieces)

-- What is typed under a node, beside a leftover.
unfoldable pub typed_rebuilt : Schema → (levels : ℕ) → (ranks schema table : List ℕ) → (node : ℕ) → (left typed : List ℕ) → List ℕ
typed_rebuilt leftover_only levels ranks schema table node left typed = []
typed_rebuilt (column said) levels ranks schema table node left typed = cell_value said.code typed
typed_rebuilt (list element) levels ranks schema table node left typed =
    array_bytes (map (λ (piece : Piece). place_rebuilt element (levels - 1) ranks schema table (node + 3) piece.body) (pieces_in typed))
typed_rebuilt (fields columns) levels ranks schema table node left typed =
    object_of ranks
    (merged_by (normal_id_of ranks) (member_places columns (levels - 1) ranks schema table (node + 3) (pieces_in typed)) (left_members (levels - 1) ranks left))
