-- Where the places of a list stand, and the members of an object in the order of their normal ids, noted in tables.
use Rattle.dictionary.specs.declared.ids.InputId.{InputId}
use Rattle.std.specs.Prelude.{List, [], ◌∷◌, map, ◌≡◌, ℕ, ◌+◌, ◌*◌, ◌≤◌, ◌<◌, length, get_or, Option, Some, None}
use Rattle.fields.specs.Telling.{looked_at}
use Rattle.paper.specs.Framing.{Piece}
use Rattle.paper.specs.Schemas.{SchemaFields, none_named, named}
use Rattle.paper.specs.Words.{numbers}
use Rattle.rebuilt.specs.Members.{merged_by}
use Rattle.schemas.specs.Frames.{frame_end}

-- ---- a list's places

-- Where pieces start that stand one after another from a place on.
unfoldable pub piece_places : (place : ℕ) → List Piece → List ℕ
piece_places place [] = []
piece_places place (piece ∷ more) = place ∷ piece_places (place + 3 + length piece.body) more

-- A table starts with some numbers, so many.
pub record Spotted (spots places : List ℕ) (count : ℕ) : Type 0 where
  pub size : count ≡ length spots
  pub room : count ≤ length places
  pub each : (k : ℕ) → k < count → get_or places k 0 ≡ get_or spots k 0

-- ---- an object's members

-- A member: the id of its name, where it stands, and the position of its field in the schema; 0 for a leftover's member.
pub record Note : Type 0 where
  pub id : ℕ
  pub place : ℕ
  pub field : ℕ

unfoldable pub note_rank : (ranks : List ℕ) → Note → ℕ
note_rank ranks note = get_or ranks note.id 0

-- A leftover's members, by their ids and their starts.
unfoldable pub left_notes : (ids starts : List ℕ) → List Note
left_notes [] starts = []
left_notes (id ∷ ids) [] = []
left_notes (id ∷ ids) (start ∷ starts) = record { id = id; place = start; field = 0 } ∷ left_notes ids starts

-- A field that is present.
unfoldable pub add_note : (body : List ℕ) → Option InputId → (place field : ℕ) → List Note → List Note
add_note [] looked place field notes = notes
add_note (b ∷ bs) (Some id) place field notes = record { id = id.0; place = place; field = field } ∷ notes
add_note (b ∷ bs) None place field notes = notes

-- Fields that stand from a position on, their places from a place on.
unfoldable pub field_notes : SchemaFields → (schema table : List ℕ) → (field place : ℕ) → List Piece → List Note
field_notes none_named schema table field place pieces = []
field_notes (named name node columns) schema table field place [] = []
field_notes (named name node columns) schema table field place (piece ∷ pieces) =
    add_note piece.body (looked_at table field) place field
    (field_notes columns schema table (frame_end schema field) (place + 3 + length piece.body) pieces)

-- Notes stand in two tables, so many: the ids in two bytes each, and of each where it stands and its field.
pub record Noted (notes : List Note) (places ids : List ℕ) (count : ℕ) : Type 0 where
  pub size : count ≡ length notes
  pub places_room : 2 * count ≤ length places
  pub ids_room : 2 * count ≤ length ids
  pub ids_are : numbers 2 count ids ≡ map (λ (n : Note). n.id) notes
  pub place_is : (k : ℕ) → k < count → get_or places (2 * k) 0 ≡ get_or (map (λ (n : Note). n.place) notes) k 0
  pub field_is : (k : ℕ) → k < count → get_or places (2 * k + 1) 0 ≡ get_or (map (λ (n : Note). n.field) notes) k 0

-- All members, in the order of their normal ids.
unfoldable pub member_notes : (ranks : List ℕ) → (typed lefts : List Note) → List Note
member_notes ranks typed lefts = merged_by (note_rank ranks) typed lefts
