-- What the writers of a lawful row stand on: bytes that are lawful under a node, ids that are numbered, tables with room for all
-- that is to be noted, and a floor so high that every leftover can be written before its length is known.
use Rattle.std.specs.Prelude.{List, [], map, ◌≡◌, true, ℕ, suc, ◌+◌, ◌-◌, ◌*◌, ◌≤◌, ◌<◌, length, get_or, Some}
use Rattle.marking.specs.Ids.{ids_in}
use Rattle.noting.specs.Notes.{Note, Noted}
use Rattle.paper.specs.Bounds.{most_names, most_walked}
use Rattle.paper.specs.Framing.{Piece}
use Rattle.paper.specs.Limits.{most_leftover, most_row, most_schema}
use Rattle.paper.specs.Meaning.{Doc, object, Fields}
use Rattle.paper.specs.Metadata.{Dictionary}
use Rattle.paper.specs.Schemas.{Schema, SchemaFields}
use Rattle.paper.specs.Values.{child_extent, child_bytes, meaning_of}
use Rattle.paper.specs.Words.{part, numbers, all_below}
use Rattle.places.specs.Frames.{place_end}
use Rattle.rebuilt.specs.Members.{Member, merged_by, left_members, normal_id_of}
use Rattle.rebuilt.specs.Rebuilt.{place_rebuilt, member_places, pieces_in}
use Rattle.rebuilt.specs.There.{PlaceThere, TypedThere, ElementsThere, MembersThere, Numbered}
use Rattle.rebuilt.specs.Using.{place_ids, typed_ids, element_ids, member_ids}
use Rattle.schemas.specs.Positions.{field_node}
use Rattle.writing.specs.Rewritten.{rewritten}

-- ---- what is written

abbrev pub elements_rebuilt : Schema → (levels : ℕ) → (ranks schema table : List ℕ) → (node : ℕ) → List ℕ → List (List ℕ)
elements_rebuilt element levels ranks schema table node body =
    map (λ (piece : Piece). place_rebuilt element levels ranks schema table node piece.body) (pieces_in body)

abbrev pub members_rebuilt : SchemaFields → (levels : ℕ) → (ranks schema table : List ℕ) → (from : ℕ) → (left body : List ℕ) → List Member
members_rebuilt columns levels ranks schema table from left body =
    merged_by (normal_id_of ranks) (member_places columns levels ranks schema table from (pieces_in body)) (left_members levels ranks left)

-- ---- what stays the same in a row

pub record Ground (names : Dictionary) (ranks schema : List ℕ) : Type 0 where
  pub few : length names ≤ most_names
  pub ranked : length names ≤ length ranks
  pub schema_short : length schema ≤ most_schema

-- Bytes are bytes.
abbrev pub Bytes : List ℕ → Type 0
Bytes s = (i : ℕ) → get_or s i 0 < 256

-- Tables of so many entries, and a floor, suffice for so many bytes.
pub record Enough (size places ids floor : ℕ) : Type 0 where
  pub small : size ≤ most_row
  pub places_room : size ≤ places
  pub ids_room : size ≤ ids
  pub high : (n : ℕ) → n ≤ size → n ≤ most_leftover → 2 * n ≤ floor

-- ---- places, what is typed in them, and the inner places of a list and of an object

pub record PlaceReady (levels : ℕ) (ranks schema table : List ℕ) (node : ℕ) (body : List ℕ) (places ids floor : ℕ) : Type 0 where
  pub names : Dictionary
  pub normal : Dictionary
  pub ground : Ground names ranks schema
  pub there : PlaceThere levels names schema table node body
  pub numbered : Numbered names normal ranks (place_ids there.under levels schema table node body)
  pub bytes : Bytes body
  pub enough : Enough (length body) places ids floor

-- A leftover object of a place with so many levels left.
pub record LeftObject (levels : ℕ) (names normal : Dictionary) (ranks left : List ℕ) : Type 0 where
  pub members : Fields
  pub means : meaning_of levels names left ≡ Some (object members)
  pub short : length left ≤ most_leftover
  pub numbered : Numbered names normal ranks (ids_in levels left)
  pub bytes : Bytes left

pub record TypedReady (levels : ℕ) (ranks schema table : List ℕ) (node : ℕ) (left body : List ℕ) (places ids floor : ℕ) : Type 0 where
  pub names : Dictionary
  pub normal : Dictionary
  pub ground : Ground names ranks schema
  pub there : TypedThere levels names schema table node body
  pub numbered : Numbered names normal ranks (typed_ids there.under levels schema table node body)
  pub beside : LeftObject levels names normal ranks left
  pub bytes : Bytes body
  pub enough : Enough (length left + length body) places ids floor

pub record ElementsReady (levels : ℕ) (ranks schema table : List ℕ) (node : ℕ) (body : List ℕ) (places ids floor : ℕ) : Type 0 where
  pub names : Dictionary
  pub normal : Dictionary
  pub ground : Ground names ranks schema
  pub there : ElementsThere levels names schema table node body
  pub numbered : Numbered names normal ranks (element_ids there.element levels schema table node (pieces_in body))
  pub bytes : Bytes body
  pub enough : Enough (length body) places ids floor

-- The leftover has one level more than what stands inside it.
pub record MembersReady (levels : ℕ) (ranks schema table : List ℕ) (from to : ℕ) (left body : List ℕ) (places ids floor : ℕ) : Type 0 where
  pub names : Dictionary
  pub normal : Dictionary
  pub ground : Ground names ranks schema
  pub there : MembersThere levels names schema table from to body
  pub behind : 0 < from
  pub numbered : Numbered names normal ranks (member_ids there.columns levels schema table from (pieces_in body))
  pub beside : LeftObject (suc levels) names normal ranks left
  pub bytes : Bytes body
  pub enough : Enough (length left + length body) places ids floor

-- ---- one member, by where it stands and its field

-- A leftover's member in its area, which has no field; a place in the body, by its field.
pub data MemberReady (levels : ℕ) (ranks schema table area body : List ℕ) (places ids floor : ℕ) : (at field : ℕ) → Member → Type 0 where
  left_ready : (at size id : ℕ) (names normal : Dictionary) (d : Doc) → child_extent area at ≡ Some size
      → meaning_of levels names (child_bytes area (record { start = at; size = size })) ≡ Some d
      → Numbered names normal ranks (ids_in levels (child_bytes area (record { start = at; size = size })))
      → Bytes (child_bytes area (record { start = at; size = size })) → 2 * size ≤ floor → size ≤ most_leftover → length area ≤ most_walked
      → MemberReady levels ranks schema table area body places ids floor at 0
      (record { id = id; bytes = rewritten levels ranks (child_bytes area (record { start = at; size = size })) })
  place_ready : (at field end id : ℕ) (ready : PlaceReady levels ranks schema table (field_node schema field) (part body (at + 3) end) places ids floor)
      → 0 < field → place_end body at ≡ Some end
      → MemberReady levels ranks schema table area body places ids floor at field
      (record { id = id; bytes = place_rebuilt ready.there.under levels ranks schema table (field_node schema field) (part body (at + 3) end) })

pub record SomeMember (levels : ℕ) (ranks schema table area body : List ℕ) (places ids floor at field : ℕ) : Type 0 where
  pub one : Member
  pub ready : MemberReady levels ranks schema table area body places ids floor at field one

-- ---- members that were noted in tables

abbrev pub member_in : List Member → ℕ → Member
member_in all k = get_or all k (record { id = 0; bytes = [] })

-- Each of the notes is of a member that can be written, with what the tables have behind the notes.
pub record NotesReady (levels : ℕ) (ranks schema table area body places ids : List ℕ) (count floor : ℕ) : Type 0 where
  pub all : List Member
  pub notes : List Note
  pub noted : Noted notes places ids count
  pub size : length all ≡ count
  pub ids_are : map (λ (m : Member). m.id) all ≡ map (λ (n : Note). n.id) notes
  pub ranked : all_below (length ranks) (numbers 2 count ids) ≡ true
  pub few : 2 * count ≤ most_walked
  pub each : (k : ℕ) → k < count
      → MemberReady levels ranks schema table area body (length places - 2 * count) (length ids - 2 * count) floor
      (get_or places (2 * k) 0) (get_or places (2 * k + 1) 0) (member_in all k)
