-- What the writers of a row stand on: a document's normal value under a dictionary, a node of a good schema, and the table that
-- tells of its fields. Each writer's answer is told of every such reading of its bytes.
use Rattle.std.specs.Prelude.{Bool, true, false, ◌&&◌, List, [], ◌++◌, ◌≡◌, ℕ, ◌≤◌, ◌<◌, ltb, eqb, length, Option, Some, None}
use Rattle.dictionary.specs.declared.ids.InputId.{InputId}
use Rattle.fields.specs.Telling.{Told, FieldsTold}
use Rattle.forms.specs.WellFormed.{all_members, well_formed, names_there, field_names_there}
use Rattle.members.specs.Members.{IdThere, member_id, From}
use Rattle.members.specs.declared.Members.{Members}
use Rattle.paper.specs.Framing.{frame}
use Rattle.paper.specs.Limits.{most_value}
use Rattle.paper.specs.Meaning.{Doc, Fields}
use Rattle.paper.specs.Metadata.{Dictionary, rising}
use Rattle.paper.specs.Normal.{field_names, value_bytes}
use Rattle.paper.specs.Schemas.{Schema, list, fields, SchemaFields, none_named, named}
use Rattle.paper.specs.Shredding.{cut, cut_fields, place_bytes, places_bytes}
use Rattle.remainder.specs.Remainder.{Ground}
use Rattle.schemas.specs.Positions.{Stands, FieldsStand}

-- A document's normal value, with tables of so many entries for what is noted of it.
pub record Valued (names : Dictionary) (s : List ℕ) (notes ids : ℕ) : Type 0 where
  pub d : Doc
  pub depth : ℕ
  pub is : s ≡ value_bytes names d
  pub good : well_formed depth d ≡ true
  pub there : names_there names d ≡ true
  pub short : length s ≤ most_value
  pub notes_room : length s ≤ notes
  pub ids_room : length s ≤ ids

-- ---- a value under a node, under a list's node, and under an object's fields

pub record PlaceReady (levels : ℕ) (ranks schema table : List ℕ) (node : ℕ) (s : List ℕ) (notes ids : ℕ) : Type 0 where
  pub names : Dictionary
  pub ground : Ground names ranks schema table
  pub under : Schema
  pub stands : Stands levels schema node under
  pub told : Told names schema table under node
  pub valued : Valued names s notes ids

abbrev pub place_cut : {levels : ℕ} {ranks schema table : List ℕ} {node : ℕ} {s : List ℕ} {notes ids : ℕ}
    → PlaceReady levels ranks schema table node s notes ids → List ℕ
place_cut ready = place_bytes ready.names (cut ready.under ready.valued.d)

pub record ListReady (levels : ℕ) (ranks schema table : List ℕ) (node : ℕ) (s : List ℕ) (notes ids : ℕ) : Type 0 where
  pub names : Dictionary
  pub ground : Ground names ranks schema table
  pub element : Schema
  pub stands : Stands levels schema node element
  pub told : Told names schema table element node
  pub valued : Valued names s notes ids

abbrev pub list_cut : {levels : ℕ} {ranks schema table : List ℕ} {node : ℕ} {s : List ℕ} {notes ids : ℕ}
    → ListReady levels ranks schema table node s notes ids → List ℕ
list_cut ready = place_bytes ready.names (cut (list ready.element) ready.valued.d)

pub record ObjectReady (levels : ℕ) (ranks schema table : List ℕ) (from to : ℕ) (s : List ℕ) (notes ids : ℕ) : Type 0 where
  pub names : Dictionary
  pub ground : Ground names ranks schema table
  pub columns : SchemaFields
  pub stand : FieldsStand levels schema from to columns
  pub told : FieldsTold names schema table columns from
  pub valued : Valued names s notes ids

abbrev pub object_cut : {levels : ℕ} {ranks schema table : List ℕ} {from to : ℕ} {s : List ℕ} {notes ids : ℕ}
    → ObjectReady levels ranks schema table from to s notes ids → List ℕ
object_cut ready = place_bytes ready.names (cut (fields ready.columns) ready.valued.d)

-- ---- the fields from a position on, and the object's members from one on

pub record FieldsReady (levels : ℕ) (ranks schema table : List ℕ) (from to : ℕ) (s : List ℕ) (m : Members) (k notes ids : ℕ) : Type 0 where
  pub names : Dictionary
  pub ground : Ground names ranks schema table
  pub columns : SchemaFields
  pub stand : FieldsStand levels schema from to columns
  pub told : FieldsTold names schema table columns from
  pub fs : Fields
  pub depth : ℕ
  pub held : From names s m k fs
  pub rise : rising (field_names fs) ≡ true
  pub good : all_members (well_formed depth) fs ≡ true
  pub there : field_names_there names fs ≡ true
  pub short : length s ≤ most_value
  pub notes_room : length s ≤ notes
  pub ids_room : length s ≤ ids

abbrev pub fields_cut : {levels : ℕ} {ranks schema table : List ℕ} {from to : ℕ} {s : List ℕ} {m : Members} {k notes ids : ℕ}
    → FieldsReady levels ranks schema table from to s m k notes ids → List ℕ
fields_cut ready = places_bytes ready.names (cut_fields ready.columns ready.fs)

-- ---- members passed over on the way to a field's

-- The members from one on can be read.
pub record Run (s : List ℕ) (m : Members) (from : ℕ) : Type 0 where
  pub within : from ≤ m.count
  pub there : (k : ℕ) → from ≤ k → k < m.count → IdThere s m k

-- Those from one on, up to another, have lower ids than a bound, and the one that is reached has not.
pub record Passed (s : List ℕ) (m : Members) (from bound to : ℕ) : Type 0 where
  pub behind : from ≤ to
  pub within : to ≤ m.count
  pub lower : (k : ℕ) → from ≤ k → k < to → member_id s m k < bound
  pub stops : to < m.count → bound ≤ member_id s m to

-- By what a table tells of a field: up to its id, and none if it has no id.
pub data PassedBy (s : List ℕ) (m : Members) (from : ℕ) : Option InputId → (to : ℕ) → Type 0 where
  up_to : (id : InputId) (to : ℕ) → Passed s m from id.0 to → PassedBy s m from (Some id) to
  none : PassedBy s m from None from

-- A member is a field's, by what the table tells of the field.
unfoldable pub is_member : List ℕ → Members → (k : ℕ) → Option InputId → Bool
is_member s m k (Some id) = ltb k m.count && eqb id.0 (member_id s m k)
is_member s m k None = false

-- ---- fields that are all missing

-- An empty place for each.
unfoldable pub empties : SchemaFields → List ℕ
empties none_named = []
empties (named name node more) = frame 0x50 [] ++ empties more
