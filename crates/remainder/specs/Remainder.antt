-- What is left over of an object in normal form beside what is typed: the fields that its node does not name.
use Rattle.std.specs.Prelude.{true, List, [], ◌≡◌, ℕ, ◌*◌, ◌/◌, ◌≤◌, ◌<◌, length, get_or}
use Rattle.fields.specs.Telling.{FieldsTold}
use Rattle.forms.specs.WellFormed.{all_members, well_formed, field_names_there}
use Rattle.members.specs.Members.{Held}
use Rattle.members.specs.declared.Members.{Members}
use Rattle.paper.specs.Bounds.{most_names}
use Rattle.paper.specs.Framing.{frame}
use Rattle.paper.specs.Limits.{most_schema, most_value}
use Rattle.paper.specs.Meaning.{object, Fields, no_fields, field}
use Rattle.paper.specs.Metadata.{Dictionary, rising}
use Rattle.paper.specs.Normal.{field_names, value_bytes}
use Rattle.paper.specs.Schemas.{SchemaFields}
use Rattle.schemas.specs.Positions.{FieldsStand}

-- One leftover object, none if nothing is left.
unfoldable pub rest_bytes : Dictionary → Fields → List ℕ
rest_bytes names no_fields = []
rest_bytes names (field name d fs) = frame 0x41 (value_bytes names (object (field name d fs)))

-- What stays the same in a document that is cut: its dictionary rises, and each of its ids is its own normal id; the schema is
-- short, and the table has an entry for each of its fields.
pub record Ground (names : Dictionary) (ranks schema table : List ℕ) : Type 0 where
  pub rises : rising names ≡ true
  pub few : length names ≤ most_names
  pub ranked : length names ≤ length ranks
  pub own : (id : ℕ) → id < length names → get_or ranks id 0 ≡ id
  pub schema_short : length schema ≤ most_schema
  pub tabled : length schema / 9 ≤ length table

-- An object under the fields that stand between two positions, with tables of so many entries for what is noted.
pub record RestReady (ranks schema table : List ℕ) (from to : ℕ) (s : List ℕ) (m : Members) (notes ids : ℕ) : Type 0 where
  pub names : Dictionary
  pub columns : SchemaFields
  pub fs : Fields
  pub levels : ℕ
  pub depth : ℕ
  pub ground : Ground names ranks schema table
  pub stand : FieldsStand levels schema from to columns
  pub told : FieldsTold names schema table columns from
  pub held : Held names s m fs
  pub rise : rising (field_names fs) ≡ true
  pub good : all_members (well_formed depth) fs ≡ true
  pub there : field_names_there names fs ≡ true
  pub short : length s ≤ most_value
  pub notes_room : m.count ≤ notes
  pub ids_room : 2 * m.count ≤ ids
