-- What the walks through a lawful row stand on: a node of a good schema, the table that tells of its fields, and bytes that
-- are lawful under it.
use Rattle.std.specs.Prelude.{true, List, [], ◌≡◌, ℕ, ◌/◌, ◌≤◌, length, get_or}
use Rattle.fields.specs.Telling.{Told, FieldsTold}
use Rattle.marking.specs.Ids.{holds}
use Rattle.paper.specs.Bounds.{most_names}
use Rattle.paper.specs.Metadata.{Dictionary}
use Rattle.paper.specs.Schemas.{Schema, SchemaFields}
use Rattle.paper.specs.Words.{among, all_below}
use Rattle.places.specs.Verdicts.{typed_verdict, place_verdict, elements_verdict, members_verdict}
use Rattle.places.specs.declared.verdicts.Verdict.TheVariants.{Lawful}
use Rattle.schemas.specs.Positions.{Stands, FieldsStand}
use Rattle.writing.specs.Written.{Right}

-- A place, by the body of its frame.
pub record PlaceThere (levels : ℕ) (names : Dictionary) (schema table : List ℕ) (node : ℕ) (body : List ℕ) : Type 0 where
  pub tabled : length schema / 9 ≤ length table
  pub under : Schema
  pub stands : Stands levels schema node under
  pub told : Told names schema table under node
  pub lawful : place_verdict under levels names body ≡ Lawful

-- What is typed in one.
pub record TypedThere (levels : ℕ) (names : Dictionary) (schema table : List ℕ) (node : ℕ) (body : List ℕ) : Type 0 where
  pub tabled : length schema / 9 ≤ length table
  pub under : Schema
  pub stands : Stands levels schema node under
  pub told : Told names schema table under node
  pub lawful : typed_verdict under levels names body ≡ Lawful

-- A list's places, under the element node.
pub record ElementsThere (levels : ℕ) (names : Dictionary) (schema table : List ℕ) (node : ℕ) (body : List ℕ) : Type 0 where
  pub tabled : length schema / 9 ≤ length table
  pub element : Schema
  pub stands : Stands levels schema node element
  pub told : Told names schema table element node
  pub lawful : elements_verdict element levels names body ≡ Lawful

-- An object's places, under fields that stand between two positions.
pub record MembersThere (levels : ℕ) (names : Dictionary) (schema table : List ℕ) (from to : ℕ) (body : List ℕ) : Type 0 where
  pub tabled : length schema / 9 ≤ length table
  pub columns : SchemaFields
  pub stand : FieldsStand levels schema from to columns
  pub told : FieldsTold names schema table columns from
  pub lawful : members_verdict columns levels names body ≡ Lawful

-- Some ids of a dictionary are numbered in a table: each has there its name's place in the normal dictionary.
pub record Numbered (names normal : Dictionary) (ranks ids : List ℕ) : Type 0 where
  pub below : all_below (length ranks) ids ≡ true
  pub right : Right names normal ranks ids
  pub there : (id : ℕ) → holds id ids ≡ true → among (get_or names id []) normal ≡ true
  pub few : length normal ≤ most_names
