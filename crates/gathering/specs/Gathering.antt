-- What gathering asks of bytes: they are lawful under a dictionary for whose names the table of marks has room. And what it
-- tells of some places at once.
use Rattle.std.specs.Prelude.{List, [], ◌≡◌, ℕ, ◌≤◌, length}
use Rattle.paper.specs.Bounds.{most_walked}
use Rattle.paper.specs.Metadata.{Dictionary}
use Rattle.paper.specs.Schemas.{Schema}
use Rattle.rebuilt.specs.There.{PlaceThere, TypedThere, ElementsThere, MembersThere}
use Rattle.rebuilt.specs.Using.{place_ids}
use Rattle.schemas.specs.Positions.{Stands}

-- Of a place, by the body of its frame.
pub record PlaceReady (levels : ℕ) (schema table : List ℕ) (node : ℕ) (body : List ℕ) (size : ℕ) : Type 0 where
  pub names : Dictionary
  pub there : PlaceThere levels names schema table node body
  pub room : length names ≤ size
  pub small : length body ≤ most_walked

-- Of what is typed in one.
pub record TypedReady (levels : ℕ) (schema table : List ℕ) (node : ℕ) (body : List ℕ) (size : ℕ) : Type 0 where
  pub names : Dictionary
  pub there : TypedThere levels names schema table node body
  pub room : length names ≤ size
  pub small : length body ≤ most_walked

-- Of a list's places.
pub record ElementsReady (levels : ℕ) (schema table : List ℕ) (node : ℕ) (body : List ℕ) (size : ℕ) : Type 0 where
  pub names : Dictionary
  pub there : ElementsThere levels names schema table node body
  pub room : length names ≤ size
  pub small : length body ≤ most_walked

-- Of an object's places, under fields that stand between two positions.
pub record MembersReady (levels : ℕ) (schema table : List ℕ) (from to : ℕ) (body : List ℕ) (size : ℕ) : Type 0 where
  pub names : Dictionary
  pub there : MembersThere levels names schema table from to body
  pub room : length names ≤ size
  pub small : length body ≤ most_walked

-- A place uses no id under the node that stands at a position.
pub record Plain (schema : List ℕ) (node : ℕ) (body : List ℕ) : Type 0 where
  pub none_used : (levels : ℕ) (table : List ℕ) (under : Schema) → Stands levels schema node under → place_ids under levels schema table node body ≡ []
