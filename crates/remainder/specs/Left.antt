-- The members of an object that its node does not name, noted in tables: which they are, and their ids in two bytes each.
use Rattle.std.specs.Prelude.{List, map, ◌≡◌, ℕ, ◌*◌, ◌≤◌, ◌<◌, length, get_or, take}
use Rattle.members.specs.Members.{PartThere, member_part}
use Rattle.members.specs.declared.Members.{Members}
use Rattle.paper.specs.Meaning.{Fields}
use Rattle.paper.specs.Metadata.{Dictionary}
use Rattle.paper.specs.Normal.{id_of, field_names, member_bytes}
use Rattle.paper.specs.Schemas.{column_names}
use Rattle.paper.specs.Shredding.{unnamed}
use Rattle.paper.specs.Words.{numbers}
use Rattle.remainder.specs.Remainder.{RestReady}

-- A table starts with so many members that can be read.
pub record NotedThere (s : List ℕ) (m : Members) (notes : List ℕ) (count : ℕ) : Type 0 where
  pub room : count ≤ length notes
  pub there : (i : ℕ) → i < count → PartThere s m (get_or notes i 0)

-- Their bytes.
abbrev pub noted_parts : List ℕ → Members → (notes : List ℕ) → (count : ℕ) → List (List ℕ)
noted_parts s m notes count = map (λ (k : ℕ). member_part s m k) (take count notes)

-- They are those of some fields.
pub record LeftNoted (names : Dictionary) (left : Fields) (s : List ℕ) (m : Members) (notes ids : List ℕ) (count : ℕ) : Type 0 where
  pub within : count ≤ m.count
  pub noted : NotedThere s m notes count
  pub parts_are : noted_parts s m notes count ≡ member_bytes names left
  pub ids_room : 2 * count ≤ length ids
  pub ids_are : numbers 2 count ids ≡ map (id_of names) (field_names left)

-- An object under its node's fields, whatever table its ids are ranked by.
pub record SomeReady (schema table : List ℕ) (from to : ℕ) (s : List ℕ) (m : Members) (notes_room ids_room : ℕ) : Type 0 where
  pub ranks : List ℕ
  pub ready : RestReady ranks schema table from to s m notes_room ids_room

-- For each such reading of what was lent.
pub record AllLeft (schema table : List ℕ) (from to : ℕ) (s : List ℕ) (m : Members) (notes_room ids_room : ℕ) (notes ids : List ℕ) (count : ℕ) : Type 0 where
  pub each : (some : SomeReady schema table from to s m notes_room ids_room)
      → LeftNoted some.ready.names (unnamed (column_names some.ready.columns) some.ready.fs) s m notes ids count
