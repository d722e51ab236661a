-- The members of a container in normal form, by position: they stand one behind the other in the order of its offsets, so a
-- member ends where the next one starts, and the last where the container does.
use Rattle.std.specs.Prelude.{List, [], map, ◌≡◌, ℕ, ◌+◌, ◌*◌, ◌≤◌, ◌<◌, length, get_or}
use Rattle.numbers.specs.Little.{number_at}
use Rattle.paper.specs.Bounds.{most_walked}
use Rattle.paper.specs.Meaning.{Doc, Fields, no_fields, field}
use Rattle.paper.specs.Metadata.{Dictionary}
use Rattle.paper.specs.Normal.{id_of, field_names, value_bytes, member_bytes}
use Rattle.paper.specs.Values.{head_size_of}
use Rattle.paper.specs.Words.{part}
use Rattle.members.specs.declared.Members.{Members}

-- Where a member starts in the area; one more than the last would start where the area ends.
abbrev pub start_at : List ℕ → Members → ℕ → ℕ
start_at s m k = number_at s (m.starts + k * m.offset) m.offset

abbrev pub member_part : List ℕ → Members → ℕ → List ℕ
member_part s m k = part s (m.area + start_at s m k) (m.area + start_at s m (k + 1))

abbrev pub member_id : List ℕ → Members → ℕ → ℕ
member_id s m k = number_at s (m.ids + k * m.id) m.id

-- ---- where they stand: behind the first byte and the count the ids, then the starts, then the area

pub record MembersAt (s : List ℕ) (counted id width : ℕ) (m : Members) : Type 0 where
  pub count_is : m.count ≡ number_at s 1 counted
  pub ids_is : m.ids ≡ 1 + counted
  pub id_is : m.id ≡ id
  pub starts_is : m.starts ≡ 1 + counted + m.count * id
  pub offset_is : m.offset ≡ width
  pub area_is : m.area ≡ head_size_of m.count counted id width

-- ---- what can be read

pub record PartThere (s : List ℕ) (m : Members) (k : ℕ) : Type 0 where
  pub below : k < m.count
  pub few : m.count ≤ most_walked
  pub least : 1 ≤ m.offset
  pub most : m.offset ≤ 4
  pub starts_in : m.starts + (m.count + 1) * m.offset ≤ length s
  pub small : length s ≤ most_walked
  pub rises : start_at s m k ≤ start_at s m (k + 1)
  pub area_in : m.area + start_at s m (k + 1) ≤ length s

pub record IdThere (s : List ℕ) (m : Members) (k : ℕ) : Type 0 where
  pub below : k < m.count
  pub few : m.count ≤ most_walked
  pub least : 1 ≤ m.id
  pub most : m.id ≤ 4
  pub ids_in : m.ids + m.count * m.id ≤ length s
  pub small : length s ≤ most_walked

-- ---- what stands there

-- These parts.
pub record Parted (s : List ℕ) (m : Members) (parts : List (List ℕ)) : Type 0 where
  pub counted : m.count ≡ length parts
  pub there : (k : ℕ) → k < m.count → PartThere s m k
  pub are : (k : ℕ) → k < m.count → member_part s m k ≡ get_or parts k []

-- These ids.
pub record Identified (s : List ℕ) (m : Members) (ids : List ℕ) : Type 0 where
  pub counted : m.count ≡ length ids
  pub there : (k : ℕ) → k < m.count → IdThere s m k
  pub are : (k : ℕ) → k < m.count → member_id s m k ≡ get_or ids k 0

-- These fields of an object, under a normal dictionary.
pub record Held (names : Dictionary) (s : List ℕ) (m : Members) (fs : Fields) : Type 0 where
  pub parts : Parted s m (member_bytes names fs)
  pub ids : Identified s m (map (id_of names) (field_names fs))

-- These fields from one member on.
pub data From (names : Dictionary) (s : List ℕ) (m : Members) : ℕ → Fields → Type 0 where
  ended : {k : ℕ} → k ≡ m.count → From names s m k no_fields
  further : {k : ℕ} {name : List ℕ} {d : Doc} {fs : Fields} → PartThere s m k → IdThere s m k → member_id s m k ≡ id_of names name
      → member_part s m k ≡ value_bytes names d → From names s m (k + 1) fs → From names s m k (field name d fs)
