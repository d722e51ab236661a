-- What the noting functions stand on, and what they add to the tables.
use Rattle.std.specs.Prelude.{true, cond, List, [], ◌∷◌, ◌++◌, ◌≡◌, ℕ, ◌+◌, ◌-◌, ◌*◌, ◌≤◌, ltb, length, drop}
use Rattle.paper.specs.Bounds.{most_names, most_walked}
use Rattle.paper.specs.Limits.{most_row}
use Rattle.paper.specs.Metadata.{Dictionary}
use Rattle.paper.specs.Words.{all_below}
use Rattle.rebuilt.specs.There.{ElementsThere, MembersThere}
use Rattle.noting.specs.Notes.{Note, note_rank, Noted}

-- ---- what is walked

-- Some bytes are a list's places, under some node.
pub record SomeElements (body : List ℕ) : Type 0 where
  pub levels : ℕ
  pub names : Dictionary
  pub schema : List ℕ
  pub table : List ℕ
  pub node : ℕ
  pub there : ElementsThere levels names schema table node body

-- Some bytes are an object's places, under a dictionary that has each id of a leftover and is numbered in a table.
pub record SomeMembers (ranks schema table : List ℕ) (from to : ℕ) (left_ids body : List ℕ) : Type 0 where
  pub levels : ℕ
  pub names : Dictionary
  pub there : MembersThere levels names schema table from to body
  pub few : length names ≤ most_names
  pub ranked : length names ≤ length ranks
  pub known : all_below (length names) left_ids ≡ true

-- A leftover's members: their ids, and where each starts.
pub record LeftRun (left_ids starts : List ℕ) : Type 0 where
  pub as_many : length starts ≡ length left_ids
  pub starts_low : all_below most_row starts ≡ true

-- Its ids are in a table, and two bytes hold each.
pub record RunRanked (ranks left_ids : List ℕ) : Type 0 where
  pub inside : all_below (length ranks) left_ids ≡ true
  pub low : all_below most_walked left_ids ≡ true

-- There is room for so many notes.
pub record NoteRoom (places ids : List ℕ) (count : ℕ) : Type 0 where
  pub places_room : 2 * count ≤ length places
  pub ids_room : 2 * count ≤ length ids

-- ---- what is added

-- Notes were added behind whatever notes stood in the tables.
pub record Added (more : List Note) (places ids : List ℕ) (count : ℕ) (places-after ids-after : List ℕ) (count-after : ℕ) : Type 0 where
  pub places_size : length places-after ≡ length places
  pub ids_size : length ids-after ≡ length ids
  pub noted : (notes : List Note) → Noted notes places ids count → Noted (notes ++ more) places-after ids-after count-after

-- The notes in front of the first one whose normal id is not below a bound, and those from there on.
unfoldable pub low_notes : (ranks : List ℕ) → (bound : ℕ) → List Note → List Note
low_notes ranks bound [] = []
low_notes ranks bound (note ∷ notes) = cond (ltb (note_rank ranks note) bound) (note ∷ low_notes ranks bound notes) []

unfoldable pub high_notes : (ranks : List ℕ) → (bound : ℕ) → List Note → List Note
high_notes ranks bound [] = []
high_notes ranks bound (note ∷ notes) = cond (ltb (note_rank ranks note) bound) (high_notes ranks bound notes) (note ∷ notes)

-- Of a leftover's members from one on those below a bound were added; the next one is the first that was not.
pub record LeftAdded (ranks : List ℕ) (lefts : List Note) (from count bound : ℕ) (places ids : List ℕ) (n : ℕ) (places-after ids-after : List ℕ) (next : ℕ) : Type 0 where
  pub forward : from ≤ next
  pub within : next ≤ count
  pub left : drop next lefts ≡ high_notes ranks bound (drop from lefts)
  pub added : Added (low_notes ranks bound (drop from lefts)) places ids n places-after ids-after (n + (next - from))

-- The same in front of a typed member, and that member behind them.
pub record FieldAdded (ranks : List ℕ) (lefts : List Note) (note : Note) (from count : ℕ) (places ids : List ℕ) (n : ℕ) (places-after ids-after : List ℕ) (next : ℕ) : Type 0 where
  pub forward : from ≤ next
  pub within : next ≤ count
  pub left : drop next lefts ≡ high_notes ranks (note_rank ranks note) (drop from lefts)
  pub added : Added (low_notes ranks (note_rank ranks note) (drop from lefts) ++ (note ∷ [])) places ids n places-after ids-after (n + (next - from) + 1)
