-- A side of a box as it is read, and what its readers ask.
use Rattle.std.specs.Prelude.{true, cond, ◌&&◌, List, ◌≡◌, ℕ, ◌≤◌, Float, length, Option, None, Some}
use Rattle.std.specs.Float.Ieee.{is_nan, le}
use Rattle.paper.specs.Bounds.{most_walked}
use Rattle.paper.specs.Limits.{most_levels}
use Rattle.paper.specs.Meaning.{Fields}
use Rattle.paper.specs.Metadata.{Dictionary}
use Rattle.paper.specs.Values.{children_at, names_at, member_docs, meaning_of}
use Rattle.paper.specs.Words.{given, is_there, all_below}
use Rattle.paper.specs.declared.Child.{Child}
use Rattle.paper.specs.declared.LotBox.{LotBox}

-- A double that is in an order. A NaN is in none, so it is no side of a box.
unfoldable pub side_by : Option Float → Option Float
side_by None = None
side_by (Some x) = cond (is_nan x) None (Some x)

-- Four sides are a box if west is at most east and south at most north.
unfoldable pub box_of_sides : (e n s w : Float) → Option LotBox
box_of_sides e n s w = given (le w e && le s n) (Some (record { east = e; north = n; south = s; west = w }))

-- A lawful value of at most 65,536 bytes.
pub record Lawful (names : Dictionary) (value : List ℕ) : Type 0 where
  pub means : is_there (meaning_of most_levels names value) ≡ true
  pub small : length value ≤ most_walked

-- The fields that an opened object means: each is what a child means, under the name of its id.
pub record Means (names : Dictionary) (ids starts area : List ℕ) (fields : Fields) : Type 0 where
  pub levels : ℕ
  pub children : List Child
  pub are : children_at area starts ≡ Some children
  pub docs : member_docs (meaning_of levels names) area (names_at names ids) children ≡ Some fields

-- A lawful object, opened: it means some fields, and has an id of a name for each child.
pub record LawfulObject (names : Dictionary) (ids starts area : List ℕ) : Type 0 where
  pub fields : Fields
  pub means : Means names ids starts area fields
  pub below : all_below (length names) ids ≡ true
  pub count : length ids ≡ length starts
