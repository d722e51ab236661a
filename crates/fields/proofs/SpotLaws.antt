-- The fields of a schema as one list, in the order of their positions: a table that tells of each of them tells of the
-- schema.
use mathlib.Core.List.{List, [], ◌∷◌, ◌++◌}
use Prim.Native.Nat.{ℕ, ◌+◌}
use Rattle.fields.specs.Telling.{looked_at, Told, leftover_told, column_told, list_told, object_told, FieldsTold, none_told, field_told}
use Rattle.lookup.specs.Looking.{Tells}
use Rattle.paper.specs.Metadata.{Dictionary}
use Rattle.paper.specs.Schemas.{Schema, leftover_only, column, list, fields, SchemaFields, none_named, named}
use Rattle.schemas.specs.Frames.{frame_end}
use Rattle.schemas.specs.Positions.{field_node}

-- A field: its position and its name.
pub record Spot : Type 0 where
  pub place : ℕ
  pub name : List ℕ

unfoldable mutual
  pub spots_in : (schema : List ℕ) → Schema → (place : ℕ) → List Spot
  spots_in s leftover_only place = []
  spots_in s (column said) place = []
  spots_in s (list element) place = spots_in s element (place + 3)
  spots_in s (fields columns) place = spots_of s columns (place + 3)

  pub spots_of : (schema : List ℕ) → SchemaFields → (place : ℕ) → List Spot
  spots_of s none_named place = []
  spots_of s (named name node more) place =
      record { place = place; name = name } ∷ (spots_in s node (field_node s place) ++ spots_of s more (frame_end s place))

module _ (names : Dictionary) (table : List ℕ) where
  unfoldable pub AllTold : List Spot → Type 0
  AllTold [] = Unit {0}
  AllTold (spot ∷ more) = Tells names spot.name (looked_at table spot.place) × AllTold more

  pub told_both : (first second : List Spot) → AllTold (first ++ second) → AllTold first × AllTold second
  unfolding AllTold
  told_both [] second told = (tt, told)
  told_both (spot ∷ first) second told = let more = told_both first second told.1 in ((told.0, more.0), more.1)

  pub told_behind : (first : List Spot) (spot : Spot) → AllTold first → Tells names spot.name (looked_at table spot.place) → AllTold (first ++ (spot ∷ []))
  unfolding AllTold
  told_behind [] spot told last = (last, tt)
  told_behind (other ∷ first) spot told last = (told.0, told_behind first spot told.1 last)

  mutual
    unfolding AllTold spots_in spots_of

    pub told_in : (s : List ℕ) (node : Schema) (place : ℕ) → AllTold (spots_in s node place) → Told names s table node place
    told_in s leftover_only place told = leftover_told
    told_in s (column said) place told = column_told
    told_in s (list element) place told = list_told (told_in s element (place + 3) told)
    told_in s (fields columns) place told = object_told (told_of s columns (place + 3) told)

    pub told_of : (s : List ℕ) (columns : SchemaFields) (place : ℕ) → AllTold (spots_of s columns place) → FieldsTold names s table columns place
    told_of s none_named place told = none_told
    told_of s (named name node more) place told =
        let parts = told_both (spots_in s node (field_node s place)) (spots_of s more (frame_end s place)) told.1 in
        field_told told.0 (told_in s node (field_node s place) parts.0) (told_of s more (frame_end s place) parts.1)
