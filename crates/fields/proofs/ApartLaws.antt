-- The fields of a schema stand nine bytes apart or more, so what is told of one stays told when a later one is entered.
use mathlib.Core.List.{List, [], ◌∷◌, ◌++◌}
use Prim.Native.Nat.{ℕ, ◌+◌, ◌-◌, ◌≤◌}
use native.Mathlib.Nat.{le_refl}
use native.Mathlib.Omega.{arith}
use lib.ListN.{set}
use Rattle.fields.proofs.EntryLaws.{entered_behind}
use Rattle.fields.proofs.SpotLaws.{Spot, spots_in, spots_of, AllTold}
use Rattle.fields.specs.Telling.{entry_place}
use Rattle.paper.specs.Metadata.{Dictionary}
use Rattle.paper.specs.Schemas.{Schema, leftover_only, column, list, fields, SchemaFields, none_named, named}
use Rattle.schemas.proofs.FieldsStandLaws.{field_stands}
use Rattle.schemas.proofs.StandingLaws.{list_stands, object_stands}
use Rattle.schemas.specs.Frames.{frame_end}
use Rattle.schemas.specs.Positions.{field_node, Stands, FieldsStand}

-- Between two positions, each nine bytes or more in front of the next.
pub data Apart : (from to : ℕ) → List Spot → Type 0 where
  no_spot : {from to : ℕ} → from ≤ to → Apart from to []
  spot_then : {from to : ℕ} {spot : Spot} {more : List Spot} → from ≤ spot.place → Apart (spot.place + 9) to more → Apart from to (spot ∷ more)

apart_earlier : {from earlier to : ℕ} {spots : List Spot} → earlier ≤ from → Apart from to spots → Apart earlier to spots
apart_earlier {earlier = earlier} {to = to} h (no_spot ordered) = let still : earlier ≤ to = omega arith in no_spot still
apart_earlier {earlier = earlier} h (spot_then {spot = spot} first rest) = let still : earlier ≤ spot.place = omega arith in spot_then {spot = spot} still rest

apart_join : {from middle to : ℕ} {first second : List Spot} → Apart from middle first → Apart middle to second → Apart from to (first ++ second)
apart_join (no_spot ordered) more = apart_earlier ordered more
apart_join (spot_then {spot = spot} first rest) more = spot_then {spot = spot} first (apart_join rest more)

-- ---- of a schema

module _ (s : List ℕ) where
  head_in : (place : ℕ) → place + 3 ≤ frame_end s place
  head_in place = omega arith

  mutual
    unfolding spots_in spots_of

    pub node_apart : (node : Schema) (levels place : ℕ) → Stands levels s place node → Apart (place + 3) (frame_end s place) (spots_in s node place)
    node_apart leftover_only levels place stands = no_spot (head_in place)
    node_apart (column said) levels place stands = no_spot (head_in place)
    node_apart (list element) levels place stands =
        let here = list_stands stands in
        let further : place + 3 ≤ place + 3 + 3 = omega arith in
        rw here.fills at (apart_earlier further (node_apart element (levels - 1) (place + 3) here.inside))
    node_apart (fields columns) levels place stands =
        fields_apart columns (levels - 1) (place + 3) (frame_end s place) (object_stands stands).inside

    pub fields_apart : (columns : SchemaFields) (levels place to : ℕ) → FieldsStand levels s place to columns → Apart place to (spots_of s columns place)
    fields_apart none_named levels place to stand = no_spot stand.ordered
    fields_apart (named name node more) levels place to stand =
        let here = field_stands stand in
        let inner : Apart (field_node s place + 3) (frame_end s place) (spots_in s node (field_node s place)) =
        rw here.fills at (node_apart node levels (field_node s place) here.inside) in
        let rest : Apart (frame_end s place) to (spots_of s more (frame_end s place)) = fields_apart more levels (frame_end s place) to here.behind in
        let far : place + 9 ≤ field_node s place + 3 = omega arith in
        spot_then (le_refl place) (apart_earlier far (apart_join inner rest))

-- ---- of what is told

-- Those in front of a field are nine bytes away.
apart_front : {from to : ℕ} (front : List Spot) (spot : Spot) (more : List Spot) → Apart from to (front ++ (spot ∷ more)) → from ≤ spot.place
apart_front [] spot more (spot_then first rest) = first
apart_front {from = from} {to = to} (other ∷ front) spot more (spot_then first rest) =
    let far = apart_front {from = other.place + 9} front spot more rest in omega arith

pub told_kept : (names : Dictionary) (table : List ℕ) (entry : ℕ) {from to : ℕ} (front : List Spot) (spot : Spot) (more : List Spot)
    → Apart from to (front ++ (spot ∷ more)) → AllTold names table front → AllTold names (set table (entry_place spot.place) entry) front
unfolding AllTold
told_kept names table entry [] spot more apart told = tt
told_kept names table entry {from = from} {to = to} (other ∷ front) spot more (spot_then first rest) told =
    let far : other.place + 9 ≤ spot.place = apart_front front spot more rest in
    (rw (entered_behind table spot.place entry other.place far) told.0, told_kept names table entry {from = other.place + 9} front spot more rest told.1)
