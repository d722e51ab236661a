-- Words that demands 2 and 4 share: from a row's outermost place along a path of names and indexes, and along the schema with it.
use Rattle.std.specs.Prelude.{Bool, true, cond, List, [], ◌∷◌, ◌≡◌, ℕ, zero, suc, Option, None, Some}
use Rattle.paper.specs.Rows.{Place, empty, leftover, typed, both, Typed, cell, inner, Places, no_places, place}
use Rattle.paper.specs.Schemas.{Schema, leftover_only, column, list, fields, SchemaFields, none_named, named, schema_of}
use Rattle.paper.specs.Standing.{Step, by_name, by_index}
use Rattle.paper.specs.Words.{same, and_then}
use Rattle.written.specs.Everywhere.{everywhere}

-- A place, and the node that it stands under.
pub record Stop : Type 0 where
  pub node : Schema
  pub held : Place

-- The inner places of what is typed in a place; none where nothing is, or a cell.
unfoldable pub inner_in : Typed → Places
inner_in (cell said value) = no_places
inner_in (inner ps) = ps

unfoldable pub inner_of : Place → Places
inner_of empty = no_places
inner_of (leftover d) = no_places
inner_of (typed t) = inner_in t
inner_of (both d t) = inner_in t

-- A list's place of an index, counted from 0.
unfoldable pub place_number : (index : ℕ) → Places → Option Place
place_number index no_places = None
place_number zero (place p ps) = Some p
place_number (suc index) (place p ps) = place_number index ps

-- An object's place of a name, with its node.
unfoldable pub place_named : (name : List ℕ) → SchemaFields → Places → Option Stop
place_named name none_named ps = None
place_named name (named own node columns) no_places = None
place_named name (named own node columns) (place p ps) =
    cond (same own name) (Some (record { node = node; held = p })) (place_named name columns ps)

-- Where one step leads: by an index into a list, by a name into an object.
unfoldable pub step_to : Schema → Place → Step → Option Stop
step_to leftover_only p step = None
step_to (column said) p step = None
step_to (list element) p (by_index index) = and_then (place_number index (inner_of p)) λ q. Some (record { node = element; held = q })
step_to (list element) p (by_name name) = None
step_to (fields columns) p (by_name name) = place_named name columns (inner_of p)
step_to (fields columns) p (by_index index) = None

-- Where a path leads. The empty path is the place itself.
unfoldable pub place_at : Schema → Place → List Step → Option Stop
place_at node p [] = Some (record { node = node; held = p })
place_at node p (step ∷ more) = and_then (step_to node p step) λ next. place_at next.node next.held more

-- Every place is reached: under a good schema, what holds wherever a path leads holds at a place and at all inside it. So 'at every
-- place, at any depth' may be said by paths.
abbrev pub EveryPlaceReached : Type 0
EveryPlaceReached =
    (test : Schema → Place → Bool) (schema : List ℕ) (node : Schema) (p : Place) → schema_of schema ≡ Some node
    → ((path : List Step) (stop : Stop) → place_at node p path ≡ Some stop → test stop.node stop.held ≡ true)
    → everywhere test node p ≡ true
