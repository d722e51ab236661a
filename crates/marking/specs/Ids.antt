-- The ids of the objects inside a value: an object's own, then those inside its children.
use Rattle.std.specs.Prelude.{Bool, false, ◌||◌, List, [], ◌∷◌, ◌++◌, ℕ, zero, suc, eqb, set, Option, None, Some}
use Rattle.paper.specs.FirstBytes.{reading_of}
use Rattle.paper.specs.Values.{children_at, child_bytes, area_of, starts_of, ids_of}
use Rattle.paper.specs.declared.Child.{Child}
use Rattle.paper.specs.Words.{at}
use Rattle.paper.specs.declared.Reading.{Reading}
use Rattle.paper.specs.declared.Reading.TheVariants.{Fixed, Prefixed, Short, ObjectHead, ArrayHead, Nothing}

-- Inside children, by what gives the ids inside one.
unfoldable pub ids_of_all : (List ℕ → List ℕ) → List ℕ → List Child → List ℕ
ids_of_all inner area [] = []
ids_of_all inner area (child ∷ more) = inner (child_bytes area child) ++ ids_of_all inner area more

unfoldable pub ids_inside : (List ℕ → List ℕ) → List ℕ → Option (List Child) → List ℕ
ids_inside inner area None = []
ids_inside inner area (Some children) = ids_of_all inner area children

unfoldable pub ids_by : (List ℕ → List ℕ) → Reading → List ℕ → List ℕ
ids_by inner (Fixed type size) s = []
ids_by inner (Prefixed type) s = []
ids_by inner (Short size) s = []
ids_by inner (ObjectHead count id offset) s =
    ids_of count id s ++ ids_inside inner (area_of count id offset s) (children_at (area_of count id offset s) (starts_of count id offset s))
ids_by inner (ArrayHead count offset) s =
    ids_inside inner (area_of count 0 offset s) (children_at (area_of count 0 offset s) (starts_of count 0 offset s))
ids_by inner Nothing s = []

-- Within so many levels.
unfoldable pub ids_in : (levels : ℕ) → List ℕ → List ℕ
ids_in zero s = []
ids_in (suc levels) s = ids_by (ids_in levels) (reading_of (at s 0)) s

-- Ids marked in a table, 1 each.
unfoldable pub mark_ids : List ℕ → List ℕ → List ℕ
mark_ids used [] = used
mark_ids used (id ∷ more) = mark_ids (set used id 1) more

-- A number is among some.
unfoldable pub holds : ℕ → List ℕ → Bool
holds n [] = false
holds n (first ∷ more) = eqb first n || holds n more
