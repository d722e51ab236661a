-- The normal form of a lawful value, read off its own bytes: scalars as they stand, but short strings; containers from
-- the normal forms of their children. An id is changed by its place in a table.
use Rattle.std.specs.Prelude.{cond, ◌&&◌, List, [], ◌∷◌, map, ℕ, zero, suc, ◌+◌, ◌-◌, ◌*◌, leb, eqb, length, get_or, drop, Option, None, Some}
use Rattle.paper.specs.FirstBytes.{reading_of}
use Rattle.paper.specs.Normal.{array_bytes, object_bytes}
use Rattle.paper.specs.Values.{child_extent, child_bytes, area_of, starts_of, ids_of}
use Rattle.paper.specs.Words.{at}
use Rattle.paper.specs.declared.Reading.{Reading}
use Rattle.paper.specs.declared.Reading.TheVariants.{Fixed, Prefixed, Short, ObjectHead, ArrayHead, Nothing}

-- The normal ids of ids.
unfoldable pub ranks_at : List ℕ → List ℕ → List ℕ
ranks_at ranks ids = map (λ (id : ℕ). get_or ranks id 0) ids

-- A string of at most 63 bytes that has its length in front gets one first byte instead.
unfoldable pub shortened : ℕ → List ℕ → List ℕ
shortened type s = cond (eqb type 16 && leb (length s) 68) ((4 * (length s - 5) + 1) ∷ drop 5 s) s

-- The child at a start, by what rewrites one.
unfoldable pub sized_part : (List ℕ → List ℕ) → List ℕ → (start : ℕ) → Option ℕ → List ℕ
sized_part inner area start None = []
sized_part inner area start (Some size) = inner (child_bytes area (record { start = start; size = size }))

unfoldable pub part_at : (List ℕ → List ℕ) → List ℕ → (start : ℕ) → List ℕ
part_at inner area start = sized_part inner area start (child_extent area start)

-- The children at some starts of an area.
abbrev pub parts_in : (List ℕ → List ℕ) → (area starts : List ℕ) → List (List ℕ)
parts_in inner area starts = map (part_at inner area) starts

-- A container's children in field order.
unfoldable pub parts_of : (List ℕ → List ℕ) → (count_bytes id_bytes offset_bytes : ℕ) → List ℕ → List (List ℕ)
parts_of inner c i w s = parts_in inner (area_of c i w s) (starts_of c i w s)

unfoldable pub rewritten_by : (List ℕ → List ℕ) → (ranks : List ℕ) → Reading → List ℕ → List ℕ
rewritten_by inner ranks (Fixed type size) s = s
rewritten_by inner ranks (Prefixed type) s = shortened type s
rewritten_by inner ranks (Short size) s = s
rewritten_by inner ranks (ObjectHead c i w) s = object_bytes (ranks_at ranks (ids_of c i s)) (parts_of inner c i w s)
rewritten_by inner ranks (ArrayHead c w) s = array_bytes (parts_of inner c 0 w s)
rewritten_by inner ranks Nothing s = []

-- Within so many levels.
unfoldable pub rewritten : (levels : ℕ) → (ranks : List ℕ) → List ℕ → List ℕ
rewritten zero ranks s = []
rewritten (suc levels) ranks s = rewritten_by (rewritten levels ranks) ranks (reading_of (at s 0)) s
