-- The id of a schema field: where its place has bytes it is marked, else none is.
use Rattle.std.specs.Prelude.{Some, None, Option}
use mathlib.Core.Bool.{true, false}
use mathlib.Core.List.{List, [], ◌∷◌, ◌++◌}
use mathlib.Core.Path.{◌≡◌, refl, sym}
use Prim.Native.Nat.{ℕ}
use native.Mathlib.Omega.{arith}
use borrow.Author.Tests.{eqb-true, eqb-false}
use lib.Dec.{eqb}
use lib.ListN.{length, set}
use Rattle.dictionary.specs.declared.ids.InputId.{InputId}
use Rattle.marking.specs.Ids.{mark_ids}
use Rattle.rebuilt.specs.Using.{add_id}

-- The field's own id comes first.
pub add_first : (body : List ℕ) (looked : Option InputId) (ids : List ℕ) → add_id body looked ids ≡ add_id body looked [] ++ ids
unfolding add_id
add_first [] looked ids = refl
add_first (b ∷ bs) (Some id) ids = refl
add_first (b ∷ bs) None ids = refl

-- ---- for the code

pub field_absent : (body used : List ℕ) (looked : Option InputId) → true ≡ eqb (length body) 0 → used ≡ mark_ids used (add_id body looked [])
unfolding add_id mark_ids
field_absent [] used looked e = refl
field_absent (b ∷ bs) used looked e = let empty = eqb-true (length (b ∷ bs)) 0 (sym e) in absurd (omega arith)

pub field_marked : (body used : List ℕ) {looked : Option InputId} (id : InputId) → false ≡ eqb (length body) 0 → looked ≡ Some id → set used id.0 1 ≡ mark_ids used (add_id body looked [])
unfolding add_id mark_ids
field_marked [] used id e is = absurd (eqb-false 0 0 (sym e) refl)
field_marked (b ∷ bs) used id e is = rw is

pub field_nowhere : (body used : List ℕ) {looked : Option InputId} → looked ≡ None → used ≡ mark_ids used (add_id body looked [])
unfolding add_id mark_ids
field_nowhere [] used is = refl
field_nowhere (b ∷ bs) used is = rw is
