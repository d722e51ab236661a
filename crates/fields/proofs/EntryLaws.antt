-- Entries: an answer is read back from its entry, and of two fields that stand nine bytes apart each has its own.
use Rattle.std.specs.Prelude.{Option, Some, None}
use mathlib.Core.List.{List}
use mathlib.Core.Path.{◌≡◌, refl, ap}
use Prim.Native.Nat.{ℕ, zero, suc, ◌+◌, ◌-◌, ◌/◌, ◌≤◌, ◌<◌}
use native.Mathlib.Numerals.{add-one}
use native.Mathlib.Omega.{arith}
use lib.ListN.{length, set}
use lib.Seq.{get_or-set_same, get_or-set_other}
use Rattle.dictionary.specs.declared.ids.InputId.{InputId}
use Rattle.fields.specs.Telling.{entry_of, looked_of, entry_place, looked_at}
use Rattle.lookup.specs.Looking.{Tells, found, missing}
use Rattle.paper.specs.Bounds.{most_names, most_walked}
use Rattle.paper.specs.Metadata.{Dictionary}

-- ---- an answer as an entry, and back

pub entry_at : {looked : Option InputId} {id : InputId} → looked ≡ Some id → id.0 + 1 ≡ entry_of looked
unfolding entry_of
entry_at e = rw e

pub entry_nowhere : {looked : Option InputId} → looked ≡ None → 0 ≡ entry_of looked
unfolding entry_of
entry_nowhere e = rw e

pub entry_back : (looked : Option InputId) → looked_of (entry_of looked) ≡ looked
unfolding entry_of looked_of
entry_back (Some id) = rw (add-one id.0)
entry_back None = refl

pub looked_none : {entry : ℕ} → entry ≡ 0 → None ≡ looked_of entry
unfolding looked_of
looked_none e = rw e

pub looked_some : (entry : ℕ) → (entry ≡ 0 → ⊥) → Some (record { 0 = entry - 1 }) ≡ looked_of entry
unfolding looked_of
looked_some zero some_id = absurd (some_id refl)
looked_some (suc id) some_id = let e : suc id - 1 ≡ id = omega arith in rw e

-- The id of a name fits an entry.
pub tells_fits : {names : Dictionary} {name : List ℕ} {looked : Option InputId} → Tells names name looked → length names ≤ most_names → entry_of looked < most_walked
unfolding entry_of
tells_fits (found id within is) few = omega arith
tells_fits (missing none_has) few = omega arith

-- ---- entries by position

-- A field that lies in a schema has an entry in a table of a ninth of its length.
pub entry_there : (place size room : ℕ) → place + 9 ≤ size → size / 9 ≤ room → entry_place place < room
entry_there place size room within all = omega arith

pub entries_apart : (first second : ℕ) → first + 9 ≤ second → entry_place first ≡ entry_place second → ⊥
entries_apart first second apart same = omega arith

module _ (table : List ℕ) (place entry : ℕ) where
  pub entered : entry_place place < length table → looked_at (set table (entry_place place) entry) place ≡ looked_of entry
  entered there = ap looked_of (get_or-set_same table (entry_place place) entry 0 there)

  pub entered_behind : (other : ℕ) → other + 9 ≤ place → looked_at (set table (entry_place place) entry) other ≡ looked_at table other
  entered_behind other apart = ap looked_of (get_or-set_other table (entry_place place) (entry_place other) entry 0 (entries_apart other place apart))
