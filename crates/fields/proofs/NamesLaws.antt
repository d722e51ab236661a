-- Whether a schema names fields: its lists are passed, and the node under them tells. Of a schema that names none every table
-- tells.
use Rattle.std.specs.Prelude.{Some}
use mathlib.Core.Bool.{true, false}
use mathlib.Core.List.{List}
use mathlib.Core.Path.{◌≡◌, refl, sym, ◌∙◌}
use Prim.Native.Nat.{ℕ, ◌+◌, ◌-◌, ◌<◌}
use native.Mathlib.Omega.{arith}
use borrow.Author.Tests.{eq-eqb, ne_eqb}
use lib.Dec.{eqb}
use lib.ListN.{length}
use Rattle.fields.specs.Telling.{names_fields, Told, leftover_told, column_told, list_told}
use Rattle.paper.specs.Limits.{most_levels}
use Rattle.paper.specs.Metadata.{Dictionary}
use Rattle.paper.specs.Schemas.{Schema, leftover_only, column, list, fields, schema_of}
use Rattle.paper.specs.Words.{at, is_there}
use Rattle.paper.proofs.WordLaws.{never, there_some}
use Rattle.schemas.proofs.StandingLaws.{NodeAt, leftover_at, column_at, list_at, fields_at, node_at, schema_stands}
use Rattle.schemas.specs.Positions.{Stands}

pub none_told : (names : Dictionary) (s table : List ℕ) (node : Schema) (place : ℕ) → names_fields node ≡ false → Told names s table node place
unfolding names_fields
none_told names s table leftover_only place e = leftover_told
none_told names s table (column said) place e = column_told
none_told names s table (list element) place e = list_told (none_told names s table element (place + 3) e)
none_told names s table (fields columns) place e = never e

-- ---- the lists passed

-- The node at a place names fields exactly when the schema does.
pub record ListsSeen (s : List ℕ) (place : ℕ) : Type 0 where
  pub root : Schema
  pub is : schema_of s ≡ Some root
  pub levels : ℕ
  pub node : Schema
  pub stands : Stands levels s place node
  pub same : names_fields root ≡ names_fields node

pub lists_start : (s : List ℕ) → is_there (schema_of s) ≡ true → ListsSeen s 0
lists_start s good =
    let read = there_some (schema_of s) good in
    record { root = read.0; is = read.1; levels = most_levels; node = read.0; stands = (schema_stands s read.0 read.1).0; same = refl }

module _ {s : List ℕ} {place : ℕ} (seen : ListsSeen s place) where
  pub lists_inside : place + 2 < length s
  lists_inside = let within = seen.stands.within in omega arith

  pub lists_next : at s place ≡ 0x20 → ListsSeen s (place + 3)
  unfolding names_fields
  lists_next tagged = go (node_at seen.stands) seen.same
    where
      go : {node : Schema} → NodeAt seen.levels s place node → names_fields seen.root ≡ names_fields node → ListsSeen s (place + 3)
      go (leftover_at here) same = absurd (omega (arith, here.tagged))
      go (column_at here) same = absurd (omega (arith, here.tagged))
      go (list_at {element} here) same =
          record { root = seen.root; is = seen.is; levels = seen.levels - 1; node = element; stands = here.inside; same = same }
      go (fields_at here) same = absurd (omega (arith, here.tagged))

  pub lists_done : (at s place ≡ 0x20 → ⊥) → (node : Schema) → schema_of s ≡ Some node → eqb (at s place) 0x30 ≡ names_fields node
  unfolding names_fields
  lists_done no_list node is =
      let whole = seen.is in
      let root_is : seen.root ≡ node = cc in
      rw (← root_is) (go (node_at seen.stands) ∙ sym seen.same)
    where
      go : {node : Schema} → NodeAt seen.levels s place node → eqb (at s place) 0x30 ≡ names_fields node
      go (leftover_at here) = ne_eqb (at s place) 0x30 (omega (arith, here.tagged))
      go (column_at here) = ne_eqb (at s place) 0x30 (omega (arith, here.tagged))
      go (list_at here) = absurd (no_list here.tagged)
      go (fields_at here) = eq-eqb (at s place) 0x30 here.tagged
