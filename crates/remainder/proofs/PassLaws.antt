-- Fields passed over: one that has no id, or a lower one, names nothing that has an id of so much at least.
use Rattle.std.specs.Prelude.{Option}
use mathlib.Core.Bool.{Bool, true, false}
use mathlib.Core.List.{List, []}
use mathlib.Core.Path.{◌≡◌, refl, sym, ap, subst, ◌∙◌}
use Prim.Native.Nat.{ℕ, ◌/◌, ◌≤◌, ◌<◌}
use native.Mathlib.Omega.{arith}
use borrow.Author.Tests.{leb-false}
use lib.ListN.{length, get_or}
use Rattle.dictionary.specs.declared.ids.InputId.{InputId}
use Rattle.fields.proofs.TellingLaws.{field_told_lem, field_in_table}
use Rattle.fields.specs.Telling.{entry_place, looked_at, FieldsTold}
use Rattle.lookup.specs.Looking.{Tells, found, missing}
use Rattle.names.proofs.IdLaws.{id_place}
use Rattle.names.proofs.SameLaws.{same_is}
use Rattle.paper.proofs.WordLaws.{never}
use Rattle.paper.specs.Metadata.{Dictionary, rising}
use Rattle.paper.specs.Normal.{id_of}
use Rattle.paper.specs.Schemas.{SchemaFields, named, column_names}
use Rattle.paper.specs.Words.{same, among}
use Rattle.schemas.proofs.FieldsStandLaws.{FirstField, first_field, field_framed}
use Rattle.schemas.specs.Frames.{frame_end}
use Rattle.remainder.specs.Passing.{reaches_id, Fielded, Skipped, AllPassed}

-- The id that a table tells of a name is the name's own.
pub told_id : (names : Dictionary) (name : List ℕ) → rising names ≡ true → (id : InputId) → id.0 < length names → get_or names id.0 [] ≡ name → id_of names name ≡ id.0
told_id names name rise id there is = ap (id_of names) (sym is) ∙ id_place names id.0 rise there

-- A field whose id does not reach another's is not of the same name.
other_name : {names : Dictionary} {first : List ℕ} {looked : Option InputId} → Tells names first looked → rising names ≡ true
    → (id : ℕ) → reaches_id looked id ≡ false → (name : List ℕ) → among name names ≡ true → id ≤ id_of names name → same first name ≡ false
unfolding reaches_id
other_name {names} {first} tells rise id low name in_names high = go (same first name) refl
  where
    apart : {looked : Option InputId} → Tells names first looked → reaches_id looked id ≡ false → first ≡ name → ⊥
    apart (found told there is) low e =
        let own = told_id names name rise told there (is ∙ e) in
        let below = leb-false id told.0 low in
        omega arith
    apart (missing none_has) low e = never (sym in_names ∙ ap (λ (n : List ℕ). among n names) (sym e) ∙ none_has)

    go : (b : Bool) → same first name ≡ b → b ≡ false
    go false e = refl
    go true e = absurd (apart tells low (same_is first name e))

module _ {schema table : List ℕ} {from to : ℕ} {fielded : Fielded schema table from to} {id place : ℕ} (skipped : Skipped fielded id place) (here : place < to) where
  first : FirstField fielded.levels schema place to skipped.more
  first = first_field skipped.stand here

  told : FieldsTold fielded.names schema table (named first.name first.node first.more) place
  told = subst (λ (c : SchemaFields). FieldsTold fielded.names schema table c place) first.are skipped.told

  next : reaches_id (looked_at table place) id ≡ false → Skipped fielded id (frame_end schema place)
  unfolding column_names among
  next low =
      let both = field_told_lem told in
      record {
        more = first.more;
        stand = first.stands.behind;
        told = both.behind;
        alike = λ name in_names high.
            skipped.alike name in_names high ∙ ap (λ (c : SchemaFields). among name (column_names c)) first.are
            ∙ rw (other_name both.here fielded.rises id low name in_names high);
      }

-- ---- the loop

pub record PassSeen (schema table : List ℕ) (from to id place : ℕ) : Type 0 where
  pub each : (fielded : Fielded schema table from to) → Skipped fielded id place

pub pass_start : (schema table : List ℕ) (from to id : ℕ) → PassSeen schema table from to id from
pass_start schema table from to id =
    record {
      each = λ fielded. record { more = fielded.columns; stand = fielded.stand; told = fielded.told; alike = λ name in_names high. refl };
    }

module _ {schema table : List ℕ} {from to id place : ℕ} (seen : PassSeen schema table from to id place) where
  module _ (fielded : Fielded schema table from to) (here : place < to) where
    pub pass_entry : length schema / 9 ≤ length table → entry_place place < length table
    pass_entry room = field_in_table (first (seen.each fielded) here).stands table room

    pub pass_frame : frame_end schema place ≤ length schema
    pass_frame = field_framed (first (seen.each fielded) here).stands

  pub pass_next : place < to → {reached : Bool} → reached ≡ reaches_id (looked_at table place) id → reached ≡ false
      → {after : ℕ} → after ≡ frame_end schema place → PassSeen schema table from to id after
  pass_next here told low end = rw end (record { each = λ fielded. next (seen.each fielded) here (sym told ∙ low) })

  pub pass_here : {reached : Bool} → reached ≡ reaches_id (looked_at table place) id → reached ≡ true → AllPassed schema table from to id place
  pass_here told high = record { each = λ fielded. record { skipped = seen.each fielded; high = λ here. sym told ∙ high } }

  pub pass_end : to ≤ place → AllPassed schema table from to id place
  pass_end over = record { each = λ fielded. record { skipped = seen.each fielded; high = λ here. absurd (omega arith) } }
