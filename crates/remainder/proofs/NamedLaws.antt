-- Whether the fields that are left name a member, by the first of them: its id is the member's, or higher than it.
use Rattle.dictionary.specs.declared.ids.InputId.{InputId}
use Rattle.std.specs.Prelude.{Option}
use mathlib.Core.Bool.{Bool, true, false, ◌&&◌}
use mathlib.Core.List.{List, [], ◌∷◌}
use mathlib.Core.Logic.{◌⊎◌, inl, inr}
use mathlib.Core.Path.{◌≡◌, refl, sym, ap, subst, ◌∙◌}
use Prim.Native.Nat.{ℕ, ◌<◌}
use native.Mathlib.Omega.{arith}
use borrow.Author.Tests.{leb-true, ltb-true, ltb-false, eqb-true, eqb-false}
use lib.Dec.{ltb}
use lib.ListN.{get_or}
use Rattle.fields.proofs.TellingLaws.{field_told_lem}
use Rattle.fields.specs.Telling.{looked_at, FieldsTold}
use Rattle.lookup.specs.Looking.{Tells, found, missing}
use Rattle.names.proofs.IdLaws.{id_name, id_rises}
use Rattle.names.proofs.RisingLaws.{rising_first}
use Rattle.names.proofs.SameLaws.{among_first, among_at, among_either}
use Rattle.paper.proofs.WordLaws.{never, and_both}
use Rattle.paper.specs.Metadata.{Dictionary, rising}
use Rattle.paper.specs.Normal.{id_of}
use Rattle.paper.specs.Schemas.{SchemaFields, column_names}
use Rattle.paper.specs.Words.{among}
use Rattle.schemas.proofs.FieldsStandLaws.{FirstField, first_field, no_field}
use Rattle.schemas.specs.Positions.{FieldsStand}
use Rattle.remainder.proofs.PassLaws.{told_id}
use Rattle.remainder.specs.Passing.{reaches_id, is_id, names_id}

module _ (names : Dictionary) (rises : rising names ≡ true) (name : List ℕ) (in_names : among name names ≡ true) where
  -- The first field's id is the name's: it is of this name.
  same_name : {first : List ℕ} {looked : Option InputId} → Tells names first looked → is_id looked (id_of names name) ≡ true → first ≡ name
  unfolding is_id
  same_name (found told there is) e =
      let own : told.0 ≡ id_of names name = eqb-true told.0 (id_of names name) e in
      sym is ∙ ap (λ (k : ℕ). get_or names k []) own ∙ id_name names name in_names
  same_name (missing none_has) e = never (sym e)

  -- It is higher: neither it nor a later one is of this name.
  other_names : {first : List ℕ} {looked : Option InputId} → Tells names first looked → reaches_id looked (id_of names name) ≡ true → is_id looked (id_of names name) ≡ false
      → (more : List (List ℕ)) → rising (first ∷ more) ≡ true → among name (first ∷ more) ≡ false
  unfolding is_id reaches_id
  other_names (missing none_has) high apart more rise = never (sym high)
  other_names {first} (found told there is) high apart more rise = go (among name (first ∷ more)) refl
    where
      above : id_of names name < told.0
      above =
          let least = leb-true (id_of names name) told.0 high in
          let other = eqb-false told.0 (id_of names name) apart in
          omega arith

      none_of : (first ≡ name) ⊎ (among name more ≡ true) → ⊥
      none_of (inl same) = let own = told_id names name rises told there (is ∙ same) in omega (arith, above)
      none_of (inr later) =
          let first-in : among first names ≡ true = rw is at (among_at names told.0 there) in
          let less = id_rises names first name rises first-in in_names (rising_first first more name rise later) in
          let own = told_id names first rises told there is in
          omega (arith, above)

      go : (b : Bool) → among name (first ∷ more) ≡ b → b ≡ false
      go false e = refl
      go true e = absurd (none_of (among_either name first more e))

  module _ {levels : ℕ} {schema table : List ℕ} {place to : ℕ} {columns : SchemaFields}
      (stand : FieldsStand levels schema place to columns) (told : FieldsTold names schema table columns place) where
    abbrev id : ℕ
    id = id_of names name

    module _ (here : place < to) where
      first : FirstField levels schema place to columns
      first = first_field stand here

      tells : Tells names first.name (looked_at table place)
      tells = (field_told_lem (subst (λ (c : SchemaFields). FieldsTold names schema table c place) first.are told)).here

      are : column_names columns ≡ first.name ∷ column_names first.more
      unfolding column_names
      are = ap column_names first.are

    pub name_here : names_id table place to id ≡ true → among name (column_names columns) ≡ true
    unfolding names_id
    name_here e =
        let both = and_both (ltb place to) (is_id (looked_at table place) id) e in
        let here = ltb-true place to both.0 in
        let is = same_name (tells here) both.1 in
        rw (are here, is) (among_first name (column_names (first here).more))

    pub name_nowhere : (place < to → reaches_id (looked_at table place) id ≡ true) → names_id table place to id ≡ false → among name (column_names columns) ≡ false
    unfolding names_id column_names among
    name_nowhere high e = go (ltb place to) refl e
      where
        go : (b : Bool) → ltb place to ≡ b → b && is_id (looked_at table place) id ≡ false → among name (column_names columns) ≡ false
        go false over apart = ap (λ (c : SchemaFields). among name (column_names c)) (no_field stand (ltb-false place to over))
        go true some apart =
            let here = ltb-true place to some in
            rw (are here) (other_names (tells here) (high here) apart (column_names (first here).more) (rw (are here) at stand.rise))
