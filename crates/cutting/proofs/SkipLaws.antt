-- An object's fields from one on: what holds of all holds of them, and fields that no column names leave what is cut as it is.
use Rattle.std.specs.Prelude.{None, Some}
use mathlib.Core.Bool.{Bool, true, false}
use mathlib.Core.List.{List, ◌∷◌}
use mathlib.Core.Logic.{◌⊎◌, inl, inr}
use mathlib.Core.Path.{◌≡◌, refl, sym, ◌∙◌}
use Prim.Native.Nat.{ℕ, zero, suc, ◌+◌, ◌≤◌, ◌<◌}
use native.Mathlib.Omega.{arith}
use Rattle.dictionary.specs.declared.ids.InputId.{InputId}
use Rattle.forms.specs.WellFormed.{all_members, names_there, field_names_there}
use Rattle.lookup.specs.Looking.{Tells, found}
use Rattle.members.specs.Members.{IdThere, member_id, From, ended, further}
use Rattle.members.specs.declared.Members.{Members}
use Rattle.names.proofs.IdLaws.{id_place, id_rises}
use Rattle.names.proofs.RisingLaws.{rising_more, rising_first}
use Rattle.names.proofs.SameLaws.{same_is, among_first, among_either, among_more, among_at}
use Rattle.paper.proofs.WordLaws.{never, and_both}
use Rattle.paper.specs.Meaning.{Doc, Fields, no_fields, field}
use Rattle.paper.specs.Metadata.{Dictionary, rising}
use Rattle.paper.specs.Normal.{id_of, field_names}
use Rattle.paper.specs.Schemas.{SchemaFields, none_named, named, column_names}
use Rattle.paper.specs.Shredding.{cut_fields}
use Rattle.paper.specs.Standing.{field_at}
use Rattle.paper.specs.Words.{same, among}
use Rattle.cutting.specs.Cutting.{Run}

unfoldable pub skipped : ℕ → Fields → Fields
skipped zero fs = fs
skipped (suc n) no_fields = no_fields
skipped (suc n) (field name d fs) = skipped n fs

-- ---- what holds of all fields

pub skipped_rise : (n : ℕ) (fs : Fields) → rising (field_names fs) ≡ true → rising (field_names (skipped n fs)) ≡ true
unfolding skipped field_names
skipped_rise zero fs rise = rise
skipped_rise (suc n) no_fields rise = rise
skipped_rise (suc n) (field name d fs) rise = skipped_rise n fs (rising_more name (field_names fs) rise)

pub skipped_good : (good : Doc → Bool) (n : ℕ) (fs : Fields) → all_members good fs ≡ true → all_members good (skipped n fs) ≡ true
unfolding skipped all_members
skipped_good good zero fs all = all
skipped_good good (suc n) no_fields all = all
skipped_good good (suc n) (field name d fs) all = skipped_good good n fs (and_both (good d) (all_members good fs) all).1

pub skipped_there : (names : Dictionary) (n : ℕ) (fs : Fields) → field_names_there names fs ≡ true → field_names_there names (skipped n fs) ≡ true
unfolding skipped field_names_there
skipped_there names zero fs all = all
skipped_there names (suc n) no_fields all = all
skipped_there names (suc n) (field name d fs) all =
    skipped_there names n fs (and_both (names_there names d) (field_names_there names fs) (and_both (among name names) _ all).1).1

-- ---- where they stand

module _ {names : Dictionary} {s : List ℕ} {m : Members} where
  pub from_run : {k : ℕ} {fs : Fields} → From names s m k fs → Run s m k
  from_run (ended is) = record { within = omega arith; there = λ j least below. absurd (omega arith) }
  from_run {k} (further part id id_is part_is more) =
      let rest = from_run more in
      let here : k < m.count = id.below in
      record { within = omega arith; there = λ j least below. go j least below rest.there }
    where
      go : (j : ℕ) → k ≤ j → j < m.count → ((i : ℕ) → k + 1 ≤ i → i < m.count → IdThere s m i) → IdThere s m j
      go j least below behind =
          record {
            below = below;
            few = id.few;
            least = id.least;
            most = id.most;
            ids_in = id.ids_in;
            small = id.small;
          }

  pub from_skipped : (n : ℕ) {k : ℕ} {fs : Fields} → From names s m k fs → (to : ℕ) → k + n ≡ to → to ≤ m.count → From names s m to (skipped n fs)
  unfolding skipped
  from_skipped zero {k} {fs} held to is within = let same : k ≡ to = omega arith in rw same at held
  from_skipped (suc n) (ended e) to is within = absurd (omega arith)
  from_skipped (suc n) (further part id id_is part_is more) to is within = from_skipped n more to (omega arith) within

-- ---- fields that no column names

-- The columns that are in a dictionary have ids from a bound on.
abbrev pub Above : Dictionary → ℕ → List (List ℕ) → Type 0
Above names bound columns = (name : List ℕ) → among name columns ≡ true → among name names ≡ true → bound ≤ id_of names name

-- The first column's id is such a bound.
pub first_above : (names : Dictionary) (id : InputId) (name : List ℕ) (more : List (List ℕ)) → rising names ≡ true → Tells names name (Some id)
    → rising (name ∷ more) ≡ true → (id_of names name ≡ id.0) × Above names id.0 (name ∷ more)
first_above names id name more names_rise (found _ below is) rise =
    let own : id_of names name ≡ id.0 = rw is at (id_place names id.0 names_rise below) in
    let in_names : among name names ≡ true = rw is at (among_at names id.0 below) in
    (own, λ other in-columns known. go other known own in_names (among_either other name more in-columns))
  where
    go : (other : List ℕ) → among other names ≡ true → id_of names name ≡ id.0 → among name names ≡ true
        → (name ≡ other) ⊎ (among other more ≡ true) → id.0 ≤ id_of names other
    go other known own in_names (inl is) = rw (← is) (omega arith)
    go other known own in_names (inr behind) =
        let lower = id_rises names name other names_rise in_names known (rising_first name more other rise behind) in
        omega arith

-- A field below the bound is none of the columns'.
unnamed_cut : (names : Dictionary) (bound : ℕ) (name : List ℕ) (d : Doc) (fs : Fields) → among name names ≡ true → id_of names name < bound
    → (columns : SchemaFields) → Above names bound (column_names columns) → cut_fields columns (field name d fs) ≡ cut_fields columns fs
unfolding cut_fields field_at column_names
unnamed_cut names bound name d fs known lower none_named above = refl
unnamed_cut names bound name d fs known lower (named first node more) above =
    let other : same name first ≡ false = go (same name first) refl in
    let behind = unnamed_cut names bound name d fs known lower more (λ c in-more in_names. above c (among_more c first (column_names more) in-more) in_names) in
    rw (other, behind)
  where
    go : (b : Bool) → same name first ≡ b → same name first ≡ false
    go false e = e
    go true e =
        let is : name ≡ first = same_is name first e in
        let in_names : among first names ≡ true = rw is at known in
        let least = above first (among_first first (column_names more)) in_names in
        let most : id_of names first < bound = rw is at lower in
        absurd (omega arith)

module _ {names : Dictionary} {s : List ℕ} {m : Members} (bound : ℕ) (columns : SchemaFields) (above : Above names bound (column_names columns)) where
  pub skipped_cut : (n : ℕ) {k : ℕ} {fs : Fields} → From names s m k fs → field_names_there names fs ≡ true
      → ((j : ℕ) → k ≤ j → j < k + n → member_id s m j < bound) → cut_fields columns fs ≡ cut_fields columns (skipped n fs)
  unfolding skipped field_names_there
  skipped_cut zero held there lower = refl
  skipped_cut (suc n) (ended e) there lower = refl
  skipped_cut (suc n) {k} (further {name = name} {d = d} {fs = fs} part id id_is part_is more) there lower =
      let found = and_both (among name names) _ there in
      let rest = and_both (names_there names d) (field_names_there names fs) found.1 in
      let first : id_of names name < bound = rw id_is at (lower k (omega arith) (omega arith)) in
      unnamed_cut names bound name d fs found.0 first columns above ∙ skipped_cut n more rest.1 (λ j least below. lower j (omega arith) (omega arith))

-- ---- the field of a name

-- A name that is not in the dictionary is none of a document's.
pub unknown_missing : (names : Dictionary) (name : List ℕ) (fs : Fields) → field_names_there names fs ≡ true → among name names ≡ false → field_at name fs ≡ None
unfolding field_names_there field_at
unknown_missing names name no_fields there unknown = refl
unknown_missing names name (field first d fs) there unknown =
    let known = and_both (among first names) _ there in
    let rest = and_both (names_there names d) (field_names_there names fs) known.1 in
    rw (go (same first name) refl, unknown_missing names name fs rest.1 unknown)
  where
    go : (b : Bool) → same first name ≡ b → same first name ≡ false
    go false e = e
    go true e = let is : first ≡ name = same_is first name e in never (sym (rw is at (and_both (among first names) _ there).0) ∙ unknown)

-- Nor is one whose id is below that of the first.
pub lower_missing : (names : Dictionary) (name : List ℕ) (fs : Fields) → rising names ≡ true → rising (field_names fs) ≡ true → field_names_there names fs ≡ true
    → ((first : List ℕ) (d : Doc) (more : Fields) → fs ≡ field first d more → id_of names name < id_of names first) → field_at name fs ≡ None
unfolding field_names_there field_at field_names
lower_missing names name no_fields names_rise rise there lower = refl
lower_missing names name (field first d fs) names_rise rise there lower =
    let known = and_both (among first names) _ there in
    let rest = and_both (names_there names d) (field_names_there names fs) known.1 in
    let below = lower first d fs refl in
    let behind = lower_missing names name fs names_rise (rising_more first (field_names fs) rise) rest.1 (λ second e more is. next known.0 rest.1 below second e more is) in
    rw (go (same first name) refl below, behind)
  where
    go : (b : Bool) → same first name ≡ b → id_of names name < id_of names first → same first name ≡ false
    go false e below = e
    go true e below = let is : first ≡ name = same_is first name e in let z : id_of names name < id_of names name = rw is at below in absurd (omega arith)

    next : among first names ≡ true → field_names_there names fs ≡ true → id_of names name < id_of names first
        → (second : List ℕ) (e : Doc) (more : Fields) → fs ≡ field second e more → id_of names name < id_of names second
    next known behind below second e more is =
        let rises : rising (first ∷ second ∷ field_names more) ≡ true = rw is at rise in
        let others : field_names_there names (field second e more) ≡ true = rw is at behind in
        let second-known = (and_both (among second names) _ others).0 in
        let higher = id_rises names first second names_rise known second-known (rising_first first (second ∷ field_names more) second rises (among_first second (field_names more))) in
        omega arith
