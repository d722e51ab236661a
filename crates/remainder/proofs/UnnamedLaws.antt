-- The fields that some names leave: by which of them the names have, each by itself.
use mathlib.Core.Bool.{Bool, true, false, cond, ◌&&◌}
use mathlib.Core.List.{List, ◌∷◌}
use mathlib.Core.Logic.{◌⊎◌, inl, inr}
use mathlib.Core.Path.{◌≡◌, refl, sym}
use Prim.Native.Nat.{ℕ, ◌≤◌}
use native.Mathlib.Omega.{arith}
use Rattle.forms.proofs.PartLaws.{AllFilled}
use Rattle.forms.specs.WellFormed.{names_there, field_names_there}
use Rattle.names.proofs.IdLaws.{id_rises}
use Rattle.names.proofs.RisingLaws.{rising_first}
use Rattle.names.proofs.SameLaws.{among_first, among_more, among_either}
use Rattle.paper.proofs.WordLaws.{never, and_both}
use Rattle.paper.specs.Meaning.{Doc, Fields, no_fields, field}
use Rattle.paper.specs.Metadata.{Dictionary, rising}
use Rattle.paper.specs.Normal.{id_of, field_names, member_bytes}
use Rattle.paper.specs.Shredding.{unnamed}
use Rattle.paper.specs.Words.{among}

-- Names that have the same of the fields leave the same.
pub unnamed_alike : (these those : List (List ℕ)) (fs : Fields) → ((name : List ℕ) → among name (field_names fs) ≡ true → among name these ≡ among name those)
    → unnamed these fs ≡ unnamed those fs
unfolding unnamed field_names
unnamed_alike these those no_fields alike = refl
unnamed_alike these those (field name d fs) alike =
    rw (
      alike name (among_first name (field_names fs)),
      unnamed_alike these those fs (λ other inside. alike other (among_more other name (field_names fs) inside)),
    )

module _ (these : List (List ℕ)) (name : List ℕ) (d : Doc) (fs : Fields) where
  pub unnamed_has : among name these ≡ true → unnamed these (field name d fs) ≡ unnamed these fs
  unfolding unnamed
  unnamed_has e = rw e

  pub unnamed_lacks : among name these ≡ false → unnamed these (field name d fs) ≡ field name d (unnamed these fs)
  unfolding unnamed
  unnamed_lacks e = rw e

-- What holds of each field holds of each that is left.
pub unnamed_filled : (names : Dictionary) (these : List (List ℕ)) (fs : Fields) → AllFilled (member_bytes names fs) → AllFilled (member_bytes names (unnamed these fs))
unfolding unnamed member_bytes AllFilled
unnamed_filled names these no_fields all = all
unnamed_filled names these (field name d fs) all = go (among name these) (unnamed_filled names these fs all.1)
  where
    go : (b : Bool) → AllFilled (member_bytes names (unnamed these fs)) → AllFilled (member_bytes names (cond b (unnamed these fs) (field name d (unnamed these fs))))
    go true rest = rest
    go false rest = (all.0, rest)

pub unnamed_there : (names : Dictionary) (these : List (List ℕ)) (fs : Fields) → field_names_there names fs ≡ true → field_names_there names (unnamed these fs) ≡ true
unfolding unnamed field_names_there
unnamed_there names these no_fields there = there
unnamed_there names these (field name d fs) there =
    let own = and_both (among name names) (names_there names d && field_names_there names fs) there in
    let behind = and_both (names_there names d) (field_names_there names fs) own.1 in
    go (among name these) own.0 behind.0 (unnamed_there names these fs behind.1)
  where
    go : (b : Bool) → among name names ≡ true → names_there names d ≡ true → field_names_there names (unnamed these fs) ≡ true
        → field_names_there names (cond b (unnamed these fs) (field name d (unnamed these fs))) ≡ true
    go true here inside rest = rest
    go false here inside rest = rw (here, inside, rest)

-- ---- fields that rise under a dictionary that has their names

pub name_there : (names : Dictionary) (fs : Fields) → field_names_there names fs ≡ true → (name : List ℕ) → among name (field_names fs) ≡ true → among name names ≡ true
unfolding field_names field_names_there
name_there names no_fields there name inside = never (unfold among in sym inside)
name_there names (field first d fs) there name inside =
    let own = and_both (among first names) (names_there names d && field_names_there names fs) there in
    let behind = and_both (names_there names d) (field_names_there names fs) own.1 in
    go own.0 (name_there names fs behind.1 name) (among_either name first (field_names fs) inside)
  where
    go : among first names ≡ true → (among name (field_names fs) ≡ true → among name names ≡ true)
        → (first ≡ name) ⊎ (among name (field_names fs) ≡ true) → among name names ≡ true
    go here rest (inl is) = rw is at here
    go here rest (inr further) = rest further

-- No later field has a lower id.
pub first_lowest : (names : Dictionary) → rising names ≡ true → (name : List ℕ) (d : Doc) (fs : Fields) → field_names_there names (field name d fs) ≡ true
    → rising (field_names (field name d fs)) ≡ true → (other : List ℕ) → among other (field_names (field name d fs)) ≡ true → id_of names name ≤ id_of names other
unfolding field_names
first_lowest names rises name d fs there rise other inside = go (among_either other name (field_names fs) inside)
  where
    in_names : (n : List ℕ) → among n (name ∷ field_names fs) ≡ true → among n names ≡ true
    in_names n within = name_there names (field name d fs) there n within

    go : (name ≡ other) ⊎ (among other (field_names fs) ≡ true) → id_of names name ≤ id_of names other
    go (inl is) = rw is (omega arith)
    go (inr further) =
        let lower = rising_first name (field_names fs) other rise further in
        let less = id_rises names name other rises (in_names name (among_first name (field_names fs))) (in_names other inside) lower in
        omega arith
