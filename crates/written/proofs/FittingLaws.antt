-- Into what fits: an array's elements and an object's members with one level less, and an object's unnamed fields as an object.
use Rattle.std.specs.Prelude.{Some}
use mathlib.Core.Bool.{true, ◌&&◌}
use mathlib.Core.List.{List, map}
use mathlib.Core.Path.{◌≡◌, sym}
use Prim.Native.Nat.{ℕ, zero, suc, ◌+◌, ◌-◌, ◌^◌, ◌≤◌}
use native.Mathlib.Omega.{arith}
use lib.ListN.{length, length-append}
use Rattle.forms.proofs.BackLaws.{ids_length}
use Rattle.forms.proofs.ContainerLaws.{array_fit, object_fit}
use Rattle.forms.specs.WellFormed.{scalar_good, all_docs, all_members, well_formed_by, well_formed, names_there, all_names_there, field_names_there}
use Rattle.paper.proofs.WordLaws.{never, and_both}
use Rattle.paper.specs.Limits.{most_leftover}
use Rattle.paper.specs.Meaning.{Scalar, Doc, scalar, array, object, Docs, doc, Fields, field}
use Rattle.paper.specs.Metadata.{Dictionary, rising}
use Rattle.paper.specs.Normal.{id_of, field_names, value_bytes, element_bytes, member_bytes}
use Rattle.paper.specs.Shredding.{unnamed}
use Rattle.paper.specs.Standing.{field_at}
use Rattle.paper.specs.Words.{among, joined}
use Rattle.written.proofs.FieldLaws.{found_holds, unnamed_rises, unnamed_pass, unnamed_there}
use Rattle.written.proofs.FewerLaws.{unnamed_shorter}
use Rattle.written.specs.Fitting.{Fits, ElementsFit, MembersFit}

-- ---- what is well formed

pub scalar_good_lem : (levels : ℕ) (value : Scalar) → well_formed levels (scalar value) ≡ true → scalar_good value ≡ true
unfolding well_formed well_formed_by
scalar_good_lem zero value good = never (sym good)
scalar_good_lem (suc levels) value good = good

pub elements_good : (levels : ℕ) (ds : Docs) → well_formed levels (array ds) ≡ true → all_docs (well_formed (levels - 1)) ds ≡ true
unfolding well_formed well_formed_by
elements_good zero ds good = never (sym good)
elements_good (suc levels) ds good = let inside : suc levels - 1 ≡ levels = omega arith in rw inside good

pub members_good : (levels : ℕ) (fs : Fields) → well_formed levels (object fs) ≡ true
    → (rising (field_names fs) ≡ true) × (all_members (well_formed (levels - 1)) fs ≡ true)
unfolding well_formed well_formed_by
members_good zero fs good = never (sym good)
members_good (suc levels) fs good =
    let inside : suc levels - 1 ≡ levels = omega arith in rw inside (and_both (rising (field_names fs)) (all_members (well_formed levels) fs) good)

-- ---- an array's elements

module _ {names : Dictionary} where
  pub fits_elements : (levels : ℕ) (ds : Docs) → Fits names levels (array ds) → ElementsFit names (levels - 1) ds
  unfolding names_there value_bytes
  fits_elements levels ds fits =
      let fit = array_fit (element_bytes names ds) in
      let short = fits.short in
      record { good = elements_good levels ds fits.good; there = fits.there; short = omega arith }

  module _ {levels : ℕ} {d : Doc} {ds : Docs} (fit : ElementsFit names levels (doc d ds)) where
    elements_size : length (value_bytes names d) + length (joined (element_bytes names ds)) ≤ most_leftover
    unfolding element_bytes joined
    elements_size = let short = fit.short in omega (arith, length-append (value_bytes names d) (joined (element_bytes names ds)))

    pub first_fits : Fits names levels d
    unfolding all_docs all_names_there
    first_fits =
        let size = elements_size in
        record { good = (and_both _ (all_docs (well_formed levels) ds) fit.good).0; there = (and_both _ (all_names_there names ds) fit.there).0; short = omega arith }

    pub others_fit : ElementsFit names levels ds
    unfolding all_docs all_names_there
    others_fit =
        let size = elements_size in
        record { good = (and_both (well_formed levels d) _ fit.good).1; there = (and_both (names_there names d) _ fit.there).1; short = omega arith }

  -- ---- an object's members

  pub fits_members : (levels : ℕ) (fs : Fields) → Fits names levels (object fs) → MembersFit names (levels - 1) fs
  unfolding names_there value_bytes
  fits_members levels fs fits =
      let fit = object_fit (map (id_of names) (field_names fs)) (member_bytes names fs) (ids_length names fs) in
      let short = fits.short in
      record { good = (members_good levels fs fits.good).1; there = fits.there; short = omega arith }

  module _ {levels : ℕ} {name : List ℕ} {d : Doc} {fs : Fields} (fit : MembersFit names levels (field name d fs)) where
    member_parts : (well_formed levels d ≡ true) × (all_members (well_formed levels) fs ≡ true) × (among name names ≡ true) × (names_there names d ≡ true)
        × (field_names_there names fs ≡ true) × (length (value_bytes names d) + length (joined (member_bytes names fs)) ≤ most_leftover)
    unfolding all_members field_names_there member_bytes joined
    member_parts =
        let goods = and_both (well_formed levels d) (all_members (well_formed levels) fs) fit.good in
        let own = and_both (among name names) (names_there names d && field_names_there names fs) fit.there in
        let found = and_both (names_there names d) (field_names_there names fs) own.1 in
        let short = fit.short in
        (goods.0, goods.1, own.0, found.0, found.1, omega (arith, length-append (value_bytes names d) (joined (member_bytes names fs))))

    first_member_fits : Fits names levels d
    first_member_fits = let parts = member_parts in let size = parts.5 in record { good = parts.0; there = parts.3; short = omega arith }

    other_members_fit : MembersFit names levels fs
    other_members_fit = let parts = member_parts in let size = parts.5 in record { good = parts.1; there = parts.4; short = omega arith }

  -- A field fits, wherever it stands.
  pub member_fits : {levels : ℕ} (name : List ℕ) (fs : Fields) (d : Doc) → MembersFit names levels fs → field_at name fs ≡ Some d → Fits names levels d
  member_fits {levels} =
      found_holds (MembersFit names levels) (λ name d. Fits names levels d) (λ name d fs fit. (first_member_fits fit, other_members_fit fit))

-- ---- an object's unnamed fields

module _ {names : Dictionary} (few : length names ≤ 2 ^ 32) where
  pub unnamed_fits : (taken : List (List ℕ)) (levels : ℕ) (fs : Fields) → Fits names levels (object fs) → Fits names levels (object (unnamed taken fs))
  unfolding well_formed well_formed_by names_there
  unnamed_fits taken zero fs fits = never (sym fits.good)
  unnamed_fits taken (suc levels) fs fits =
      let both = and_both (rising (field_names fs)) (all_members (well_formed levels) fs) fits.good in
      let short = fits.short in
      let shorter = unnamed_shorter names few taken fs fits.there (omega arith) in
      record {
        good = rw (unnamed_rises taken fs both.0, unnamed_pass taken (well_formed levels) fs both.1);
        there = unnamed_there taken names fs fits.there;
        short = omega arith;
      }
