-- The places of an object's fields: the first one's in front of those behind it, from the member that has its name or empty.
use Rattle.dictionary.specs.declared.ids.InputId.{InputId}
use Rattle.std.specs.Prelude.{None, Some, Option}
use mathlib.Core.Bool.{Bool, true, false}
use mathlib.Core.List.{List, [], ◌∷◌}
use mathlib.Core.Path.{◌≡◌, sym, ap, ◌∙◌}
use Prim.Native.Nat.{ℕ, ◌-◌, ◌<◌}
use native.Mathlib.Omega.{arith}
use borrow.Author.Tests.{ltb-true, eqb-true, eqb-false, lt-ltb}
use lib.Arith.{lt_of_le-ne}
use lib.Dec.{ltb, eqb}
use lib.ListN.{get_or}
use Rattle.forms.specs.WellFormed.{all_members, names_there, field_names_there}
use Rattle.lookup.specs.Looking.{Tells, found, missing}
use Rattle.members.specs.Members.{PartThere, member_id, member_part, From, ended, further}
use Rattle.members.specs.declared.Members.{Members}
use Rattle.names.proofs.IdLaws.{id_name, id_place}
use Rattle.names.proofs.SameLaws.{same_refl}
use Rattle.paper.proofs.WordLaws.{never, and_both}
use Rattle.paper.specs.Meaning.{Doc, Fields, field}
use Rattle.paper.specs.Metadata.{Dictionary, rising}
use Rattle.paper.specs.Normal.{id_of, field_names, value_bytes}
use Rattle.paper.specs.Schemas.{Schema, SchemaFields, named, column_names}
use Rattle.paper.specs.Shredding.{cut_fields}
use Rattle.paper.specs.Standing.{field_at}
use Rattle.paper.specs.Words.{among}
use Rattle.cutting.specs.Cutting.{PassedBy, up_to, none as passed_none, is_member}
use Rattle.cutting.proofs.SkipLaws.{skipped, from_run, from_skipped, first_above, skipped_cut, unknown_missing, lower_missing}

-- ---- the member of a column's name, or none

pub record Reached (names : Dictionary) (good : Doc → Bool) (s : List ℕ) (m : Members) (k : ℕ) (name : List ℕ) (fs : Fields) : Type 0 where
  pub d : Doc
  pub is : field_at name fs ≡ Some d
  pub part_is : member_part s m k ≡ value_bytes names d
  pub part_there : PartThere s m k
  pub well : good d ≡ true
  pub known : names_there names d ≡ true

module _ (names : Dictionary) (s : List ℕ) (m : Members) (k : ℕ) (name : List ℕ) where
  pub reached : (good : Doc → Bool) (looked : Option InputId) → Tells names name looked → {fs : Fields} → From names s m k fs → field_names_there names fs ≡ true
      → all_members good fs ≡ true → is_member s m k looked ≡ true → Reached names good s m k name fs
  unfolding is_member field_at field_names_there all_members
  reached good None tells held there well is-it = never (sym is-it)
  reached good (Some id) tells (ended e) there well is-it =
      let below = ltb-true k m.count (and_both (ltb k m.count) (eqb id.0 (member_id s m k)) is-it).0 in
      absurd (omega arith)
  reached good (Some id) (found _ in_names named-so) (further {name = first} {d = d} {fs = fs} part id_there id_is part_is more) there well is-it =
      let same_id = eqb-true id.0 (member_id s m k) (and_both (ltb k m.count) (eqb id.0 (member_id s m k)) is-it).1 in
      let firsts = and_both (among first names) _ there in
      let place : id.0 ≡ id_of names first = same_id ∙ id_is in
      let is : first ≡ name = sym (id_name names first firsts.0) ∙ ap (λ (i : ℕ). get_or names i []) (sym place) ∙ named-so in
      record {
        d = d;
        is = rw (is, same_refl name);
        part_is = part_is;
        part_there = part;
        well = (and_both (good d) (all_members good fs) well).0;
        known = (and_both (names_there names d) (field_names_there names fs) firsts.1).0;
      }

  pub not_reached : (from : ℕ) (looked : Option InputId) → PassedBy s m from looked k → Tells names name looked → {fs : Fields} → From names s m k fs
      → rising names ≡ true → rising (field_names fs) ≡ true → field_names_there names fs ≡ true → is_member s m k looked ≡ false → field_at name fs ≡ None
  unfolding is_member
  not_reached from None passed (missing unknown) {fs} held names_rise rise there is-not = unknown_missing names name fs there unknown
  not_reached from (Some id) (up_to _ _ p) (found _ in_names named-so) {fs} held names_rise rise there is-not =
      let own : id_of names name ≡ id.0 = rw named-so at (id_place names id.0 names_rise in_names) in
      lower_missing names name fs names_rise rise there (λ first d more e. go first d more own (rw e at held))
    where
      go : (first : List ℕ) (d : Doc) (more : Fields) → id_of names name ≡ id.0 → From names s m k (field first d more) → id_of names name < id_of names first
      go first d more own (further part id_there id_is part_is behind) =
          let below : k < m.count = id_there.below in
          let least = p.stops below in
          let other : id.0 ≡ member_id s m k → ⊥ = eqb-false id.0 (member_id s m k) (rw (lt-ltb k m.count below) at is-not) in
          let apart : id.0 ≡ id_of names first → ⊥ = λ e. other (e ∙ sym id_is) in
          lt_of_le-ne (omega arith) (λ e. apart (sym own ∙ e))

-- ---- the members that are passed on the way to a column's

module _ {names : Dictionary} {s : List ℕ} {m : Members} {k : ℕ} {fs : Fields} {looked : Option InputId} {to : ℕ}
    (held : From names s m k fs) (passed : PassedBy s m k looked to) where
  abbrev rest : Fields
  rest = skipped (to - k) fs

  pub passed_from : From names s m to rest
  passed_from = go passed
    where
      go : {looked : Option InputId} {to : ℕ} → PassedBy s m k looked to → From names s m to (skipped (to - k) fs)
      go (up_to id to p) = let behind = p.behind in from_skipped (to - k) held to (omega arith) p.within
      go passed_none = from_skipped (k - k) held k (omega arith) (from_run held).within

  module _ (name : List ℕ) (node : Schema) (more : SchemaFields) (names_rise : rising names ≡ true) (tells : Tells names name looked)
      (rise : rising (name ∷ column_names more) ≡ true) (there : field_names_there names fs ≡ true) where
    pub passed_cut : cut_fields (named name node more) fs ≡ cut_fields (named name node more) rest
    unfolding skipped column_names
    passed_cut = go passed tells
      where
        go : {looked : Option InputId} {to : ℕ} → PassedBy s m k looked to → Tells names name looked
            → cut_fields (named name node more) fs ≡ cut_fields (named name node more) (skipped (to - k) fs)
        go (up_to id to p) tells =
            let behind = p.behind in
            let above = (first_above names id name (column_names more) names_rise tells rise).1 in
            skipped_cut id.0 (named name node more) above (to - k) held there (λ j least below. p.lower j least (omega arith))
        go passed_none tells = let none_passed : k - k ≡ 0 = omega arith in rw none_passed
