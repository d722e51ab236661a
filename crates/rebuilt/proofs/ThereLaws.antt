-- Stepping through a lawful row: what a place holds by its parts, and what is typed in it by the kind of its node.
use Rattle.std.specs.Prelude.{Option, None, Some}
use mathlib.Core.Bool.{Bool, true, false, ◌||◌}
use mathlib.Core.List.{List}
use mathlib.Core.Path.{◌≡◌, refl, sym, ap, ◌∙◌}
use Prim.Native.Nat.{ℕ, ◌+◌, ◌-◌, ◌≤◌}
use native.Mathlib.Omega.{arith}
use borrow.Author.Tests.{leb-true}
use lib.Dec.{leb}
use lib.ListN.{length}
use Rattle.paper.specs.Cells.{cell_meaning}
use Rattle.paper.specs.Limits.{most_leftover}
use Rattle.paper.specs.Meaning.{Scalar, Doc, null, scalar, array, object, Fields}
use Rattle.paper.specs.Metadata.{Dictionary}
use Rattle.paper.specs.Rows.{cell, leftover_meaning, no_body, cell_body}
use Rattle.paper.specs.Rules.{cell_lawful, is_object, is_fields_node, named_by, has_any, any_named}
use Rattle.paper.specs.Schemas.{Column, Schema, leftover_only, column, list, fields, SchemaFields, column_names, column_code}
use Rattle.paper.specs.Values.{meaning_of}
use Rattle.paper.specs.Words.{part, is_there, and_then}
use Rattle.fields.proofs.TellingLaws.{element_told, fields_told}
use Rattle.paper.proofs.WordLaws.{never, given_some}
use Rattle.places.proofs.PlaceLaws.{told_by, place_left, place_typed, place_both, place_unframed}
use Rattle.places.proofs.VerdictLaws.{typed_list, typed_fields}
use Rattle.places.specs.Leftovers.{beside_broken, with_left}
use Rattle.places.specs.Parts.{parts_of}
use Rattle.places.specs.Verdicts.{verdict_of, typed_under, typed_lawful, typed_verdict, broken_if}
use Rattle.places.specs.declared.parts.Parts.TheVariants.{Leftover, Typed, Both, Unframed}
use Rattle.places.specs.declared.parts.Parts.{Parts}
use Rattle.places.specs.declared.verdicts.Verdict.TheVariants.{Lawful, Broken, Unparsed}
use Rattle.places.specs.declared.verdicts.Verdict.{Verdict}
use Rattle.schemas.proofs.KindLaws.{kind_is, kind_there, leftover_here_lem, column_here_lem, list_here_lem, object_here}
use Rattle.schemas.proofs.StandingLaws.{some_level}
use Rattle.schemas.specs.Frames.{frame_end}
use Rattle.schemas.specs.Kinds.{kind_of, kind_at, KindThere}
use Rattle.schemas.specs.Positions.{Stands}
use Rattle.schemas.specs.declared.readers.Kind.TheVariants.{Leftover as LeftoverKind, Column as ColumnKind, List as ListKind, Fields as FieldsKind}
use Rattle.schemas.specs.declared.readers.Kind.{Kind}
use Rattle.rebuilt.specs.There.{PlaceThere, TypedThere, ElementsThere, MembersThere}

-- ---- what is lawful

pub unparsed_not : {A : Type 0} → Unparsed ≡ Lawful → A
unparsed_not e = let z : ◌≡◌ {A = ℕ} 0 1 = cc in absurd (omega arith)

pub broken_not : {A : Type 0} → Broken ≡ Lawful → A
broken_not e = let z : ◌≡◌ {A = ℕ} 0 1 = cc in absurd (omega arith)

pub not_broken : (b : Bool) (v : Verdict) → broken_if b v ≡ Lawful → (b ≡ false) × (v ≡ Lawful)
not_broken true Unparsed e = unparsed_not e
not_broken true Broken e = broken_not e
not_broken true Lawful e = broken_not e
not_broken false v e = (refl, e)

left_lawful : (x : Option Doc) (next : Doc → Verdict) → with_left x next ≡ Lawful → (d : Doc) × (x ≡ Some d) × (next d ≡ Lawful)
unfolding with_left
left_lawful None next e = unparsed_not e
left_lawful (Some d) next e = (d, refl, e)

-- ---- a place by its parts

-- A leftover that means something.
pub record LeftThere (levels : ℕ) (names : Dictionary) (left : List ℕ) : Type 0 where
  pub doc : Doc
  pub means : meaning_of levels names left ≡ Some doc
  pub few : length left ≤ most_leftover

left_there : (levels : ℕ) (names : Dictionary) (left : List ℕ) {d : Doc} → leftover_meaning levels names left ≡ Some d
    → (meaning_of levels names left ≡ Some d) × (length left ≤ most_leftover)
unfolding leftover_meaning
left_there levels names left e =
    let told = given_some (leb (length left) most_leftover) (meaning_of levels names left) e in
    (told.1, leb-true (length left) most_leftover told.0)

-- A leftover beside something typed: an object under an object's node, which names none of its fields.
pub record BesideThere (levels : ℕ) (names : Dictionary) (schema : List ℕ) (node : ℕ) (under : Schema) (left : List ℕ) : Type 0 where
  pub members : Fields
  pub means : meaning_of levels names left ≡ Some (object members)
  pub few : length left ≤ most_leftover
  pub columns : SchemaFields
  pub under_is : under ≡ fields columns
  pub kind_is : kind_at schema node ≡ FieldsKind
  pub apart : any_named (column_names columns) members ≡ false

no_or : (a b : Bool) → a || b ≡ false → (a ≡ false) × (b ≡ false)
no_or true b e = never e
no_or false b e = (refl, e)

beside_there : {levels : ℕ} {names : Dictionary} {schema : List ℕ} {node : ℕ} {left : List ℕ} (under : Schema) → Stands levels schema node under → (d : Doc)
    → leftover_meaning levels names left ≡ Some d → beside_broken under d ≡ false → BesideThere levels names schema node under left
unfolding beside_broken is_fields_node is_object named_by has_any kind_of
beside_there leftover_only stands d e kept = never kept
beside_there (column said) stands d e kept = never kept
beside_there (list element) stands d e kept = never kept
beside_there (fields columns) stands null e kept = never kept
beside_there (fields columns) stands (scalar s) e kept = never kept
beside_there (fields columns) stands (array ds) e kept = never kept
beside_there {levels} {names} {left = left} (fields columns) stands (object fs) e kept =
    let told = left_there levels names left e in
    record { members = fs; means = told.0; few = told.1; columns = columns; under_is = refl; kind_is = kind_is stands; apart = kept }

module _ {levels : ℕ} {names : Dictionary} {schema table : List ℕ} {node : ℕ} {body : List ℕ} (there : PlaceThere levels names schema table node body)
    {p : Parts} (is : p ≡ parts_of body) where
  pub place_leftover : p ≡ Leftover → LeftThere levels names (part body 3 (length body))
  place_leftover e =
      let lawful = left_lawful _ _ (sym (place_left there.under levels names body (told_by body is e)) ∙ there.lawful) in
      let told = left_there levels names _ lawful.1 in
      record { doc = lawful.0; means = told.0; few = told.1 }

  pub place_only : p ≡ Typed → TypedThere levels names schema table node (part body 3 (length body))
  place_only e =
      record {
        tabled = there.tabled;
        under = there.under;
        stands = there.stands;
        told = there.told;
        lawful = sym (place_typed there.under levels names body (told_by body is e)) ∙ there.lawful;
      }

  module _ {middle : ℕ} (e : p ≡ Both middle) where
    beside_lawful : (d : Doc) × (leftover_meaning levels names (part body 3 middle) ≡ Some d)
        × (broken_if (beside_broken there.under d) (typed_verdict there.under levels names (part body (middle + 3) (length body))) ≡ Lawful)
    beside_lawful = left_lawful _ _ (sym (place_both there.under levels names body middle (told_by body is e)) ∙ there.lawful)

    pub place_beside : BesideThere levels names schema node there.under (part body 3 middle)
    place_beside = beside_there there.under there.stands beside_lawful.0 beside_lawful.1 (not_broken _ _ beside_lawful.2).0

    pub place_behind : TypedThere levels names schema table node (part body (middle + 3) (length body))
    place_behind =
        record {
          tabled = there.tabled;
          under = there.under;
          stands = there.stands;
          told = there.told;
          lawful = (not_broken (beside_broken there.under beside_lawful.0) _ beside_lawful.2).1;
        }

  pub place_framed : p ≡ Unframed → ⊥
  place_framed e = unparsed_not (sym (place_unframed there.under levels names body (told_by body is e)) ∙ there.lawful)

-- ---- what is typed, by the kind of its node

cell_there : (said : Column) (x : Option Scalar) → verdict_of (and_then x λ value. Some (cell said value)) cell_lawful ≡ Lawful → is_there x ≡ true
unfolding verdict_of and_then is_there
cell_there said None e = unparsed_not e
cell_there said (Some value) e = refl

module _ {levels : ℕ} {names : Dictionary} {schema table : List ℕ} {node : ℕ} {body : List ℕ} (there : TypedThere levels names schema table node body) where
  pub typed_kind : KindThere schema node
  typed_kind = kind_there there.stands

  pub typed_level : 1 ≤ levels
  typed_level = some_level there.stands

  pub typed_frame : frame_end schema node ≤ length schema
  typed_frame = there.stands.within

  lawful_under : {under : Schema} → there.under ≡ under → typed_verdict under levels names body ≡ Lawful
  lawful_under e = ap (λ (n : Schema). typed_verdict n levels names body) (sym e) ∙ there.lawful

  module _ {k : Kind} (is : k ≡ kind_at schema node) where
    pub typed_never : k ≡ LeftoverKind → ⊥
    unfolding typed_verdict typed_under no_body verdict_of
    typed_never e = unparsed_not (lawful_under (leftover_here_lem there.stands is e))

    pub typed_code : {code : ℕ} → k ≡ ColumnKind code → column_code code ≡ true
    typed_code e = let here = column_here_lem there.stands is e in rw here.2 at here.3.good

    pub typed_cell : {code : ℕ} → k ≡ ColumnKind code → is_there (cell_meaning (record { code = code }) body) ≡ true
    unfolding typed_verdict typed_under typed_lawful cell_body
    typed_cell {code} e =
        let here = column_here_lem there.stands is e in
        let same : ◌≡◌ {A = Column} here.0 (record { code = code }) = ap (λ (n : ℕ). record { code = n }) here.2 in
        ap (λ (said : Column). is_there (cell_meaning said body)) (sym same) ∙ cell_there here.0 (cell_meaning here.0 body) (lawful_under here.1)

    pub typed_elements : k ≡ ListKind → ElementsThere (levels - 1) names schema table (node + 3) body
    typed_elements e =
        let here = list_here_lem there.stands is e in
        record {
          tabled = there.tabled;
          element = here.0;
          stands = here.2.inside;
          told = element_told (rw here.1 at there.told);
          lawful = sym (typed_list here.0 levels names body) ∙ lawful_under here.1;
        }

    pub typed_members : k ≡ FieldsKind → (to : ℕ) → to ≡ frame_end schema node → MembersThere (levels - 1) names schema table (node + 3) to body
    typed_members e to ends =
        let here = object_here there.stands is e in
        record {
          tabled = there.tabled;
          columns = here.0;
          stand = rw ends here.2.inside;
          told = fields_told (rw here.1 at there.told);
          lawful = sym (typed_fields here.0 levels names body) ∙ lawful_under here.1;
        }
