-- What a document is cut into means the document: shown over the node, the fields of an object by what a place means.
use Rattle.std.specs.Prelude.{Option, None, Some}
use mathlib.Core.Bool.{Bool, true, false, cond}
use mathlib.Core.List.{List}
use mathlib.Core.Path.{◌≡◌, refl, sym, ap, ◌∙◌}
use Prim.Native.Nat.{ℕ, ◌-◌}
use Rattle.forms.specs.WellFormed.{all_docs, all_members, well_formed}
use Rattle.names.proofs.RisingLaws.{rising_more}
use Rattle.paper.proofs.WordLaws.{and_both}
use Rattle.paper.specs.Cells.{takes}
use Rattle.paper.specs.Meaning.{Scalar, Doc, null, scalar, array, object, Docs, no_docs, doc, Fields, no_fields, field}
use Rattle.paper.specs.Metadata.{rising}
use Rattle.paper.specs.Normal.{field_names}
use Rattle.paper.specs.Rebuilding.{merge, fields_in, or_null, place_meaning_by, cell_doc, inner_doc, list_meaning, add_field, place_meaning, fields_meaning}
use Rattle.paper.specs.Rows.{Place, empty, leftover, typed, Typed, cell, inner}
use Rattle.paper.specs.Schemas.{Column, Schema, leftover_only, column, list, fields, SchemaFields, none_named, named, column_names}
use Rattle.paper.specs.Shredding.{unnamed, with_rest, cut_scalar, cut_all, cut_field, cut, cut_fields}
use Rattle.paper.specs.Standing.{field_at}
use Rattle.schemas.proofs.GoodLaws.{good_element, good_object, good_field}
use Rattle.schemas.specs.Written.{good_schema, good_fields}
use Rattle.written.proofs.FieldLaws.{found_holds}
use Rattle.written.proofs.MergedLaws.{named_of, named_none, named_more, merged}
use Rattle.written.proofs.FittingLaws.{elements_good, members_good}

scalar_means : (said : Column) (value : Scalar) → place_meaning_by cell_doc (cut_scalar said value) ≡ Some (scalar value)
unfolding cut_scalar place_meaning_by cell_doc
scalar_means said value = go (takes said value)
  where
    go : (b : Bool) → place_meaning_by cell_doc (cond b (typed (cell said value)) (leftover (scalar value))) ≡ Some (scalar value)
    go true = refl
    go false = refl

rest_means : (typed_means : Typed → Doc) (left others fs : Fields) (t : Typed) → typed_means t ≡ object others → merge left others ≡ fs
    → place_meaning_by typed_means (with_rest left t) ≡ Some (object fs)
unfolding with_rest place_meaning_by merge fields_in
rest_means typed_means no_fields others fs t means together = rw (means, together)
rest_means typed_means (field name d left) others fs t means together =
    ap (λ (m : Doc). Some (object (merge (field name d left) (fields_in m)))) means ∙ ap (λ (f : Fields). Some (object f)) together

elements_mean : (cut_one : Doc → Place) (means : Place → Option Doc) (good : Doc → Bool) → ((d : Doc) → good d ≡ true → means (cut_one d) ≡ Some d)
    → (ds : Docs) → all_docs good ds ≡ true → list_meaning means (cut_all cut_one ds) ≡ ds
unfolding cut_all list_meaning all_docs or_null
elements_mean cut_one means good each no_docs all = refl
elements_mean cut_one means good each (doc d ds) all =
    let both = and_both (good d) (all_docs good ds) all in
    rw (each d both.0, elements_mean cut_one means good each ds both.1)

field_means : (node : Schema) (x : Option Doc) → ((d : Doc) → x ≡ Some d → place_meaning node (cut node d) ≡ Some d)
    → place_meaning node (cut_field (λ d. cut node d) x) ≡ x
unfolding cut_field
field_means node None each = no_place node
  where
    no_place : (node : Schema) → place_meaning node empty ≡ None
    no_place leftover_only = unfold place_meaning place_meaning_by in refl
    no_place (column said) = unfold place_meaning place_meaning_by in refl
    no_place (list element) = unfold place_meaning place_meaning_by in refl
    no_place (fields columns) = unfold place_meaning place_meaning_by in refl
field_means node (Some d) each = each d refl

member_good : (good : Doc → Bool) (name : List ℕ) (fs : Fields) (d : Doc) → all_members good fs ≡ true → field_at name fs ≡ Some d → good d ≡ true
unfolding all_members
member_good good =
    found_holds (λ fs. all_members good fs ≡ true) (λ name d. good d ≡ true) (λ name d fs all. and_both (good d) (all_members good fs) all)

mutual
  unfolding cut place_meaning place_meaning_by inner_doc column_names

  pub cut_means : (node : Schema) (levels : ℕ) (d : Doc) → good_schema node levels ≡ true → well_formed levels d ≡ true → place_meaning node (cut node d) ≡ Some d
  cut_means leftover_only levels d good well = refl
  cut_means (column said) levels null good well = refl
  cut_means (column said) levels (scalar value) good well = scalar_means said value
  cut_means (column said) levels (array ds) good well = refl
  cut_means (column said) levels (object fs) good well = refl
  cut_means (list element) levels null good well = refl
  cut_means (list element) levels (scalar value) good well = refl
  cut_means (list element) levels (array ds) good well =
      ap (λ (all : Docs). Some (array all))
      (elements_mean (λ d. cut element d) (λ p. place_meaning element p) (well_formed (levels - 1))
      (λ d well-one. cut_means element (levels - 1) d (good_element element levels good) well-one) ds (elements_good levels ds well))
  cut_means (list element) levels (object fs) good well = refl
  cut_means (fields columns) levels null good well = refl
  cut_means (fields columns) levels (scalar value) good well = refl
  cut_means (fields columns) levels (array ds) good well = refl
  cut_means (fields columns) levels (object fs) good well =
      let tree = good_object columns levels good in
      let wells = members_good levels fs well in
      rest_means _ (unnamed (column_names columns) fs) (named_of (column_names columns) fs) fs (inner (cut_fields columns fs))
      (ap object (fields_mean columns (levels - 1) fs tree.inside tree.rise wells.0 wells.1))
      (merged (column_names columns) fs wells.0)

  fields_mean : (columns : SchemaFields) (levels : ℕ) (fs : Fields) → good_fields columns levels ≡ true → rising (column_names columns) ≡ true
      → rising (field_names fs) ≡ true → all_members (well_formed levels) fs ≡ true → fields_meaning columns (cut_fields columns fs) ≡ named_of (column_names columns) fs
  fields_mean none_named levels fs good rise rises well = sym (named_none fs)
  fields_mean (named name node columns) levels fs good rise rises well =
      let goods = good_field name node columns levels good in
      ap (λ (x : Option Doc). add_field name x (fields_meaning columns (cut_fields columns fs)))
      (field_means node (field_at name fs) (λ d found. cut_means node levels d goods.0 (member_good (well_formed levels) name fs d well found)))
      ∙ ap (add_field name (field_at name fs)) (fields_mean columns levels fs goods.1 (rising_more name (column_names columns) rise) rises well)
      ∙ sym (named_more name (column_names columns) fs rise rises)
