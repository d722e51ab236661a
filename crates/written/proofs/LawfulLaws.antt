-- What a document is cut into breaks no rule: a leftover beside something typed is an object of fields that its node does not
-- name, no element is empty, and a field that is present has its name in the dictionary.
use Rattle.std.specs.Prelude.{Option, None, Some}
use mathlib.Core.Bool.{Bool, true, false, cond, not, ◌&&◌, ◌||◌, and-false}
use mathlib.Core.List.{List}
use mathlib.Core.Path.{◌≡◌, refl}
use Prim.Native.Nat.{ℕ}
use Rattle.forms.specs.WellFormed.{names_there, all_names_there, field_names_there}
use Rattle.paper.proofs.WordLaws.{and_both}
use Rattle.paper.specs.Cells.{takes}
use Rattle.paper.specs.Meaning.{Scalar, Doc, null, scalar, array, object, Docs, no_docs, doc, Fields, no_fields, field}
use Rattle.paper.specs.Metadata.{Dictionary}
use Rattle.paper.specs.Rows.{empty, leftover, typed, Typed, cell, inner}
use Rattle.paper.specs.Rules.{has_leftover, has_typed, leftover_of, is_object, is_array, is_fields_node, is_list_node, named_by, any_named, has_any, breaks_a, breaks_b, breaks_c, breaks_d, breaks_e, breaks_f, inside_lawful, place_lawful_by, cell_lawful, inner_lawful, elements_lawful, place_lawful, fields_lawful}
use Rattle.paper.specs.Schemas.{Column, Schema, leftover_only, column, list, fields, SchemaFields, none_named, named, column_names}
use Rattle.paper.specs.Shredding.{unnamed, with_rest, cut_scalar, cut_all, cut_field, cut, cut_fields}
use Rattle.paper.specs.Standing.{field_at}
use Rattle.paper.specs.Words.{among}
use Rattle.written.proofs.FieldLaws.{field_there, unnamed_apart}

-- ---- no place of a document is empty

rest_present : (fs : Fields) (t : Typed) → has_leftover (with_rest fs t) || has_typed (with_rest fs t) ≡ true
unfolding with_rest has_leftover has_typed
rest_present no_fields t = refl
rest_present (field name d fs) t = refl

scalar_present : (said : Column) (value : Scalar) → has_leftover (cut_scalar said value) || has_typed (cut_scalar said value) ≡ true
unfolding cut_scalar has_leftover has_typed
scalar_present said value = go (takes said value)
  where
    go : (b : Bool) → (let p = cond b (typed (cell said value)) (leftover (scalar value)) in has_leftover p || has_typed p ≡ true)
    go true = refl
    go false = refl

pub cut_present : (node : Schema) (d : Doc) → has_leftover (cut node d) || has_typed (cut node d) ≡ true
unfolding cut has_leftover has_typed
cut_present leftover_only d = refl
cut_present (column said) null = refl
cut_present (column said) (scalar value) = scalar_present said value
cut_present (column said) (array ds) = refl
cut_present (column said) (object fs) = refl
cut_present (list element) null = refl
cut_present (list element) (scalar value) = refl
cut_present (list element) (array ds) = refl
cut_present (list element) (object fs) = refl
cut_present (fields columns) null = refl
cut_present (fields columns) (scalar value) = refl
cut_present (fields columns) (array ds) = refl
cut_present (fields columns) (object fs) = rest_present (unnamed (column_names columns) fs) (inner (cut_fields columns fs))

-- ---- a place by what it holds

module _ (typed_lawful : Typed → Bool) where
  left_lawful : (node : Schema) (d : Doc) → (is_object d && is_fields_node node) || (is_array d && is_list_node node) ≡ false
      → place_lawful_by node typed_lawful (leftover d) ≡ true
  unfolding place_lawful_by breaks_a breaks_b breaks_c breaks_d has_leftover has_typed leftover_of inside_lawful
  left_lawful node d kept = rw kept

  typed_lawful_lem : (node : Schema) (t : Typed) → typed_lawful t ≡ true → place_lawful_by node typed_lawful (typed t) ≡ true
  unfolding place_lawful_by breaks_a breaks_b breaks_c breaks_d has_leftover has_typed leftover_of inside_lawful
  typed_lawful_lem node t lawful = lawful

  rest_lawful : (columns : SchemaFields) (fs : Fields) (t : Typed) → any_named (column_names columns) fs ≡ false → typed_lawful t ≡ true
      → place_lawful_by (fields columns) typed_lawful (with_rest fs t) ≡ true
  unfolding with_rest place_lawful_by breaks_a breaks_b breaks_c breaks_d has_leftover has_typed leftover_of is_object is_fields_node named_by has_any inside_lawful
  rest_lawful columns no_fields t apart lawful = lawful
  rest_lawful columns (field name d fs) t apart lawful = rw (apart, lawful)

  empty_lawful : (node : Schema) → place_lawful_by node typed_lawful empty ≡ true
  unfolding place_lawful_by breaks_a breaks_b breaks_c breaks_d has_leftover has_typed leftover_of is_object is_array inside_lawful
  empty_lawful node = refl

scalar_lawful : (said : Column) (value : Scalar) → place_lawful_by (column said) cell_lawful (cut_scalar said value) ≡ true
unfolding cut_scalar cell_lawful is_object is_array
scalar_lawful said value = go (takes said value)
  where
    go : (b : Bool) → place_lawful_by (column said) cell_lawful (cond b (typed (cell said value)) (leftover (scalar value))) ≡ true
    go true = typed_lawful_lem cell_lawful (column said) (cell said value) refl
    go false = left_lawful cell_lawful (column said) (scalar value) refl

-- ---- a list's places and an object's

module _ (names : Dictionary) where
  elements_lawful_lem : (element : Schema) → ((d : Doc) → names_there names d ≡ true → place_lawful element names (cut element d) ≡ true)
      → (ds : Docs) → all_names_there names ds ≡ true → elements_lawful (λ p. place_lawful element names p) (cut_all (λ d. cut element d) ds) ≡ true
  unfolding cut_all elements_lawful all_names_there breaks_e
  elements_lawful_lem element each no_docs there = refl
  elements_lawful_lem element each (doc d ds) there =
      let both = and_both (names_there names d) (all_names_there names ds) there in
      rw (cut_present element d, each d both.0, elements_lawful_lem element each ds both.1)

  no_field_lawful : (node : Schema) → place_lawful node names empty ≡ true
  unfolding place_lawful
  no_field_lawful leftover_only = empty_lawful cell_lawful leftover_only
  no_field_lawful (column said) = empty_lawful cell_lawful (column said)
  no_field_lawful (list element) = empty_lawful _ (list element)
  no_field_lawful (fields columns) = empty_lawful _ (fields columns)

  field_lawful : (name : List ℕ) (node : Schema) → ((d : Doc) → names_there names d ≡ true → place_lawful node names (cut node d) ≡ true)
      → (x : Option Doc) → ((d : Doc) → x ≡ Some d → (among name names ≡ true) × (names_there names d ≡ true))
      → (let p = cut_field (λ d. cut node d) x in not (breaks_f names name p) && place_lawful node names p ≡ true)
  unfolding cut_field breaks_f has_leftover has_typed
  field_lawful name node each None there = no_field_lawful node
  field_lawful name node each (Some d) there =
      let found = there d refl in rw (cut_present node d, found.0, each d found.1)

  mutual
    unfolding cut place_lawful inner_lawful is_object is_array is_fields_node is_list_node names_there

    pub cut_lawful : (node : Schema) (d : Doc) → names_there names d ≡ true → place_lawful node names (cut node d) ≡ true
    cut_lawful leftover_only d there = left_lawful cell_lawful leftover_only d (rw (and-false (is_object d), and-false (is_array d)))
    cut_lawful (column said) null there = left_lawful cell_lawful (column said) null refl
    cut_lawful (column said) (scalar value) there = scalar_lawful said value
    cut_lawful (column said) (array ds) there = left_lawful cell_lawful (column said) (array ds) refl
    cut_lawful (column said) (object fs) there = left_lawful cell_lawful (column said) (object fs) refl
    cut_lawful (list element) null there = left_lawful _ (list element) null refl
    cut_lawful (list element) (scalar value) there = left_lawful _ (list element) (scalar value) refl
    cut_lawful (list element) (array ds) there =
        typed_lawful_lem _ (list element) (inner (cut_all (λ d. cut element d) ds))
        (elements_lawful_lem element (λ d found. cut_lawful element d found) ds there)
    cut_lawful (list element) (object fs) there = left_lawful _ (list element) (object fs) refl
    cut_lawful (fields columns) null there = left_lawful _ (fields columns) null refl
    cut_lawful (fields columns) (scalar value) there = left_lawful _ (fields columns) (scalar value) refl
    cut_lawful (fields columns) (array ds) there = left_lawful _ (fields columns) (array ds) refl
    cut_lawful (fields columns) (object fs) there =
        rest_lawful _ columns (unnamed (column_names columns) fs) (inner (cut_fields columns fs)) (unnamed_apart (column_names columns) fs)
        (cut_fields-lawful columns fs there)

    cut_fields-lawful : (columns : SchemaFields) (fs : Fields) → field_names_there names fs ≡ true → fields_lawful columns names (cut_fields columns fs) ≡ true
    cut_fields-lawful none_named fs there = refl
    cut_fields-lawful (named name node columns) fs there =
        rw (
          field_lawful name node (λ d found. cut_lawful node d found) (field_at name fs) (λ d found. field_there names name fs d there found),
          cut_fields-lawful columns fs there,
        )
