-- What is typed and what is left over: a column has a scalar exactly when it takes it, and a leftover has no field that its node
-- names. What holds wherever a document is cut, and of a missing field, holds at every place of a row: so the column rule does.
use Rattle.std.specs.Prelude.{Option, None, Some}
use mathlib.Core.Bool.{Bool, true, false, cond}
use mathlib.Core.Path.{◌≡◌, refl}
use Rattle.paper.specs.Cells.{takes}
use Rattle.paper.specs.Meaning.{Scalar, Doc, null, scalar, array, object, Docs, no_docs, doc, Fields, no_fields, field}
use Rattle.paper.specs.Rows.{Place, empty, leftover, typed, Typed, cell, inner}
use Rattle.paper.specs.Rules.{has_typed, leftover_of, is_object, is_array, any_named, has_any, inside_lawful, inner_lawful}
use Rattle.paper.specs.Schemas.{Column, Schema, leftover_only, column, list, fields, SchemaFields, none_named, named, column_names}
use Rattle.paper.specs.Shredding.{unnamed, with_rest, cut_scalar, cut_all, cut_field, cut, cut_fields}
use Rattle.paper.specs.Standing.{field_at}
use Rattle.written.proofs.FieldLaws.{unnamed_apart}
use Rattle.written.specs.Everywhere.{takes_doc, cell_taken, column_kept, column_rule, every_element, everywhere, every_field}

-- ---- at one place

module _ (said : Column) (value : Scalar) where
  pub taken_typed : takes said value ≡ true → cut (column said) (scalar value) ≡ typed (cell said value)
  unfolding cut cut_scalar
  taken_typed taken = rw taken

  pub other_left : takes said value ≡ false → cut (column said) (scalar value) ≡ leftover (scalar value)
  unfolding cut cut_scalar
  other_left other = rw other

  scalar_kept : column_kept said (cut_scalar said value) ≡ true
  unfolding cut_scalar column_kept cell_taken takes_doc
  scalar_kept = go (takes said value) refl
    where
      go : (b : Bool) → takes said value ≡ b → column_kept said (cond b (typed (cell said value)) (leftover (scalar value))) ≡ true
      go true taken = taken
      go false other = rw other

pub typed_exactly : (said : Column) (d : Doc) → has_typed (cut (column said) d) ≡ takes_doc said d
unfolding cut cut_scalar has_typed takes_doc
typed_exactly said null = refl
typed_exactly said (scalar value) = go (takes said value)
  where
    go : (b : Bool) → has_typed (cond b (typed (cell said value)) (leftover (scalar value))) ≡ b
    go true = refl
    go false = refl
typed_exactly said (array ds) = refl
typed_exactly said (object fs) = refl

rest_unnamed : (columns : SchemaFields) (fs : Fields) (t : Typed) → any_named (column_names columns) fs ≡ false
    → has_any (column_names columns) (leftover_of (with_rest fs t)) ≡ false
unfolding with_rest leftover_of has_any
rest_unnamed columns no_fields t apart = refl
rest_unnamed columns (field name d fs) t apart = apart

pub left_unnamed : (columns : SchemaFields) (d : Doc) → has_any (column_names columns) (leftover_of (cut (fields columns) d)) ≡ false
unfolding cut leftover_of has_any
left_unnamed columns null = refl
left_unnamed columns (scalar value) = refl
left_unnamed columns (array ds) = refl
left_unnamed columns (object fs) =
    rest_unnamed columns (unnamed (column_names columns) fs) (inner (cut_fields columns fs)) (unnamed_apart (column_names columns) fs)

rest_typed : (fs : Fields) (t : Typed) → has_typed (with_rest fs t) ≡ true
unfolding with_rest has_typed
rest_typed no_fields t = refl
rest_typed (field name d fs) t = refl

-- ---- at every place

module _ (test : Schema → Place → Bool) (missing : (node : Schema) → test node empty ≡ true) (each : (node : Schema) (d : Doc) → test node (cut node d) ≡ true) where
  every_element_lem : (element : Schema) → ((d : Doc) → everywhere test element (cut element d) ≡ true) → (ds : Docs)
      → every_element (λ q. everywhere test element q) (cut_all (λ d. cut element d) ds) ≡ true
  unfolding every_element cut_all
  every_element_lem element all no_docs = refl
  every_element_lem element all (doc d ds) = rw (all d, every_element_lem element all ds)

  no_field_everywhere : (node : Schema) → everywhere test node empty ≡ true
  unfolding everywhere inside_lawful
  no_field_everywhere leftover_only = missing leftover_only
  no_field_everywhere (column said) = missing (column said)
  no_field_everywhere (list element) = rw (missing (list element))
  no_field_everywhere (fields columns) = rw (missing (fields columns))

  every_field_lem : (node : Schema) → ((d : Doc) → everywhere test node (cut node d) ≡ true) → (x : Option Doc)
      → everywhere test node (cut_field (λ d. cut node d) x) ≡ true
  unfolding cut_field
  every_field_lem node all None = no_field_everywhere node
  every_field_lem node all (Some d) = all d

  rest_everywhere : (inside : Typed → Bool) (fs : Fields) (t : Typed) → inside t ≡ true → inside_lawful inside (with_rest fs t) ≡ true
  unfolding with_rest inside_lawful
  rest_everywhere inside no_fields t holds = holds
  rest_everywhere inside (field name d fs) t holds = holds

  mutual
    unfolding cut everywhere inside_lawful inner_lawful

    pub cut_everywhere : (node : Schema) (d : Doc) → everywhere test node (cut node d) ≡ true
    cut_everywhere leftover_only d = each leftover_only d
    cut_everywhere (column said) d = each (column said) d
    cut_everywhere (list element) null = rw (each (list element) null)
    cut_everywhere (list element) (scalar value) = rw (each (list element) (scalar value))
    cut_everywhere (list element) (array ds) = rw (each (list element) (array ds)) (every_element_lem element (λ d. cut_everywhere element d) ds)
    cut_everywhere (list element) (object fs) = rw (each (list element) (object fs))
    cut_everywhere (fields columns) null = rw (each (fields columns) null)
    cut_everywhere (fields columns) (scalar value) = rw (each (fields columns) (scalar value))
    cut_everywhere (fields columns) (array ds) = rw (each (fields columns) (array ds))
    cut_everywhere (fields columns) (object fs) =
        rw (each (fields columns) (object fs))
        (rest_everywhere _ (unnamed (column_names columns) fs) (inner (cut_fields columns fs)) (cut-every_field columns fs))

    cut-every_field : (columns : SchemaFields) (fs : Fields) → every_field test columns (cut_fields columns fs) ≡ true
    cut-every_field none_named fs = refl
    cut-every_field (named name node columns) fs =
        rw (every_field_lem node (λ d. cut_everywhere node d) (field_at name fs), cut-every_field columns fs)

-- ---- the column rule

missing_ruled : (node : Schema) → column_rule node empty ≡ true
unfolding column_rule column_kept has_typed leftover_of is_array is_object has_any
missing_ruled leftover_only = refl
missing_ruled (column said) = refl
missing_ruled (list element) = refl
missing_ruled (fields columns) = refl

cut_ruled : (node : Schema) (d : Doc) → column_rule node (cut node d) ≡ true
unfolding column_rule column_kept takes_doc cut has_typed leftover_of is_array is_object has_any
cut_ruled leftover_only d = refl
cut_ruled (column said) null = refl
cut_ruled (column said) (scalar value) = scalar_kept said value
cut_ruled (column said) (array ds) = refl
cut_ruled (column said) (object fs) = refl
cut_ruled (list element) null = refl
cut_ruled (list element) (scalar value) = refl
cut_ruled (list element) (array ds) = refl
cut_ruled (list element) (object fs) = refl
cut_ruled (fields columns) null = refl
cut_ruled (fields columns) (scalar value) = refl
cut_ruled (fields columns) (array ds) = refl
cut_ruled (fields columns) (object fs) =
    rw (left_unnamed columns (object fs), rest_typed (unnamed (column_names columns) fs) (inner (cut_fields columns fs)))

pub column_rule_lem : (node : Schema) (d : Doc) → everywhere column_rule node (cut node d) ≡ true
column_rule_lem = cut_everywhere column_rule missing_ruled cut_ruled
