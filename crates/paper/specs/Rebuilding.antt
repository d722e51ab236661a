-- What a lawful row means (01), of which rebuild writes the normal form.
use Rattle.std.specs.Prelude.{List, ℕ, Option, None, Some}
use Rattle.std.specs.declared.cmp.Ordering.{Ordering}
use Rattle.std.specs.declared.cmp.Ordering.TheVariants.{Less, Equal, Greater}
use Rattle.order.specs.Before.{order_of}
use Rattle.paper.specs.Meaning.{Doc, null, scalar, array, object, Docs, no_docs, doc, Fields, no_fields, field}
use Rattle.paper.specs.Schemas.{Schema, leftover_only, column, list, fields, SchemaFields, none_named, named}
use Rattle.paper.specs.Rows.{Place, empty, leftover, typed, both, Typed, cell, inner, Places, no_places, place, Row}

-- ---- an object's typed and leftover fields together, names rising

-- As `insert_by` of `Normal.antt`: by how the name compares with the first one; `inserted` is what going on behind the first
-- one gives. A lawful row never has the same name twice (rule c).
unfoldable pub insert_field_by : Ordering → List ℕ → Doc → List ℕ → Doc → Fields → Fields → Fields
insert_field_by Less name d first e more inserted = field name d (field first e more)
insert_field_by Equal name d first e more inserted = field name d more
insert_field_by Greater name d first e more inserted = field first e inserted

unfoldable pub insert_field : (name : List ℕ) → Doc → Fields → Fields
insert_field name d no_fields = field name d no_fields
insert_field name d (field first e more) = insert_field_by (order_of name first) name d first e more (insert_field name d more)

unfoldable pub merge : Fields → Fields → Fields
merge no_fields others = others
merge (field name d fs) others = insert_field name d (merge fs others)

-- The fields of an object; a lawful row has no other leftover beside a typed object.
unfoldable pub fields_in : Doc → Fields
fields_in null = no_fields
fields_in (scalar s) = no_fields
fields_in (array ds) = no_fields
fields_in (object fs) = fs

-- ---- what places mean

-- An empty place is a missing field; the outermost one is null.
unfoldable pub or_null : Option Doc → Doc
or_null None = null
or_null (Some d) = d

-- What a place means, by what its typed body means.
unfoldable pub place_meaning_by : (Typed → Doc) → Place → Option Doc
place_meaning_by typed_means empty = None
place_meaning_by typed_means (leftover d) = Some d
place_meaning_by typed_means (typed t) = Some (typed_means t)
place_meaning_by typed_means (both d t) = Some (object (merge (fields_in d) (fields_in (typed_means t))))

-- A cell. (Where one belongs, a row that parsed has no inner places.)
unfoldable pub cell_doc : Typed → Doc
cell_doc (cell said value) = scalar value
cell_doc (inner ps) = null

-- Inner places, by what they mean. (Where they belong, a row that parsed has no cell.)
unfoldable pub inner_doc : (Places → Doc) → Typed → Doc
inner_doc places_mean (inner ps) = places_mean ps
inner_doc places_mean (cell said value) = null

-- A list's elements, by what a place means. (A lawful row has no empty one.)
unfoldable pub list_meaning : (Place → Option Doc) → Places → Docs
list_meaning means no_places = no_docs
list_meaning means (place p ps) = doc (or_null (means p)) (list_meaning means ps)

unfoldable pub add_field : List ℕ → Option Doc → Fields → Fields
add_field name None fs = fs
add_field name (Some d) fs = field name d fs

-- What a place under a node means; nothing if it is empty. (Under node `00` a row that parsed has nothing typed.)
unfoldable mutual
  pub place_meaning : Schema → Place → Option Doc
  place_meaning leftover_only = place_meaning_by cell_doc
  place_meaning (column said) = place_meaning_by cell_doc
  place_meaning (list element) = place_meaning_by (inner_doc (λ ps. array (list_meaning (λ p. place_meaning element p) ps)))
  place_meaning (fields columns) = place_meaning_by (inner_doc (λ ps. object (fields_meaning columns ps)))

  -- An object's fields. (A row that parsed has as many places as the node has fields.)
  pub fields_meaning : SchemaFields → Places → Fields
  fields_meaning none_named ps = no_fields
  fields_meaning (named name node columns) no_places = no_fields
  fields_meaning (named name node columns) (place p ps) = add_field name (place_meaning node p) (fields_meaning columns ps)

-- What a row means: an empty outermost place rebuilds to null.
unfoldable pub row_meaning : Schema → Row → Doc
row_meaning schema row = or_null (place_meaning schema row.outermost)
