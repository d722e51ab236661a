-- What shred writes (01): normal metadata and normal leftovers.
use Rattle.std.specs.Prelude.{Bool, true, false, cond, List, [], ◌∷◌, ◌++◌, ℕ, Option, None, Some}
use Rattle.paper.specs.Words.{among}
use Rattle.paper.specs.Metadata.{Dictionary}
use Rattle.paper.specs.Meaning.{Scalar, Doc, null, scalar, array, object, Docs, no_docs, doc, Fields, no_fields, field}
use Rattle.paper.specs.Standing.{field_at}
use Rattle.paper.specs.Normal.{names_used, metadata_bytes, value_bytes}
use Rattle.paper.specs.Framing.{frame}
use Rattle.paper.specs.Schemas.{Column, Schema, leftover_only, column, list, fields, SchemaFields, none_named, named, column_names}
use Rattle.paper.specs.Cells.{takes, cell_bytes}
use Rattle.paper.specs.Rows.{Place, empty, leftover, typed, both, Typed, cell, inner, Places, no_places, place}

-- The fields that are not named.
unfoldable pub unnamed : List (List ℕ) → Fields → Fields
unnamed names no_fields = no_fields
unnamed names (field name d fs) = cond (among name names) (unnamed names fs) (field name d (unnamed names fs))

-- ---- what each place holds

-- Unnamed fields make one leftover object, none if nothing is left.
unfoldable pub with_rest : Fields → Typed → Place
with_rest no_fields t = typed t
with_rest (field name d fs) t = both (object (field name d fs)) t

-- A scalar under a column is typed exactly when the column takes it.
unfoldable pub cut_scalar : Column → Scalar → Place
cut_scalar said s = cond (takes said s) (typed (cell said s)) (leftover (scalar s))

unfoldable pub cut_all : (Doc → Place) → Docs → Places
cut_all cut_one no_docs = no_places
cut_all cut_one (doc d ds) = place (cut_one d) (cut_all cut_one ds)

-- A missing field is an empty place.
unfoldable pub cut_field : (Doc → Place) → Option Doc → Place
cut_field cut_one None = empty
cut_field cut_one (Some d) = cut_one d

-- A document under a node. Null is always leftover; an array under a list node and an object under an object node are
-- typed; all else is leftover unless a column takes it.
unfoldable mutual
  pub cut : Schema → Doc → Place
  cut leftover_only d = leftover d
  cut (column said) null = leftover null
  cut (column said) (scalar s) = cut_scalar said s
  cut (column said) (array ds) = leftover (array ds)
  cut (column said) (object fs) = leftover (object fs)
  cut (list element) null = leftover null
  cut (list element) (scalar s) = leftover (scalar s)
  cut (list element) (array ds) = typed (inner (cut_all (λ d. cut element d) ds))
  cut (list element) (object fs) = leftover (object fs)
  cut (fields columns) null = leftover null
  cut (fields columns) (scalar s) = leftover (scalar s)
  cut (fields columns) (array ds) = leftover (array ds)
  cut (fields columns) (object fs) = with_rest (unnamed (column_names columns) fs) (inner (cut_fields columns fs))

  pub cut_fields : SchemaFields → Fields → Places
  cut_fields none_named fs = no_places
  cut_fields (named name node columns) fs = place (cut_field (λ d. cut node d) (field_at name fs)) (cut_fields columns fs)

-- ---- how it is written

unfoldable mutual
  pub place_bytes : Dictionary → Place → List ℕ
  place_bytes names empty = frame 0x50 []
  place_bytes names (leftover d) = frame 0x50 (frame 0x41 (value_bytes names d))
  place_bytes names (typed t) = frame 0x50 (frame 0x42 (typed_bytes names t))
  place_bytes names (both d t) = frame 0x50 (frame 0x41 (value_bytes names d) ++ frame 0x42 (typed_bytes names t))

  pub typed_bytes : Dictionary → Typed → List ℕ
  typed_bytes names (cell said value) = cell_bytes said value
  typed_bytes names (inner ps) = places_bytes names ps

  pub places_bytes : Dictionary → Places → List ℕ
  places_bytes names no_places = []
  places_bytes names (place p ps) = place_bytes names p ++ places_bytes names ps

-- The row of a document under a schema.
unfoldable pub row_bytes : Schema → Doc → List ℕ
row_bytes schema d = frame 0x40 (metadata_bytes (names_used d)) ++ place_bytes (names_used d) (cut schema d)
