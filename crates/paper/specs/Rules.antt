-- "Rows that rebuild refuses with 7" (01): rules a to f.
use Rattle.std.specs.Prelude.{Bool, true, false, not, ◌&&◌, ◌||◌, List, [], ◌∷◌, ℕ}
use Rattle.paper.specs.Words.{among}
use Rattle.paper.specs.Metadata.{Dictionary}
use Rattle.paper.specs.Meaning.{Doc, null, scalar, array, object, Fields, no_fields, field}
use Rattle.paper.specs.Schemas.{Schema, leftover_only, column, list, fields, SchemaFields, none_named, named, column_names}
use Rattle.paper.specs.Rows.{Place, empty, leftover, typed, both, Typed, cell, inner, Places, no_places, place, Row}

-- ---- what the rules speak of

unfoldable pub has_leftover : Place → Bool
has_leftover empty = false
has_leftover (leftover d) = true
has_leftover (typed t) = false
has_leftover (both d t) = true

unfoldable pub has_typed : Place → Bool
has_typed empty = false
has_typed (leftover d) = false
has_typed (typed t) = true
has_typed (both d t) = true

-- The leftover; null where there is none.
unfoldable pub leftover_of : Place → Doc
leftover_of empty = null
leftover_of (leftover d) = d
leftover_of (typed t) = null
leftover_of (both d t) = d

unfoldable pub is_object : Doc → Bool
is_object null = false
is_object (scalar s) = false
is_object (array ds) = false
is_object (object fs) = true

unfoldable pub is_array : Doc → Bool
is_array null = false
is_array (scalar s) = false
is_array (array ds) = true
is_array (object fs) = false

unfoldable pub is_fields_node : Schema → Bool
is_fields_node leftover_only = false
is_fields_node (column said) = false
is_fields_node (list element) = false
is_fields_node (fields columns) = true

unfoldable pub is_list_node : Schema → Bool
is_list_node leftover_only = false
is_list_node (column said) = false
is_list_node (list element) = true
is_list_node (fields columns) = false

unfoldable pub named_by : Schema → List (List ℕ)
named_by leftover_only = []
named_by (column said) = []
named_by (list element) = []
named_by (fields columns) = column_names columns

unfoldable pub any_named : List (List ℕ) → Fields → Bool
any_named names no_fields = false
any_named names (field name d fs) = among name names || any_named names fs

unfoldable pub has_any : List (List ℕ) → Doc → Bool
has_any names null = false
has_any names (scalar s) = false
has_any names (array ds) = false
has_any names (object fs) = any_named names fs

-- ---- the rules, each true where a place breaks it

-- a. both fields, node not an object
unfoldable pub breaks_a : Schema → Place → Bool
breaks_a node p = has_leftover p && (has_typed p && not (is_fields_node node))

-- b. both, leftover not an object
unfoldable pub breaks_b : Place → Bool
breaks_b p = has_leftover p && (has_typed p && not (is_object (leftover_of p)))

-- c. both, leftover has a name that the node names
unfoldable pub breaks_c : Schema → Place → Bool
breaks_c node p = has_leftover p && (has_typed p && has_any (named_by node) (leftover_of p))

-- d. no `42`, leftover an object under an object node or an array under a list node
unfoldable pub breaks_d : Schema → Place → Bool
breaks_d node p =
    not (has_typed p)
    && ((is_object (leftover_of p) && is_fields_node node) || (is_array (leftover_of p) && is_list_node node))

-- e. an empty list element
unfoldable pub breaks_e : Place → Bool
breaks_e element = not (has_leftover element || has_typed element)

-- f. a schema field present whose name is not in the row's dictionary
unfoldable pub breaks_f : Dictionary → (name : List ℕ) → Place → Bool
breaks_f names name p = (has_leftover p || has_typed p) && not (among name names)

-- ---- a place and all inside it break none

-- What is typed in a place breaks none.
unfoldable pub inside_lawful : (Typed → Bool) → Place → Bool
inside_lawful typed_lawful empty = true
inside_lawful typed_lawful (leftover d) = true
inside_lawful typed_lawful (typed t) = typed_lawful t
inside_lawful typed_lawful (both d t) = typed_lawful t

-- A place under a node, by whether what is typed in it is lawful.
unfoldable pub place_lawful_by : Schema → (Typed → Bool) → Place → Bool
place_lawful_by node typed_lawful p =
    not (breaks_a node p || (breaks_b p || (breaks_c node p || breaks_d node p))) && inside_lawful typed_lawful p

-- A cell breaks no rule.
unfoldable pub cell_lawful : Typed → Bool
cell_lawful t = true

-- Inner places, by whether they are lawful. (Where they belong, a row that parsed has no cell.)
unfoldable pub inner_lawful : (Places → Bool) → Typed → Bool
inner_lawful places_lawful (inner ps) = places_lawful ps
inner_lawful places_lawful (cell said value) = true

-- A list's: no element is empty, and none breaks a rule.
unfoldable pub elements_lawful : (Place → Bool) → Places → Bool
elements_lawful lawful_one no_places = true
elements_lawful lawful_one (place p ps) = (not (breaks_e p) && lawful_one p) && elements_lawful lawful_one ps

unfoldable mutual
  pub place_lawful : Schema → Dictionary → Place → Bool
  place_lawful leftover_only names = place_lawful_by leftover_only cell_lawful
  place_lawful (column said) names = place_lawful_by (column said) cell_lawful
  place_lawful (list element) names =
      place_lawful_by (list element) (inner_lawful (elements_lawful (λ p. place_lawful element names p)))
  place_lawful (fields columns) names =
      place_lawful_by (fields columns) (inner_lawful (λ ps. fields_lawful columns names ps))

  -- An object's. (A row that parsed has as many places as the node has fields.)
  pub fields_lawful : SchemaFields → Dictionary → Places → Bool
  fields_lawful none_named names ps = true
  fields_lawful (named name node columns) names no_places = true
  fields_lawful (named name node columns) names (place p ps) =
      (not (breaks_f names name p) && place_lawful node names p) && fields_lawful columns names ps

-- A row that parses and breaks no rule.
unfoldable pub row_lawful : Schema → Row → Bool
row_lawful schema row = place_lawful schema row.names row.outermost
