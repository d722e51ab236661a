-- The column rule, at every place of a row: what a node can type is typed, and nothing else is.
use Rattle.std.specs.Prelude.{Bool, true, false, not, ◌&&◌, ◌||◌}
use Rattle.paper.specs.Cells.{takes}
use Rattle.paper.specs.Meaning.{Doc, null, scalar, array, object}
use Rattle.paper.specs.Rows.{Place, empty, leftover, typed, both, Typed, cell, inner, Places, no_places, place}
use Rattle.paper.specs.Rules.{has_typed, leftover_of, is_object, is_array, has_any, inside_lawful, inner_lawful}
use Rattle.paper.specs.Schemas.{Column, Schema, leftover_only, column, list, fields, SchemaFields, none_named, named, column_names}

-- A column takes a document that is a scalar of its type.
unfoldable pub takes_doc : Column → Doc → Bool
takes_doc said null = false
takes_doc said (scalar value) = takes said value
takes_doc said (array ds) = false
takes_doc said (object fs) = false

unfoldable pub cell_taken : Column → Typed → Bool
cell_taken said (cell own value) = takes said value
cell_taken said (inner ps) = false

-- A column has typed what it takes, and left over what it does not.
unfoldable pub column_kept : Column → Place → Bool
column_kept said empty = true
column_kept said (leftover d) = not (takes_doc said d)
column_kept said (typed t) = cell_taken said t
column_kept said (both d t) = false

-- No array is left over at a list; no object at an object's node but beside its typed fields, and there no field that is named.
unfoldable pub column_rule : Schema → Place → Bool
column_rule leftover_only p = not (has_typed p)
column_rule (column said) p = column_kept said p
column_rule (list element) p = not (is_array (leftover_of p))
column_rule (fields columns) p = not (has_any (column_names columns) (leftover_of p)) && (has_typed p || not (is_object (leftover_of p)))

-- ---- a test of places under their nodes, at a place and at all inside it

unfoldable pub every_element : (Place → Bool) → Places → Bool
every_element test no_places = true
every_element test (place p ps) = test p && every_element test ps

unfoldable mutual
  pub everywhere : (Schema → Place → Bool) → Schema → Place → Bool
  everywhere test leftover_only p = test leftover_only p
  everywhere test (column said) p = test (column said) p
  everywhere test (list element) p =
      test (list element) p && inside_lawful (inner_lawful (every_element (λ q. everywhere test element q))) p
  everywhere test (fields columns) p = test (fields columns) p && inside_lawful (inner_lawful (λ ps. every_field test columns ps)) p

  pub every_field : (Schema → Place → Bool) → SchemaFields → Places → Bool
  every_field test none_named ps = true
  every_field test (named name node columns) no_places = true
  every_field test (named name node columns) (place p ps) = everywhere test node p && every_field test columns ps
