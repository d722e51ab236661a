-- Demand 2. Columns, leftovers, normal form.
use Rattle.std.specs.Prelude.{true, false, List, ◌≡◌, ℕ, ◌≤◌, length, Some}
use Rattle.paper.specs.Answers.{number_of, document_carries}
use Rattle.paper.specs.Limits.{most_schema, most_row}
use Rattle.paper.specs.Meaning.{Doc}
use Rattle.paper.specs.Normal.{Document, names_used}
use Rattle.paper.specs.Operations.{rebuild_outcome, document_answer}
use Rattle.paper.specs.Rows.{Place, Row, row_of}
use Rattle.paper.specs.Rules.{has_typed, leftover_of, has_any}
use Rattle.paper.specs.Schemas.{Column, Schema, column, fields, SchemaFields, column_names, schema_of}
use Rattle.paper.specs.Shredding.{cut}
use Rattle.paper.specs.Standing.{Step, stands_at}
use Rattle.written.specs.Everywhere.{takes_doc}
use Rattle.promises.specs.Done.{Bytes, Means, Normalises, Shreds, Rebuilds, LongEnough}
use Rattle.promises.specs.Tables.{of_it}
use Rattle.promises.specs.Walking.{place_at}

-- What shred accepts: a good schema and a document that is meant. The row that is written parses under that schema, and its places
-- are the cut of that document along it: what is written is read back, place by place.
pub record ReadBack (schema metadata value row : List ℕ) : Type 0 where
  pub node : Schema
  pub d : Doc
  pub schema_is : schema_of schema ≡ Some node
  pub means : Means metadata value d
  pub reads : row_of node row ≡ Some (record { names = names_used d; outermost = cut node d })

abbrev pub RowReadsBack : Type 0
RowReadsBack =
    (schema metadata value row : List ℕ) (room : ℕ) → Bytes metadata → Shreds schema metadata value room row
    → ReadBack schema metadata value row

-- At every place under a column, at any depth: it is typed exactly when the document has a value there whose type is the column's.
-- (A column takes a scalar of its type, and nothing else: `takes_doc`.)
abbrev pub ColumnsTyped : Type 0
ColumnsTyped =
    (schema metadata value row : List ℕ) (room : ℕ) → Bytes metadata → Shreds schema metadata value room row
    → (node : Schema) (d : Doc) (parsed : Row) → schema_of schema ≡ Some node → Means metadata value d → row_of node row ≡ Some parsed
    → (path : List Step) (said : Column) (p : Place)
    → place_at node parsed.outermost path ≡ Some (record { node = column said; held = p })
    → has_typed p ≡ of_it (stands_at d path) (takes_doc said)

-- At every place under an object node, at any depth: no field that the node names is in the leftover.
abbrev pub LeftoversUnnamed : Type 0
LeftoversUnnamed =
    (schema metadata value row : List ℕ) (room : ℕ) → Bytes metadata → Shreds schema metadata value room row
    → (node : Schema) (parsed : Row) → schema_of schema ≡ Some node → row_of node row ≡ Some parsed
    → (path : List Step) (columns : SchemaFields) (p : Place)
    → place_at node parsed.outermost path ≡ Some (record { node = fields columns; held = p })
    → has_any (column_names columns) (leftover_of p) ≡ false

-- And of any row at all that parses, whoever wrote it: if a leftover has such a field, rebuild answers 7.
abbrev pub NamedLeftoverRefused : Type 0
NamedLeftoverRefused =
    (schema row : List ℕ) → length schema ≤ most_schema → length row ≤ most_row
    → (node : Schema) (parsed : Row) → schema_of schema ≡ Some node → row_of node row ≡ Some parsed
    → (path : List Step) (columns : SchemaFields) (p : Place)
    → place_at node parsed.outermost path ≡ Some (record { node = fields columns; held = p })
    → has_any (column_names columns) (leftover_of p) ≡ true
    → (metadata_room value_room : ℕ)
    → number_of (document_carries (document_answer (rebuild_outcome schema row) metadata_room value_room)) ≡ 7

-- Rebuild of the row is done with the document's normal form, the very bytes that normalise writes, wherever buffers are long
-- enough for them.
pub record Restored (schema metadata value row : List ℕ) : Type 0 where
  pub form : Document
  pub both : (metadata_room value_room : ℕ) → LongEnough form metadata_room value_room
      → Normalises metadata value metadata_room value_room form × Rebuilds schema row metadata_room value_room form

abbrev pub RowRestored : Type 0
RowRestored =
    (schema metadata value row : List ℕ) (room : ℕ) → Bytes metadata → Shreds schema metadata value room row
    → Restored schema metadata value row
