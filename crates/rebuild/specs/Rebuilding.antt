-- What rebuilding a row stands on: a row that was judged lawful. And what such a row means.
use Rattle.std.specs.Prelude.{true, List, ◌≡◌, ℕ, ◌/◌, ◌≤◌, length, Option, None, Some}
use Rattle.paper.specs.Limits.{most_levels, most_row, most_schema}
use Rattle.paper.specs.Meaning.{Doc, null}
use Rattle.paper.specs.Metadata.{Dictionary}
use Rattle.paper.specs.Schemas.{Schema, schema_of}
use Rattle.paper.specs.Words.{is_there}
use Rattle.places.specs.Verdicts.{row_verdict}
use Rattle.places.specs.declared.verdicts.Verdict.TheVariants.{Lawful}
use Rattle.rebuilt.specs.Meant.{place_doc}
use Rattle.rows.specs.Judging.{row_dictionary, HandedOn}
use Rattle.rows.specs.declared.judging.RowParts.{RowParts}

-- What was read of a row, some bytes, that was judged lawful under a good schema, with what its judge hands on.
pub record Judged (schema : List ℕ) (row : RowParts) (table : List ℕ) : Type 0 where
  pub bytes : List ℕ
  pub handed : HandedOn schema bytes table row
  pub good : is_there (schema_of schema) ≡ true
  pub tabled : length schema / 9 ≤ length table
  pub schema_short : length schema ≤ most_schema
  pub row_short : length bytes ≤ most_row
  pub lawful : (node : Schema) → schema_of schema ≡ Some node → row_verdict node bytes ≡ Lawful

-- ---- what such a row means, by its outermost place. (Under a schema that is none, null.)

unfoldable pub doc_under : Option Schema → Dictionary → List ℕ → Doc
doc_under None names body = null
doc_under (Some node) names body = place_doc node most_levels names body

unfoldable pub row_doc : (schema : List ℕ) → RowParts → Doc
row_doc schema row = doc_under (schema_of schema) (row_dictionary row).names row.outermost.now
