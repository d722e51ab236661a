-- A row opened and judged: what each answer says of it, and what a lawful row hands on.
use Rattle.paper.specs.declared.Refusal.{Refusal}
use Rattle.paper.specs.declared.Refusal.TheVariants.{BrokenRule, BadRow}
use Rattle.paper.specs.Refusals.{Outcome}
use Rattle.std.specs.Prelude.{true, List, ◌≡◌, ℕ, ◌+◌, ◌/◌, ◌≤◌, length, Some, Option, None, Ok, Err, ◌⊎◌}
use Rattle.dictionary.specs.Lent.{LentNames, Lent, lent_of, lent_read}
use Rattle.fields.specs.Telling.{Told}
use Rattle.paper.specs.Bounds.{most_names, most_walked}
use Rattle.paper.specs.Limits.{most_metadata, most_levels}
use Rattle.paper.specs.Schemas.{Schema, schema_of}
use Rattle.paper.specs.Words.{part, is_there}
use Rattle.places.specs.Halves.{middle_of}
use Rattle.places.specs.Verdicts.{place_verdict, row_verdict}
use Rattle.rows.specs.declared.judging.RowParts.{RowParts}
use Rattle.rows.specs.declared.opened.OpenRow.{OpenRow}
use Rattle.places.specs.declared.verdicts.Verdict.{Verdict}
use Rattle.places.specs.declared.verdicts.Verdict.TheVariants.{Lawful, Broken, Unparsed}

-- The dictionary that a row's metadata opens to.
abbrev pub row_dictionary : RowParts → LentNames
row_dictionary parts = lent_read parts.metadata.now

-- A row whose halves are in order: under any schema it comes to what its outermost place comes to.
pub record InOrder (row : List ℕ) (parts : RowParts) : Type 0 where
  pub middle : ℕ
  pub first_long : 3 ≤ middle
  pub second_long : middle + 3 ≤ length row
  pub halved : middle_of row ≡ Some middle
  pub opens : lent_of (part row 3 middle) ≡ Some (row_dictionary parts)
  pub short : (row_dictionary parts).size ≤ most_metadata
  pub holds : parts.outermost.now ≡ part row (middle + 3) (length row)
  pub comes_to : (schema : Schema) → place_verdict schema most_levels (row_dictionary parts).names parts.outermost.now ≡ row_verdict schema row

pub data OpenedAs (bytes : List ℕ) : Option OpenRow → Type 0 where
  opened : (row : OpenRow) (in_order : InOrder bytes row.parts) → row.parts.metadata.now ≡ part bytes 3 in_order.middle → OpenedAs bytes (Some row)
  unopened : ((schema : Schema) → Unparsed ≡ row_verdict schema bytes) → OpenedAs bytes None

-- An opened row's parts under a good schema, with a table for the ids of the schema's fields.
pub record PartsReady (schema : List ℕ) (row : OpenRow) (table : List ℕ) : Type 0 where
  pub lent : Lent row.dictionary
  pub few : length row.dictionary.names ≤ most_names
  pub small : length row.parts.outermost.now ≤ most_walked
  pub good : is_there (schema_of schema) ≡ true
  pub tabled : length schema / 9 ≤ length table

-- A table tells of the schema's fields in the row's dictionary.
abbrev pub TableTells : (schema : List ℕ) → LentNames → (table : List ℕ) → Type 0
TableTells schema dictionary table = (node : Schema) → schema_of schema ≡ Some node → Told dictionary.names schema table node 0

-- Walked: the verdict of what the outermost place holds, and the table tells of the schema's fields.
pub record Walked (schema : List ℕ) (row : OpenRow) (table : List ℕ) (verdict : Verdict) : Type 0 where
  pub verdict_is : (node : Schema) → schema_of schema ≡ Some node → verdict ≡ place_verdict node most_levels row.dictionary.names row.parts.outermost.now
  pub told : TableTells schema row.dictionary table

-- ---- what the judge answers

-- What a lawful row hands on: its metadata, what the outermost place holds, each schema field's id in the dictionary that the
-- metadata opens to.
pub record HandedOn (schema row : List ℕ) (table : List ℕ) (parts : RowParts) : Type 0 where
  pub in_order : InOrder row parts
  pub found : parts.metadata.now ≡ part row 3 in_order.middle
  pub told : TableTells schema (row_dictionary parts) table

-- A row that breaks a rule is refused by 7, one that does not parse by 6, and by nothing else.
abbrev pub verdict_in : Outcome RowParts → Verdict
verdict_in (Ok parts) = Lawful
verdict_in (Err BrokenRule) = Broken
verdict_in (Err _) = Unparsed

pub record JudgedAs (schema row table : List ℕ) (answer : Outcome RowParts) : Type 0 where
  pub verdict_is : (node : Schema) → schema_of schema ≡ Some node → verdict_in answer ≡ row_verdict node row
  pub handed : (parts : RowParts) → answer ≡ Ok parts → HandedOn schema row table parts
  pub refused : (r : Refusal) → answer ≡ Err r → (r ≡ BrokenRule) ⊎ (r ≡ BadRow)
