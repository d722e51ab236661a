-- A lawful row with its names numbered, and what came of a room for its document.
use Rattle.paper.specs.Refusals.{DocumentAnswer}
use Rattle.std.specs.Prelude.{List, ◌≡◌, ℕ, ◌+◌, ◌≤◌, ◌<◌, length, Option, None, Some}
use Rattle.building.specs.Building.{Bytes}
use Rattle.naming.specs.Chosen.{chosen_names, Chosen}
use Rattle.normalise.specs.Answered.{Answered}
use Rattle.paper.specs.Limits.{most_levels}
use Rattle.paper.specs.Meaning.{Doc}
use Rattle.paper.specs.Normal.{names_used, normal_form}
use Rattle.paper.specs.Operations.{written}
use Rattle.paper.specs.Schemas.{Schema, schema_of}
use Rattle.rebuilt.specs.There.{Numbered as NumberedIds}
use Rattle.rebuilt.specs.Using.{place_ids}
use Rattle.rows.specs.Judging.{row_dictionary}
use Rattle.rows.specs.declared.judging.RowParts.{RowParts}
use Rattle.rebuild.specs.Rebuilding.{Judged, row_doc}
use Rattle.rebuild.specs.declared.rooms.NumberedRow.{NumberedRow}

-- The chosen ids name exactly the names used, and each used id's rank is its name's place there.
pub record Numbered (schema : List ℕ) (row : RowParts) (table ranks chosen : List ℕ) : Type 0 where
  pub judged : Judged schema row table
  pub choice : Chosen (row_dictionary row) chosen
  pub used : chosen_names (row_dictionary row).names chosen ≡ names_used (row_doc schema row)
  pub ranked : length (row_dictionary row).names ≤ length ranks
  pub numbered : (under : Schema) → schema_of schema ≡ Some under
      → NumberedIds (row_dictionary row).names (names_used (row_doc schema row)) ranks (place_ids under most_levels schema table 0 row.outermost.now)
  pub bytes : Bytes row.outermost.now

abbrev pub IsNumbered : NumberedRow → Type 0
IsNumbered n = Numbered n.schema.now n.row.now.parts n.table.now n.ranks.now n.chosen.now

-- What it means.
abbrev pub doc_of : NumberedRow → Doc
doc_of n = row_doc n.schema.now n.row.now.parts

-- ---- a document that was to be written by way of a room: it is answered, or the room above the floor is too short for it, and
-- the lent buffers are as they were

pub data TriedAs (d : Doc) (metadata₀ metadata value₀ value : List ℕ) (room floor : ℕ) : Option DocumentAnswer → Type 0 where
  told : (answer : DocumentAnswer) → Answered (written d) metadata₀ metadata value₀ value answer
      → TriedAs d metadata₀ metadata value₀ value room floor (Some answer)
  no_room : room < floor + length (normal_form d).value → metadata ≡ metadata₀ → value ≡ value₀
      → TriedAs d metadata₀ metadata value₀ value room floor None

-- The same of some room.
pub record SomeTried (d : Doc) (metadata₀ metadata value₀ value : List ℕ) (tried : Option DocumentAnswer) : Type 0 where
  pub room : ℕ
  pub floor : ℕ
  pub was : TriedAs d metadata₀ metadata value₀ value room floor tried
