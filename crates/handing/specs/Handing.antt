-- A document's row to be written into one lent buffer: the answer, every byte of the buffer, and what the writing stands on.
use Rattle.std.specs.Prelude.{true, List, [], ◌∷◌, ◌++◌, ◌≡◌, ℕ, ◌/◌, ◌≤◌, ◌<◌, leb, length, get_or, Some, Ok, None, Option}
use Rattle.fields.specs.Telling.{Told}
use Rattle.forms.specs.WellFormed.{well_formed}
use Rattle.numbers.specs.Little.{put_at}
use Rattle.paper.specs.Framing.{frame}
use Rattle.paper.specs.Limits.{most_levels, most_metadata, most_row, most_schema, most_value}
use Rattle.paper.specs.Meaning.{Doc, array, object, Docs, Fields}
use Rattle.paper.specs.Normal.{names_used, metadata_bytes, value_bytes}
use Rattle.paper.specs.Operations.{row_outcome, row_answer, row_written}
use Rattle.paper.specs.Refusals.{Outcome, require, RowAnswer}
use Rattle.paper.specs.Schemas.{Schema, schema_of}
use Rattle.paper.specs.Shredding.{cut, place_bytes}
use Rattle.paper.specs.declared.Refusal.TheVariants.{TooLarge}

-- ---- the answer, and what stands in the buffer

pub record RowAnswered (outcome : Outcome (List ℕ)) (before after : List ℕ) (answer : RowAnswer) : Type 0 where
  pub answer_is : answer ≡ row_answer outcome (length before)
  pub row_is : after ≡ put_at before 0 (row_written outcome (length before))

-- A row by its metadata and its outermost place, if it may be written.
unfoldable pub row_from : (metadata place : List ℕ) → Outcome (List ℕ)
row_from metadata place = require (leb (length (frame 0x40 metadata ++ place)) most_row) TooLarge (Ok (frame 0x40 metadata ++ place))

-- ---- what it is written from

-- A document's normal form, under a good schema.
pub record Normalised (schema metadata value : List ℕ) : Type 0 where
  pub node : Schema
  pub node_is : schema_of schema ≡ Some node
  pub schema_short : length schema ≤ most_schema
  pub d : Doc
  pub good : well_formed most_levels d ≡ true
  pub metadata_is : metadata ≡ metadata_bytes (names_used d)
  pub metadata_short : length metadata ≤ most_metadata
  pub value_is : value ≡ value_bytes (names_used d) d
  pub value_short : length value ≤ most_value

-- With its tables: each schema field's id in the normal dictionary, and each id of that as its own normal id.
pub record Tabled (ranks schema table metadata value : List ℕ) : Type 0 where
  pub normal : Normalised schema metadata value
  pub told : Told (names_used normal.d) schema table normal.node 0
  pub tabled : length schema / 9 ≤ length table
  pub ranked : length (names_used normal.d) ≤ length ranks
  pub own : (id : ℕ) → id < length (names_used normal.d) → get_or ranks id 0 ≡ id

-- ---- what came of a room: the row is answered, or the room is too short for its outermost place, and the buffer is as it was

pub data TriedAs (node : Schema) (d : Doc) (before after : List ℕ) (room : ℕ) : Option RowAnswer → Type 0 where
  told : (answer : RowAnswer) → RowAnswered (row_outcome node d) before after answer → TriedAs node d before after room (Some answer)
  no_room : room < length (place_bytes (names_used d) (cut node d)) → after ≡ before → TriedAs node d before after room None

-- ---- a scalar alone

-- Metadata without names.
abbrev pub no_names : List ℕ
no_names = 0x11 ∷ 0x00 ∷ 0x00 ∷ []

-- A document in its normal form that is no array and no object.
pub record Alone (schema value : List ℕ) : Type 0 where
  pub normal : Normalised schema no_names value
  pub no_array : (ds : Docs) → normal.d ≡ array ds → ⊥
  pub no_object : (fs : Fields) → normal.d ≡ object fs → ⊥
