-- Words that demands 2 to 5 share: an operation is done, with buffers of so many bytes, and has written these bytes.
use Rattle.std.specs.Prelude.{List, ◌≡◌, ℕ, ◌≤◌, ◌<◌, length, Ok}
use Rattle.paper.specs.Meaning.{Doc}
use Rattle.paper.specs.Normal.{Document}
use Rattle.paper.specs.Operations.{check_outcome, normalise_outcome, shred_outcome, rebuild_outcome, lengths_of, document_answer, metadata_written, value_written, row_answer, row_written}
use Rattle.paper.specs.Refusals.{Outcome}
use Rattle.paper.specs.Words.{at}

-- Bytes are below 256. Of a lent slice of `u8` they always are; the definitions speak of lists of numbers, so it is said.
abbrev pub Bytes : List ℕ → Type 0
Bytes s = (i : ℕ) → at s i < 256

-- Lent metadata and value are lawful and mean a document.
abbrev pub Means : (metadata value : List ℕ) → Doc → Type 0
Means metadata value d = check_outcome metadata value ≡ Ok d

-- Normalise or rebuild is done, and has written a document.
pub record DocumentDone (outcome : Outcome Document) (metadata_room value_room : ℕ) (document : Document) : Type 0 where
  pub answer : document_answer outcome metadata_room value_room ≡ Ok (lengths_of document)
  pub metadata_bytes : metadata_written outcome metadata_room value_room ≡ document.metadata
  pub value_bytes_of : value_written outcome metadata_room value_room ≡ document.value

-- Shred is done, and has written a row.
pub record RowDone (outcome : Outcome (List ℕ)) (room : ℕ) (row : List ℕ) : Type 0 where
  pub answer : row_answer outcome room ≡ Ok (length row)
  pub row_bytes : row_written outcome room ≡ row

abbrev pub Normalises : (metadata value : List ℕ) (metadata_room value_room : ℕ) → Document → Type 0
Normalises metadata value = DocumentDone (normalise_outcome metadata value)

abbrev pub Shreds : (schema metadata value : List ℕ) (room : ℕ) → (row : List ℕ) → Type 0
Shreds schema metadata value = RowDone (shred_outcome schema metadata value)

abbrev pub Rebuilds : (schema row : List ℕ) (metadata_room value_room : ℕ) → Document → Type 0
Rebuilds schema row = DocumentDone (rebuild_outcome schema row)

-- The buffers are long enough for a document.
abbrev pub LongEnough : Document → (metadata_room value_room : ℕ) → Type 0
LongEnough document metadata_room value_room = (length document.metadata ≤ metadata_room) × (length document.value ≤ value_room)
