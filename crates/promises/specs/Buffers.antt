-- Demand 1, the lent buffers. Nothing is written unless the answer is done; done says how much was written, and those bytes come
-- first; a 9 says how much is needed. Normalise and rebuild have two buffers, shred has one.
use Rattle.paper.specs.declared.Unwritten.TheVariants.{Short}
use Rattle.std.specs.Prelude.{true, ◌||◌, List, ◌≡◌, ℕ, ◌≤◌, length, take, drop, Ok, Err}
use Rattle.numbers.specs.Little.{put_at}
use Rattle.paper.specs.Answers.{Carried, number_of, present_of, value_of, document_carries, row_carries}
use Rattle.paper.specs.Normal.{Document}
use Rattle.paper.specs.Operations.{document_answer, metadata_written, value_written, row_answer, row_written}
use Rattle.paper.specs.Refusals.{Outcome}
use Rattle.paper.specs.declared.DocumentLengths.{DocumentLengths}
use Rattle.promises.specs.AnyBytes.{longer}

-- The lengths of a document's two parts.
abbrev pub lengths : (metadata value : ℕ) → DocumentLengths
lengths metadata value = record { metadata = metadata; value = value }

-- What is left in a buffer, from what it held before: as the contracts say it.
unfoldable pub metadata_left : Outcome Document → (metadata_before value_before : List ℕ) → List ℕ
metadata_left outcome metadata_before value_before =
    put_at metadata_before 0 (metadata_written outcome (length metadata_before) (length value_before))

unfoldable pub value_left : Outcome Document → (metadata_before value_before : List ℕ) → List ℕ
value_left outcome metadata_before value_before =
    put_at value_before 0 (value_written outcome (length metadata_before) (length value_before))

unfoldable pub row_left : Outcome (List ℕ) → (before : List ℕ) → List ℕ
row_left outcome before = put_at before 0 (row_written outcome (length before))

-- "Those bytes come first in the buffer and the bytes after them keep their values."
pub record ComeFirst (bytes before after : List ℕ) : Type 0 where
  pub have_room : length bytes ≤ length before
  pub first : take (length bytes) after ≡ bytes
  pub behind : drop (length bytes) after ≡ drop (length bytes) before
  pub as_long : length after ≡ length before

-- ---- the promises, whatever the operation came to and whatever the buffers held

-- Unless the answer is done, every byte keeps its value.
abbrev pub DocumentsUntouched : Type 0
DocumentsUntouched =
    (outcome : Outcome Document) (metadata_before value_before : List ℕ)
    → (number_of (document_carries (document_answer outcome (length metadata_before) (length value_before))) ≡ 0 → ⊥)
    → (metadata_left outcome metadata_before value_before ≡ metadata_before) × (value_left outcome metadata_before value_before ≡ value_before)

abbrev pub RowUntouched : Type 0
RowUntouched =
    (outcome : Outcome (List ℕ)) (before : List ℕ) → (number_of (row_carries (row_answer outcome (length before))) ≡ 0 → ⊥)
    → row_left outcome before ≡ before

-- "Done answers carry the lengths written": the document that was reached stands first in the buffers, all of it.
pub record DocumentStands (outcome : Outcome Document) (metadata_before value_before : List ℕ) (metadata_size_here value_size_here : ℕ) : Type 0 where
  pub document : Document
  pub is_reached : outcome ≡ Ok document
  pub metadata_size : metadata_size_here ≡ length document.metadata
  pub value_size : value_size_here ≡ length document.value
  pub metadata_first : ComeFirst document.metadata metadata_before (metadata_left outcome metadata_before value_before)
  pub value_first : ComeFirst document.value value_before (value_left outcome metadata_before value_before)

abbrev pub DocumentsDone : Type 0
DocumentsDone =
    (outcome : Outcome Document) (metadata_before value_before : List ℕ) (metadata_size_here value_size_here : ℕ)
    → document_answer outcome (length metadata_before) (length value_before) ≡ Ok (lengths metadata_size_here value_size_here)
    → DocumentStands outcome metadata_before value_before metadata_size_here value_size_here

pub record RowStands (outcome : Outcome (List ℕ)) (before : List ℕ) (size : ℕ) : Type 0 where
  pub row : List ℕ
  pub is_reached : outcome ≡ Ok row
  pub row_size : size ≡ length row
  pub row_first : ComeFirst row before (row_left outcome before)

abbrev pub RowsDone : Type 0
RowsDone =
    (outcome : Outcome (List ℕ)) (before : List ℕ) (size : ℕ) → row_answer outcome (length before) ≡ Ok size
    → RowStands outcome before size

-- "A 9 carries the lengths needed": those of what was reached, and a buffer is shorter.
abbrev pub DocumentsShort : Type 0
DocumentsShort =
    (outcome : Outcome Document) (metadata_room value_room metadata_size_here value_size_here : ℕ)
    → document_answer outcome metadata_room value_room ≡ Err (Short (lengths metadata_size_here value_size_here))
    → (document : Document) × (outcome ≡ Ok document) × (metadata_size_here ≡ length document.metadata)
    × (value_size_here ≡ length document.value) × (longer document.metadata metadata_room || longer document.value value_room ≡ true)

abbrev pub RowShort : Type 0
RowShort =
    (outcome : Outcome (List ℕ)) (room size : ℕ) → row_answer outcome room ≡ Err (Short size)
    → (row : List ℕ) × (outcome ≡ Ok row) × (size ≡ length row) × (longer row room ≡ true)

-- "Absent and the other refusals carry zeros."
abbrev pub Zeros : Type 0
Zeros = (answer : Carried) (place : ℕ) → present_of answer ≡ 0 → (number_of answer ≡ 9 → ⊥) → value_of answer place ≡ 0
