-- One 64-bit number comes back: bits 0-7 the number of 01, bit 8 set when the answer is present (good, found, done or
-- read), bits 16-39 the first length or value, bits 40-63 the second. A part without a use is zero. What an answer carries
-- is said in `paper` (`Answers.antt`); here is where it stands in the word.
use Rattle.paper.specs.declared.LotBox.{LotBox}
use Rattle.paper.specs.declared.Cell.{Cell}
use Rattle.paper.specs.declared.Child.{Child}
use Rattle.paper.specs.Refusals.{Outcome, DocumentAnswer, RowAnswer}
use Rattle.std.specs.Prelude.{Bool, cond, ◌&&◌, ℕ, ◌+◌, ◌*◌, ◌^◌, ltb, Option, ⊤}
use Rattle.paper.specs.Answers.{Carried, number_of, present_of, value_of, checked_carries, found_carries, document_carries, row_carries, cell_carries, box_carries}

abbrev pub word : (number present first second : ℕ) → ℕ
word number present first second = number + 256 * present + 2 ^ 16 * first + 2 ^ 40 * second

-- A word has so many of an answer's values: two, one or none. Other values have functions of their own.
abbrev pub part : (count : ℕ) → Carried → (place : ℕ) → ℕ
part count carried place = cond (ltb place count) (value_of carried place) 0

abbrev pub word_with : (count : ℕ) → Carried → ℕ
word_with count carried = word (number_of carried) (present_of carried) (part count carried 0) (part count carried 1)

-- check
abbrev pub checked_word : Outcome ⊤ → ℕ
checked_word answer = word_with 0 (checked_carries answer)

-- find: the start and the length in the value.
abbrev pub found_word : Outcome (Option Child) → ℕ
found_word answer = word_with 2 (found_carries answer)

-- normalise and rebuild: the lengths of metadata and value, written on 0, needed on 9.
abbrev pub document_word : DocumentAnswer → ℕ
document_word answer = word_with 2 (document_carries answer)

-- shred: the row's length, written on 0, needed on 9.
abbrev pub row_word : RowAnswer → ℕ
row_word answer = word_with 1 (row_carries answer)

-- The cell reader: the kind. What the cell holds is in `CellParts.antt`.
abbrev pub cell_word : Outcome Cell → ℕ
cell_word answer = word_with 1 (cell_carries answer)

-- The box reader: the sides are in `BoxParts.antt`.
abbrev pub box_word : Outcome (Option LotBox) → ℕ
box_word answer = word_with 0 (box_carries answer)

-- ---- for the inner functions

-- The values have room in the word.
abbrev pub has_room : (count : ℕ) → Carried → Bool
has_room count carried = ltb (part count carried 0) (2 ^ 24) && ltb (part count carried 1) (2 ^ 24)

abbrev pub found_has_room : Outcome (Option Child) → Bool
found_has_room answer = has_room 2 (found_carries answer)

abbrev pub document_has_room : DocumentAnswer → Bool
document_has_room answer = has_room 2 (document_carries answer)

abbrev pub row_has_room : RowAnswer → Bool
row_has_room answer = has_room 1 (row_carries answer)
