-- The seven operations (01, The job): what each answers, and the bytes that it writes, from its inputs and the rooms of
-- its output buffers. Each judges in the order of the refusals' numbers.
use Rattle.std.specs.Prelude.{Bool, true, false, cond, ◌&&◌, List, [], ◌∷◌, ℕ, leb, length, Option, None, Some, Err, Ok, ⊤}
use Rattle.paper.specs.Limits.{most_metadata, most_value, most_schema, most_path, most_row, most_cell, most_levels}
use Rattle.paper.specs.Refusals.{Outcome, DocumentAnswer, RowAnswer, require, obtain}
use Rattle.paper.specs.Metadata.{Dictionary, dictionary_of}
use Rattle.paper.specs.Meaning.{Doc}
use Rattle.paper.specs.Values.{meaning_of}
use Rattle.paper.specs.declared.Child.{Child}
use Rattle.paper.specs.Normal.{Document, normal_form}
use Rattle.paper.specs.Schemas.{Schema, column_of, schema_of}
use Rattle.paper.specs.Cells.{cell_meaning, handed_out}
use Rattle.paper.specs.Rows.{Row, row_of}
use Rattle.paper.specs.Rules.{row_lawful}
use Rattle.paper.specs.Shredding.{row_bytes}
use Rattle.paper.specs.Rebuilding.{row_meaning}
use Rattle.paper.specs.Paths.{path_of, find_from}
use Rattle.paper.specs.Boxes.{box_of}
use Rattle.paper.specs.declared.DocumentLengths.{DocumentLengths}
use Rattle.paper.specs.declared.Unwritten.TheVariants.{Refused, Short}
use Rattle.paper.specs.declared.Refusal.{Refusal}
use Rattle.paper.specs.declared.Refusal.TheVariants.{TooLong, BadMetadata, BadValue, BadSchema, BadPath, BadRow, BrokenRule, TooLarge}
use Rattle.paper.specs.declared.Cell.{Cell}
use Rattle.paper.specs.declared.LotBox.{LotBox}

-- A lent value judged under its dictionary, and what comes of its meaning. The outermost value is level 1.
unfoldable pub value_judged : {A : Type 0} → Dictionary → List ℕ → (Doc → Outcome A) → Outcome A
value_judged names value next = obtain (meaning_of most_levels names value) BadValue next

-- A lent document judged, 2 and then 3, and what comes of its dictionary and its meaning.
unfoldable pub judged : {A : Type 0} → List ℕ → List ℕ → (Dictionary → Doc → Outcome A) → Outcome A
judged metadata value next = obtain (dictionary_of metadata) BadMetadata λ names. value_judged names value (next names)

-- Metadata and value are no longer than they may be.
unfoldable pub document_fits : List ℕ → List ℕ → Bool
document_fits metadata value = leb (length metadata) most_metadata && leb (length value) most_value

-- ---- check

unfoldable pub check_outcome : List ℕ → List ℕ → Outcome Doc
check_outcome metadata value =
    require (document_fits metadata value) TooLong (judged metadata value λ names d. Ok d)

-- Good, and nothing more.
unfoldable pub checked_by : {A : Type 0} → Outcome A → Outcome ⊤
checked_by (Err r) = Err r
checked_by (Ok a) = Ok tt

unfoldable pub check_answer : List ℕ → List ℕ → Outcome ⊤
check_answer metadata value = checked_by (check_outcome metadata value)

-- ---- find

unfoldable pub find_answer : List ℕ → List ℕ → List ℕ → Outcome (Option Child)
find_answer metadata value path =
    require (document_fits metadata value && leb (length path) most_path) TooLong
    (judged metadata value λ names d. obtain (path_of path) BadPath λ steps. Ok (find_from names steps 0 value))

-- ---- a document to be written: its normal form, if it may be written

-- Its normal value is no longer than a value may be.
unfoldable pub writable : Doc → Bool
writable d = leb (length (normal_form d).value) most_value

unfoldable pub written : Doc → Outcome Document
written d = require (writable d) TooLarge (Ok (normal_form d))

-- Into two buffers: both must have room.
unfoldable pub document_room : Document → (metadata_room value_room : ℕ) → Bool
document_room document metadata_room value_room =
    leb (length document.metadata) metadata_room && leb (length document.value) value_room

abbrev pub lengths_of : Document → DocumentLengths
lengths_of document = record { metadata = length document.metadata; value = length document.value }

unfoldable pub document_answer : Outcome Document → (metadata_room value_room : ℕ) → DocumentAnswer
document_answer (Err r) metadata_room value_room = Err (Refused r)
document_answer (Ok document) metadata_room value_room =
    cond (document_room document metadata_room value_room) (Ok (lengths_of document)) (Err (Short (lengths_of document)))

-- What stands in front of each buffer afterwards: nothing new, unless done.
unfoldable pub metadata_written : Outcome Document → (metadata_room value_room : ℕ) → List ℕ
metadata_written (Err r) metadata_room value_room = []
metadata_written (Ok document) metadata_room value_room =
    cond (document_room document metadata_room value_room) document.metadata []

unfoldable pub value_written : Outcome Document → (metadata_room value_room : ℕ) → List ℕ
value_written (Err r) metadata_room value_room = []
value_written (Ok document) metadata_room value_room =
    cond (document_room document metadata_room value_room) document.value []

-- ---- normalise

unfoldable pub normalise_outcome : List ℕ → List ℕ → Outcome Document
normalise_outcome metadata value =
    require (document_fits metadata value) TooLong (judged metadata value λ names d. written d)

-- ---- shred

-- A document's row, if both it and the document's normal form may be written.
unfoldable pub row_outcome : Schema → Doc → Outcome (List ℕ)
row_outcome node d = require (writable d && leb (length (row_bytes node d)) most_row) TooLarge (Ok (row_bytes node d))

unfoldable pub shred_outcome : List ℕ → List ℕ → List ℕ → Outcome (List ℕ)
shred_outcome schema metadata value =
    require (leb (length schema) most_schema && document_fits metadata value) TooLong
    (judged metadata value λ names d.
    obtain (schema_of schema) BadSchema λ node.
    row_outcome node d)

unfoldable pub row_answer : Outcome (List ℕ) → (room : ℕ) → RowAnswer
row_answer (Err r) room = Err (Refused r)
row_answer (Ok row) room = cond (leb (length row) room) (Ok (length row)) (Err (Short (length row)))

unfoldable pub row_written : Outcome (List ℕ) → (room : ℕ) → List ℕ
row_written (Err r) room = []
row_written (Ok row) room = cond (leb (length row) room) row []

-- ---- a lent row judged under a lent schema: 1, 4, 6 and then 7, and what comes of its node and what it holds

unfoldable pub row_judged : {A : Type 0} → List ℕ → List ℕ → (Schema → Row → Outcome A) → Outcome A
row_judged schema row next =
    require (leb (length schema) most_schema && leb (length row) most_row) TooLong
    (obtain (schema_of schema) BadSchema λ node.
    obtain (row_of node row) BadRow λ parsed.
    require (row_lawful node parsed) BrokenRule (next node parsed))

-- The judgement by itself.
unfoldable pub judge_answer : List ℕ → List ℕ → Outcome ⊤
judge_answer schema row = checked_by (row_judged schema row λ node parsed. Ok parsed)

-- ---- rebuild

unfoldable pub rebuild_outcome : List ℕ → List ℕ → Outcome Document
rebuild_outcome schema row = row_judged schema row λ node parsed. written (row_meaning node parsed)

-- ---- one typed cell: "the type codes are those of a schema"

unfoldable pub cell_answer : (code : ℕ) → List ℕ → Outcome Cell
cell_answer code s =
    require (leb (length s) most_cell) TooLong
    (obtain (column_of (code ∷ [])) BadSchema λ column.
    obtain (cell_meaning column s) BadRow λ value.
    Ok (handed_out value))

-- ---- a lot's box

unfoldable pub box_answer : List ℕ → List ℕ → Outcome (Option LotBox)
box_answer metadata value =
    require (document_fits metadata value) TooLong (judged metadata value λ names d. Ok (box_of d))
