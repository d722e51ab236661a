-- Demand 5. Programs that 01 names and that the promises shut out. Beside each, the must-fail edits that try it.
use Rattle.std.specs.Prelude.{true, false, List, [], ◌∷◌, ◌≡◌, ℕ, ◌*◌, ◌≤◌, length, take, replicate, Some, Ok}
use Rattle.forms.specs.WellFormed.{well_formed}
use Rattle.paper.specs.Answers.{present_of, found_carries, cell_carries, box_carries}
use Rattle.paper.specs.Limits.{most_levels, most_metadata, most_value}
use Rattle.paper.specs.Lots.{Lot, means, shreds, rebuilds, AllHold, no_names, column_a}
use Rattle.paper.specs.Meaning.{Doc, null, scalar, boolean, payload, text, array, object, no_docs, doc, no_fields, field}
use Rattle.paper.specs.Normal.{normal_form}
use Rattle.paper.specs.Operations.{find_answer, normalise_outcome, shred_outcome, document_answer, row_answer, cell_answer, box_answer}
use Rattle.paper.specs.Rows.{Row, row_of}
use Rattle.paper.specs.Rules.{has_typed, has_leftover}
use Rattle.paper.specs.Schemas.{Column, Schema, column, schema_of}
use Rattle.paper.specs.Shredding.{row_bytes}
use Rattle.written.specs.Everywhere.{takes_doc}
use Rattle.promises.specs.Buffers.{lengths, metadata_left, value_left, row_left}
use Rattle.promises.specs.Done.{Bytes, Means, Shreds}

-- ---- refusing everything. `AnyBytes.antt` says that each refusal is given exactly when its condition holds; and:
-- (`documents/every_document_refused`, `documents/value_limit_one_low`, `cells/cell_of_full_size_refused`,
-- `paths/no_name_is_found`, `boxes/box_always_absent`)

-- Every document is accepted: scalars of their types and sizes, names that rise, at most 16 levels (`well_formed`), written in
-- normal form within the limits, are read as that document.
abbrev pub EveryDocumentAccepted : Type 0
EveryDocumentAccepted =
    (d : Doc) → well_formed most_levels d ≡ true → length (normal_form d).metadata ≤ most_metadata → length (normal_form d).value ≤ most_value
    → Means (normal_form d).metadata (normal_form d).value d

-- One of every kind, in bytes.
sized : (type size : ℕ) → Lot
sized type size = means no_names (4 * type ∷ replicate size 0) (scalar (payload type (replicate size 0)))

one_name : List ℕ
one_name = 0x01 ∷ 0x01 ∷ 0x00 ∷ 0x01 ∷ 0x61 ∷ []

unfoldable pub every_kind : List Lot
unfolding sized one_name no_names column_a
every_kind =
    -- null, true, false
    means no_names (0x00 ∷ []) null
    ∷ means no_names (0x04 ∷ []) (scalar (boolean true))
    ∷ means no_names (0x08 ∷ []) (scalar (boolean false))
    -- types 3 to 14 and 17 to 20, by the sizes of their payloads
    ∷ sized 3 1 ∷ sized 4 2 ∷ sized 5 4 ∷ sized 6 8 ∷ sized 7 8 ∷ sized 8 5 ∷ sized 9 9 ∷ sized 10 17
    ∷ sized 11 4 ∷ sized 12 8 ∷ sized 13 8 ∷ sized 14 4 ∷ sized 17 8 ∷ sized 18 8 ∷ sized 19 8 ∷ sized 20 16
    -- binary, a long string and a short one
    ∷ means no_names (0x3C ∷ 0x01 ∷ 0x00 ∷ 0x00 ∷ 0x00 ∷ 0x61 ∷ []) (scalar (payload 15 (0x61 ∷ [])))
    ∷ means no_names (0x40 ∷ 0x01 ∷ 0x00 ∷ 0x00 ∷ 0x00 ∷ 0x61 ∷ []) (scalar (text (0x61 ∷ [])))
    ∷ means no_names (0x05 ∷ 0x61 ∷ []) (scalar (text (0x61 ∷ [])))
    -- an array and an object
    ∷ means no_names (0x03 ∷ 0x01 ∷ 0x00 ∷ 0x01 ∷ 0x00 ∷ []) (array (doc null no_docs))
    ∷ means one_name (0x02 ∷ 0x01 ∷ 0x00 ∷ 0x00 ∷ 0x01 ∷ 0x04 ∷ []) (object (field (0x61 ∷ []) (scalar (boolean true)) no_fields))
    -- a row under each kind of node: leftover only, a column, a list of leftovers, an object; and each rebuilt
    ∷ shreds (0x00 ∷ 0x00 ∷ 0x00 ∷ []) no_names (0x04 ∷ [])
    (0x40 ∷ 0x03 ∷ 0x00 ∷ 0x11 ∷ 0x00 ∷ 0x00 ∷ 0x50 ∷ 0x04 ∷ 0x00 ∷ 0x41 ∷ 0x01 ∷ 0x00 ∷ 0x04 ∷ [])
    ∷ shreds (0x10 ∷ 0x01 ∷ 0x00 ∷ 0x01 ∷ []) no_names (0x04 ∷ [])
    (0x40 ∷ 0x03 ∷ 0x00 ∷ 0x11 ∷ 0x00 ∷ 0x00 ∷ 0x50 ∷ 0x04 ∷ 0x00 ∷ 0x42 ∷ 0x01 ∷ 0x00 ∷ 0x01 ∷ [])
    ∷ shreds (0x20 ∷ 0x03 ∷ 0x00 ∷ 0x00 ∷ 0x00 ∷ 0x00 ∷ []) no_names (0x03 ∷ 0x01 ∷ 0x00 ∷ 0x01 ∷ 0x00 ∷ [])
    (0x40 ∷ 0x03 ∷ 0x00 ∷ 0x11 ∷ 0x00 ∷ 0x00 ∷ 0x50 ∷ 0x0A ∷ 0x00 ∷ 0x42 ∷ 0x07 ∷ 0x00 ∷ 0x50 ∷ 0x04 ∷ 0x00 ∷ 0x41 ∷ 0x01 ∷ 0x00 ∷ 0x00 ∷ [])
    ∷ shreds column_a one_name (0x02 ∷ 0x01 ∷ 0x00 ∷ 0x00 ∷ 0x01 ∷ 0x04 ∷ [])
    (0x40 ∷ 0x05 ∷ 0x00 ∷ 0x11 ∷ 0x01 ∷ 0x00 ∷ 0x01 ∷ 0x61 ∷ 0x50 ∷ 0x0A ∷ 0x00 ∷ 0x42 ∷ 0x07 ∷ 0x00 ∷ 0x50 ∷ 0x04 ∷ 0x00 ∷ 0x42 ∷ 0x01 ∷ 0x00 ∷ 0x01 ∷ [])
    ∷ rebuilds column_a
    (0x40 ∷ 0x05 ∷ 0x00 ∷ 0x11 ∷ 0x01 ∷ 0x00 ∷ 0x01 ∷ 0x61 ∷ 0x50 ∷ 0x0A ∷ 0x00 ∷ 0x42 ∷ 0x07 ∷ 0x00 ∷ 0x50 ∷ 0x04 ∷ 0x00 ∷ 0x42 ∷ 0x01 ∷ 0x00 ∷ 0x01 ∷ [])
    (0x11 ∷ 0x01 ∷ 0x00 ∷ 0x01 ∷ 0x61 ∷ []) (0x02 ∷ 0x01 ∷ 0x00 ∷ 0x00 ∷ 0x01 ∷ 0x04 ∷ [])
    ∷ []

abbrev pub EveryKindAccepted : Type 0
EveryKindAccepted = AllHold every_kind

-- The readers too: a name that is found, a cell that is read, a box that is there (four doubles of 0 under the names, in order).
unfoldable pub box_names : List ℕ
box_names =
    0x11 ∷ 0x04 ∷ 0x00 ∷ 0x04 ∷ 0x09 ∷ 0x0E ∷ 0x12
    ∷ 101 ∷ 97 ∷ 115 ∷ 116 ∷ 110 ∷ 111 ∷ 114 ∷ 116 ∷ 104 ∷ 115 ∷ 111 ∷ 117 ∷ 116 ∷ 104 ∷ 119 ∷ 101 ∷ 115 ∷ 116 ∷ []

unfoldable pub box_value : List ℕ
box_value =
    0x02 ∷ 0x04 ∷ 0x00 ∷ 0x01 ∷ 0x02 ∷ 0x03 ∷ 0x00 ∷ 0x09 ∷ 0x12 ∷ 0x1B ∷ 0x24
    ∷ 0x1C ∷ 0 ∷ 0 ∷ 0 ∷ 0 ∷ 0 ∷ 0 ∷ 0 ∷ 0 ∷ 0x1C ∷ 0 ∷ 0 ∷ 0 ∷ 0 ∷ 0 ∷ 0 ∷ 0 ∷ 0
    ∷ 0x1C ∷ 0 ∷ 0 ∷ 0 ∷ 0 ∷ 0 ∷ 0 ∷ 0 ∷ 0 ∷ 0x1C ∷ 0 ∷ 0 ∷ 0 ∷ 0 ∷ 0 ∷ 0 ∷ 0 ∷ 0 ∷ []

abbrev pub ReadersAccept : Type 0
ReadersAccept =
    (present_of (found_carries (find_answer box_names box_value (0x60 ∷ 0x04 ∷ 0x00 ∷ 101 ∷ 97 ∷ 115 ∷ 116 ∷ []))) ≡ 1)
    × (present_of (cell_carries (cell_answer 1 (0x01 ∷ []))) ≡ 1) × (present_of (box_carries (box_answer box_names box_value)) ≡ 1)

-- ---- one fixed row: documents that mean something else have another row.
-- (`paper/a_column_takes_every_integer`, `paper/missing_is_null`)
abbrev pub NoFixedRow : Type 0
NoFixedRow =
    (schema metadata value metadata' value' row row' : List ℕ) (room room' : ℕ) → Bytes metadata → Bytes metadata'
    → Shreds schema metadata value room row → Shreds schema metadata' value' room' row'
    → (d d' : Doc) → Means metadata value d → Means metadata' value' d' → (d ≡ d' → ⊥) → row ≡ row' → ⊥

-- ---- copying the input: two encodings of one meaning have one row, so it is not the bytes that were lent.
-- (`normalise/input_copied`, `writing/ids_kept`)
abbrev pub NoCopy : Type 0
NoCopy =
    (schema metadata value metadata' value' row row' : List ℕ) (room room' : ℕ) → Bytes metadata → Bytes metadata'
    → Shreds schema metadata value room row → Shreds schema metadata' value' room' row'
    → (d : Doc) → Means metadata value d → Means metadata' value' d → row ≡ row'

-- In bytes: {a: null, b: true} under the names b, a, with its values in two orders, and under the names a, b.
unfoldable pub encodings : List Lot
unfolding column_a
encodings =
    let row : List ℕ =
    0x40 ∷ 0x07 ∷ 0x00 ∷ 0x11 ∷ 0x02 ∷ 0x00 ∷ 0x01 ∷ 0x02 ∷ 0x61 ∷ 0x62
    ∷ 0x50 ∷ 0x13 ∷ 0x00 ∷ 0x41 ∷ 0x06 ∷ 0x00 ∷ 0x02 ∷ 0x01 ∷ 0x01 ∷ 0x00 ∷ 0x01 ∷ 0x04
    ∷ 0x42 ∷ 0x07 ∷ 0x00 ∷ 0x50 ∷ 0x04 ∷ 0x00 ∷ 0x41 ∷ 0x01 ∷ 0x00 ∷ 0x00 ∷ [] in
    let names_b_a : List ℕ = 0x01 ∷ 0x02 ∷ 0x00 ∷ 0x01 ∷ 0x02 ∷ 0x62 ∷ 0x61 ∷ [] in
    let names_a_b : List ℕ = 0x11 ∷ 0x02 ∷ 0x00 ∷ 0x01 ∷ 0x02 ∷ 0x61 ∷ 0x62 ∷ [] in
    shreds column_a names_b_a (0x02 ∷ 0x02 ∷ 0x01 ∷ 0x00 ∷ 0x00 ∷ 0x01 ∷ 0x02 ∷ 0x00 ∷ 0x04 ∷ []) row
    ∷ shreds column_a names_b_a (0x02 ∷ 0x02 ∷ 0x01 ∷ 0x00 ∷ 0x01 ∷ 0x00 ∷ 0x02 ∷ 0x04 ∷ 0x00 ∷ []) row
    ∷ shreds column_a names_a_b (0x02 ∷ 0x02 ∷ 0x00 ∷ 0x01 ∷ 0x00 ∷ 0x01 ∷ 0x02 ∷ 0x00 ∷ 0x04 ∷ []) row
    ∷ []

abbrev pub EncodingsOneRow : Type 0
EncodingsOneRow = AllHold encodings

-- ---- everything left over: under a column, a value of the column's type is typed, and nothing is left over beside it.
-- (`paper/everything_left_over`; named fields left over too: `remainder/named_members_left`)
abbrev pub NotLeftOver : Type 0
NotLeftOver =
    (schema metadata value row : List ℕ) (room : ℕ) → Bytes metadata → Shreds schema metadata value room row
    → (said : Column) (d : Doc) (parsed : Row) → schema_of schema ≡ Some (column said) → Means metadata value d
    → row_of (column said) row ≡ Some parsed → takes_doc said d ≡ true
    → (has_typed parsed.outermost ≡ true) × (has_leftover parsed.outermost ≡ false)

-- ---- done with nothing written, or an invented length: what stands first in the buffer is the row of the document under the
-- schema, and the length is its length. (`handing/done_with_nothing_written`; of normalise
-- `naming/size_without_the_last_offset`)
abbrev pub DoneRowWritten : Type 0
DoneRowWritten =
    (schema metadata value before : List ℕ) (size : ℕ) → row_answer (shred_outcome schema metadata value) (length before) ≡ Ok size
    → (node : Schema) (d : Doc) → schema_of schema ≡ Some node → Means metadata value d
    → (size ≡ length (row_bytes node d)) × (take size (row_left (shred_outcome schema metadata value) before) ≡ row_bytes node d)

abbrev pub DoneFormWritten : Type 0
DoneFormWritten =
    (metadata value metadata_before value_before : List ℕ) (metadata_size_here value_size_here : ℕ)
    → document_answer (normalise_outcome metadata value) (length metadata_before) (length value_before) ≡ Ok (lengths metadata_size_here value_size_here)
    → (d : Doc) → Means metadata value d
    → (take metadata_size_here (metadata_left (normalise_outcome metadata value) metadata_before value_before) ≡ (normal_form d).metadata)
    × (take value_size_here (value_left (normalise_outcome metadata value) metadata_before value_before) ≡ (normal_form d).value)
