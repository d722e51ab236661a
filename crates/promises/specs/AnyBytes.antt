-- Demand 1. Whatever bytes are lent, each number of 01's table is given exactly when its condition holds, the lowest where several
-- do. (What is left in the lent buffers then is in `Buffers.antt`.)
use Rattle.std.specs.Prelude.{Bool, not, ◌||◌, List, [], ◌∷◌, ℕ, ltb, length, Option, Some}
use Rattle.paper.specs.Answers.{number_of, checked_carries, found_carries, document_carries, row_carries, cell_carries, box_carries}
use Rattle.paper.specs.Cells.{cell_meaning}
use Rattle.paper.specs.Limits.{most_metadata, most_value, most_schema, most_path, most_row, most_cell, most_levels}
use Rattle.paper.specs.Meaning.{Doc}
use Rattle.paper.specs.Metadata.{dictionary_of}
use Rattle.paper.specs.Normal.{normal_form}
use Rattle.paper.specs.Operations.{check_answer, find_answer, normalise_outcome, shred_outcome, rebuild_outcome, judge_answer, cell_answer, box_answer, document_answer, row_answer}
use Rattle.paper.specs.Paths.{path_of}
use Rattle.paper.specs.Rebuilding.{row_meaning}
use Rattle.paper.specs.Rows.{row_of}
use Rattle.paper.specs.Rules.{row_lawful}
use Rattle.paper.specs.Schemas.{schema_of, column_of}
use Rattle.paper.specs.Shredding.{row_bytes}
use Rattle.paper.specs.Values.{meaning_of}
use Rattle.paper.specs.Words.{given, and_then, is_there}
use Rattle.promises.specs.Tables.{Line, ◌when◌, GivenExactly, of_it}

-- ---- the conditions, each by itself

unfoldable pub longer : List ℕ → (most : ℕ) → Bool
longer s most = ltb most (length s)

-- 1: metadata or value is longer than it may be.
unfoldable pub document_too_long : (metadata value : List ℕ) → Bool
document_too_long metadata value = longer metadata most_metadata || longer value most_value

-- 2: lent metadata breaks its rules.
unfoldable pub metadata_broken : (metadata : List ℕ) → Bool
metadata_broken metadata = not (is_there (dictionary_of metadata))

-- 3: lent value breaks its rules under that metadata, nesting included.
unfoldable pub value_broken : (metadata value : List ℕ) → Bool
value_broken metadata value = of_it (dictionary_of metadata) λ names. not (is_there (meaning_of most_levels names value))

-- 4: schema, or a cell's type code, breaks its rules.
unfoldable pub schema_broken : (schema : List ℕ) → Bool
schema_broken schema = not (is_there (schema_of schema))

unfoldable pub code_broken : (code : ℕ) → Bool
code_broken code = not (is_there (column_of (code ∷ [])))

-- 5: path breaks its rules.
unfoldable pub path_broken : (path : List ℕ) → Bool
path_broken path = not (is_there (path_of path))

-- 6: a row does not parse under its schema, or a cell has the wrong size or content.
unfoldable pub row_unparsed : (schema row : List ℕ) → Bool
row_unparsed schema row = of_it (schema_of schema) λ node. not (is_there (row_of node row))

unfoldable pub cell_broken : (code : ℕ) → List ℕ → Bool
cell_broken code cell = of_it (column_of (code ∷ [])) λ column. not (is_there (cell_meaning column cell))

-- 7: a row parses but breaks a rule a to f.
unfoldable pub rule_broken : (schema row : List ℕ) → Bool
rule_broken schema row = of_it (schema_of schema) λ node. of_it (row_of node row) λ parsed. not (row_lawful node parsed)

-- The document that lent bytes mean, and the one that a lent row means, where they mean one.
unfoldable pub document_of : (metadata value : List ℕ) → Option Doc
document_of metadata value = and_then (dictionary_of metadata) λ names. meaning_of most_levels names value

unfoldable pub rebuilt_of : (schema row : List ℕ) → Option Doc
rebuilt_of schema row =
    and_then (schema_of schema) λ node. and_then (row_of node row) λ parsed. given (row_lawful node parsed) (Some (row_meaning node parsed))

-- 8: the document's normal value passes 16,384 bytes; shred also: the row to be written passes 65,535.
unfoldable pub normal_too_large : Option Doc → Bool
normal_too_large document = of_it document λ d. longer (normal_form d).value most_value

unfoldable pub row_longer : (schema : List ℕ) → Option Doc → (most : ℕ) → Bool
row_longer schema document most = of_it (schema_of schema) λ node. of_it document λ d. longer (row_bytes node d) most

-- 9: an output buffer is shorter than what must be written.
unfoldable pub buffers_short : Option Doc → (metadata_room value_room : ℕ) → Bool
buffers_short document metadata_room value_room =
    of_it document λ d. longer (normal_form d).metadata metadata_room || longer (normal_form d).value value_room

-- ---- the table of each operation. "Check, find and the readers never give 8 or 9."

unfoldable pub check_table : (metadata value : List ℕ) → List Line
check_table metadata value =
    (1 when document_too_long metadata value) ∷ (2 when metadata_broken metadata) ∷ (3 when value_broken metadata value) ∷ []

unfoldable pub find_table : (metadata value path : List ℕ) → List Line
find_table metadata value path =
    (1 when document_too_long metadata value || longer path most_path)
    ∷ (2 when metadata_broken metadata)
    ∷ (3 when value_broken metadata value)
    ∷ (5 when path_broken path)
    ∷ []

unfoldable pub normalise_table : (metadata value : List ℕ) → (metadata_room value_room : ℕ) → List Line
normalise_table metadata value metadata_room value_room =
    (1 when document_too_long metadata value)
    ∷ (2 when metadata_broken metadata)
    ∷ (3 when value_broken metadata value)
    ∷ (8 when normal_too_large (document_of metadata value))
    ∷ (9 when buffers_short (document_of metadata value) metadata_room value_room)
    ∷ []

unfoldable pub shred_table : (schema metadata value : List ℕ) → (room : ℕ) → List Line
shred_table schema metadata value room =
    (1 when longer schema most_schema || document_too_long metadata value)
    ∷ (2 when metadata_broken metadata)
    ∷ (3 when value_broken metadata value)
    ∷ (4 when schema_broken schema)
    ∷ (8 when normal_too_large (document_of metadata value) || row_longer schema (document_of metadata value) most_row)
    ∷ (9 when row_longer schema (document_of metadata value) room)
    ∷ []

unfoldable pub rebuild_table : (schema row : List ℕ) → (metadata_room value_room : ℕ) → List Line
rebuild_table schema row metadata_room value_room =
    (1 when longer schema most_schema || longer row most_row)
    ∷ (4 when schema_broken schema)
    ∷ (6 when row_unparsed schema row)
    ∷ (7 when rule_broken schema row)
    ∷ (8 when normal_too_large (rebuilt_of schema row))
    ∷ (9 when buffers_short (rebuilt_of schema row) metadata_room value_room)
    ∷ []

-- Rebuild's judgement of a row by itself, beside the seven.
unfoldable pub judge_table : (schema row : List ℕ) → List Line
judge_table schema row =
    (1 when longer schema most_schema || longer row most_row)
    ∷ (4 when schema_broken schema)
    ∷ (6 when row_unparsed schema row)
    ∷ (7 when rule_broken schema row)
    ∷ []

unfoldable pub cell_table : (code : ℕ) → List ℕ → List Line
cell_table code cell = (1 when longer cell most_cell) ∷ (4 when code_broken code) ∷ (6 when cell_broken code cell) ∷ []

unfoldable pub box_table : (metadata value : List ℕ) → List Line
box_table metadata value =
    (1 when document_too_long metadata value) ∷ (2 when metadata_broken metadata) ∷ (3 when value_broken metadata value) ∷ []

-- ---- the promises: for any bytes and any room, the number that is answered is the one that the table gives

abbrev pub CheckExactlyWhen : Type 0
CheckExactlyWhen =
    (metadata value : List ℕ) → GivenExactly (check_table metadata value) (number_of (checked_carries (check_answer metadata value)))

abbrev pub FindExactlyWhen : Type 0
FindExactlyWhen =
    (metadata value path : List ℕ)
    → GivenExactly (find_table metadata value path) (number_of (found_carries (find_answer metadata value path)))

abbrev pub NormaliseExactlyWhen : Type 0
NormaliseExactlyWhen =
    (metadata value : List ℕ) (metadata_room value_room : ℕ)
    → GivenExactly (normalise_table metadata value metadata_room value_room)
    (number_of (document_carries (document_answer (normalise_outcome metadata value) metadata_room value_room)))

abbrev pub ShredExactlyWhen : Type 0
ShredExactlyWhen =
    (schema metadata value : List ℕ) (room : ℕ)
    → GivenExactly (shred_table schema metadata value room) (number_of (row_carries (row_answer (shred_outcome schema metadata value) room)))

abbrev pub RebuildExactlyWhen : Type 0
RebuildExactlyWhen =
    (schema row : List ℕ) (metadata_room value_room : ℕ)
    → GivenExactly (rebuild_table schema row metadata_room value_room)
    (number_of (document_carries (document_answer (rebuild_outcome schema row) metadata_room value_room)))

abbrev pub JudgeExactlyWhen : Type 0
JudgeExactlyWhen =
    (schema row : List ℕ) → GivenExactly (judge_table schema row) (number_of (checked_carries (judge_answer schema row)))

abbrev pub CellExactlyWhen : Type 0
CellExactlyWhen = (code : ℕ) (cell : List ℕ) → GivenExactly (cell_table code cell) (number_of (cell_carries (cell_answer code cell)))

abbrev pub BoxExactlyWhen : Type 0
BoxExactlyWhen =
    (metadata value : List ℕ) → GivenExactly (box_table metadata value) (number_of (box_carries (box_answer metadata value)))
