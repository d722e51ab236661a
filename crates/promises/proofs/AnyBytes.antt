-- Demand 1 shown: each operation requires and obtains what its table says, line by line.
use Rattle.paper.specs.declared.Unwritten.TheVariants.{Short}
use Rattle.std.specs.Prelude.{Option, None, Some, Err, Ok}
use mathlib.Core.Bool.{Bool, true, false, cond, not, ◌&&◌, ◌||◌}
use mathlib.Core.List.{List, [], ◌∷◌}
use mathlib.Core.Path.{◌≡◌, refl, ◌∙◌}
use Prim.Native.Nat.{ℕ}
use lib.Dec.{leb}
use lib.ListN.{length}
use Rattle.paper.specs.Answers.{number_of, checked_carries, found_carries, document_carries, row_carries, cell_carries, box_carries}
use Rattle.paper.specs.Cells.{cell_meaning}
use Rattle.paper.specs.Limits.{most_metadata, most_value, most_schema, most_path, most_row, most_cell, most_levels}
use Rattle.paper.specs.Meaning.{Doc}
use Rattle.paper.specs.Metadata.{Dictionary, dictionary_of}
use Rattle.paper.specs.Normal.{Document, normal_form}
use Rattle.paper.specs.Operations.{judged, value_judged, document_fits, check_outcome, checked_by, check_answer, find_answer, written, writable, lengths_of, document_room, document_answer, normalise_outcome, row_outcome, shred_outcome, row_answer, row_judged, judge_answer, rebuild_outcome, cell_answer, box_answer}
use Rattle.paper.specs.Paths.{path_of}
use Rattle.paper.specs.Rebuilding.{row_meaning}
use Rattle.paper.specs.Refusals.{Outcome}
use Rattle.paper.specs.Rows.{Row, row_of}
use Rattle.paper.specs.Rules.{row_lawful}
use Rattle.paper.specs.Schemas.{Schema, schema_of, column_of}
use Rattle.paper.specs.Shredding.{row_bytes}
use Rattle.paper.specs.Values.{meaning_of}
use Rattle.paper.specs.declared.Child.{Child}
use Rattle.paper.specs.Words.{given, and_then}
use Rattle.paper.specs.declared.Cell.{Cell}
use Rattle.paper.specs.declared.LotBox.{LotBox}
use Rattle.paper.specs.declared.Refusal.TheVariants.{TooLong, BadMetadata, BadValue, BadSchema, BadPath, BadRow, BrokenRule, TooLarge}
use Rattle.promises.specs.Tables.{Line, ◌when◌, GivenExactly, of_it}
use Rattle.promises.specs.AnyBytes.{longer, document_too_long, metadata_broken, value_broken, schema_broken, code_broken, path_broken, row_unparsed, cell_broken, rule_broken, document_of, rebuilt_of, normal_too_large, row_longer, buffers_short, check_table, find_table, normalise_table, shred_table, rebuild_table, judge_table, cell_table, box_table, CheckExactlyWhen, FindExactlyWhen, NormaliseExactlyWhen, ShredExactlyWhen, RebuildExactlyWhen, JudgeExactlyWhen, CellExactlyWhen, BoxExactlyWhen}
use Rattle.promises.proofs.TableLaws.{rise, first_given, comes_to, Gives, require_line, obtain_line, nothing_left, last_line, longer_not, either_not}

-- ---- inputs too long, and a lent document judged

fits_not : (s : List ℕ) (most : ℕ) → longer s most ≡ not (leb (length s) most)
unfolding longer
fits_not s most = longer_not most (length s)

too_long : (metadata value : List ℕ) → document_too_long metadata value ≡ not (document_fits metadata value)
unfolding document_too_long document_fits
too_long metadata value =
    either_not (leb (length metadata) most_metadata) (leb (length value) most_value) (fits_not metadata most_metadata) (fits_not value most_value)

judged_lines : {A : Type 0} {last : A → ℕ} {rest : List Line} (metadata value : List ℕ) (next : Dictionary → Doc → Outcome A)
    → ((names : Dictionary) (d : Doc) → dictionary_of metadata ≡ Some names → meaning_of most_levels names value ≡ Some d → Gives last (next names d) rest)
    → Gives last (judged metadata value next) ((2 when metadata_broken metadata) ∷ (3 when value_broken metadata value) ∷ rest)
unfolding judged value_judged metadata_broken value_broken of_it
judged_lines metadata value next goes =
    obtain_line BadMetadata (dictionary_of metadata) _ refl _ λ names names-is.
    obtain_line BadValue (meaning_of most_levels names value) _ (rw names-is) _ λ d d-is.
    goes names d names-is d-is

-- What gives a number by a table whose numbers rise gives it exactly when.
exactly : {A : Type 0} {last : A → ℕ} {outcome : Outcome A} {table : List Line} (number : ℕ) → number ≡ comes_to last outcome → Gives last outcome table
    → rise 0 table ≡ true → GivenExactly table number
exactly {table = table} number is gives rises = rw (is ∙ gives.number_is) (first_given 0 table rises)

-- ---- check

checked_number : {A : Type 0} (outcome : Outcome A) → number_of (checked_carries (checked_by outcome)) ≡ comes_to (λ a. 0) outcome
unfolding checked_by comes_to
checked_number (Err r) = refl
checked_number (Ok a) = refl

pub check_exactly_when : CheckExactlyWhen
unfolding check_answer check_outcome check_table rise
check_exactly_when metadata value =
    exactly _ (checked_number (check_outcome metadata value))
    (require_line TooLong (document_fits metadata value) _ (too_long metadata value) _ λ fits.
    judged_lines metadata value _ λ names d names-is d-is. nothing_left d refl)
    refl

-- ---- find

found_number : (outcome : Outcome (Option Child)) → number_of (found_carries outcome) ≡ comes_to (λ found. 0) outcome
unfolding comes_to
found_number (Err r) = refl
found_number (Ok None) = refl
found_number (Ok (Some child)) = refl

pub find_exactly_when : FindExactlyWhen
unfolding find_answer find_table path_broken rise
find_exactly_when metadata value path =
    exactly _ (found_number (find_answer metadata value path))
    (require_line TooLong (document_fits metadata value && leb (length path) most_path) _
    (either_not (document_fits metadata value) (leb (length path) most_path) (too_long metadata value) (fits_not path most_path)) _ λ fits.
    judged_lines metadata value _ λ names d names-is d-is.
    obtain_line BadPath (path_of path) _ refl _ λ steps steps-is. nothing_left _ refl)
    refl

-- ---- what is written into two buffers: 8, 9

document_number : (metadata_room value_room : ℕ) (outcome : Outcome Document)
    → number_of (document_carries (document_answer outcome metadata_room value_room))
    ≡ comes_to (λ document. cond (document_room document metadata_room value_room) 0 9) outcome
unfolding document_answer comes_to
document_number metadata_room value_room (Err r) = refl
document_number metadata_room value_room (Ok document) = go (document_room document metadata_room value_room)
  where
    go : (b : Bool) → number_of (document_carries (cond b (Ok (lengths_of document))
        (Err (Short (lengths_of document))))) ≡ cond b 0 9
    go true = refl
    go false = refl

-- The number of the last line, by the test that it is the failure of.
short_number : (room : Bool) (short : Bool) → short ≡ not room → ◌≡◌ {A = ℕ} (cond room 0 9) (cond short 9 0)
short_number true short e = rw e
short_number false short e = rw e

written_lines : (metadata_room value_room : ℕ) (document : Option Doc) (d : Doc) → document ≡ Some d
    → Gives (λ form. cond (document_room form metadata_room value_room) 0 9) (written d)
    ((8 when normal_too_large document) ∷ (9 when buffers_short document metadata_room value_room) ∷ [])
unfolding written writable normal_too_large buffers_short document_room of_it
written_lines metadata_room value_room document d is =
    require_line TooLarge (leb (length (normal_form d).value) most_value) _ (rw is (fits_not (normal_form d).value most_value)) _ λ fits.
    last_line _ _ (short_number (leb (length (normal_form d).metadata) metadata_room && leb (length (normal_form d).value) value_room)
    (buffers_short document metadata_room value_room)
    (rw is (either_not (leb (length (normal_form d).metadata) metadata_room) (leb (length (normal_form d).value) value_room)
    (fits_not (normal_form d).metadata metadata_room) (fits_not (normal_form d).value value_room))))

-- ---- normalise

document_is : (metadata value : List ℕ) (names : Dictionary) (d : Doc) → dictionary_of metadata ≡ Some names → meaning_of most_levels names value ≡ Some d
    → document_of metadata value ≡ Some d
unfolding document_of and_then
document_is metadata value names d names-is d-is = rw (names-is, d-is)

pub normalise_exactly_when : NormaliseExactlyWhen
unfolding normalise_outcome normalise_table rise
normalise_exactly_when metadata value metadata_room value_room =
    exactly _ (document_number metadata_room value_room (normalise_outcome metadata value))
    (require_line TooLong (document_fits metadata value) _ (too_long metadata value) _ λ fits.
    judged_lines metadata value _ λ names d names-is d-is.
    written_lines metadata_room value_room (document_of metadata value) d (document_is metadata value names d names-is d-is))
    refl

-- ---- shred

row_number : (room : ℕ) (outcome : Outcome (List ℕ))
    → number_of (row_carries (row_answer outcome room)) ≡ comes_to (λ row. cond (leb (length row) room) 0 9) outcome
unfolding row_answer comes_to
row_number room (Err r) = refl
row_number room (Ok row) = go (leb (length row) room)
  where
    go : (b : Bool) → number_of (row_carries (cond b (Ok (length row)) (Err (Short (length row))))) ≡ cond b 0 9
    go true = refl
    go false = refl

pub shred_exactly_when : ShredExactlyWhen
unfolding shred_outcome row_outcome shred_table schema_broken normal_too_large row_longer of_it writable rise
shred_exactly_when schema metadata value room =
    exactly _ (row_number room (shred_outcome schema metadata value))
    (require_line TooLong (leb (length schema) most_schema && document_fits metadata value) _
    (either_not (leb (length schema) most_schema) (document_fits metadata value) (fits_not schema most_schema) (too_long metadata value)) _ λ fits.
    judged_lines metadata value _ λ names d names-is d-is.
    obtain_line BadSchema (schema_of schema) _ refl _ λ node node_is.
    let is : document_of metadata value ≡ Some d = document_is metadata value names d names-is d-is in
    require_line TooLarge (leb (length (normal_form d).value) most_value && leb (length (row_bytes node d)) most_row) _
    (rw (is, node_is) (either_not (leb (length (normal_form d).value) most_value) (leb (length (row_bytes node d)) most_row)
    (fits_not (normal_form d).value most_value) (fits_not (row_bytes node d) most_row))) _ λ small.
    last_line _ _ (short_number (leb (length (row_bytes node d)) room) (row_longer schema (document_of metadata value) room) (rw (is, node_is) (fits_not (row_bytes node d) room))))
    refl

-- ---- rebuild, and the judge

rebuilt_is : (schema row : List ℕ) (node : Schema) (parsed : Row) → schema_of schema ≡ Some node → row_of node row ≡ Some parsed
    → row_lawful node parsed ≡ true → rebuilt_of schema row ≡ Some (row_meaning node parsed)
unfolding rebuilt_of and_then given
rebuilt_is schema row node parsed node_is parsed-is lawful = rw (node_is, parsed-is, lawful)

row_lines : {A : Type 0} {last : A → ℕ} {rest : List Line} (schema row : List ℕ) (next : Schema → Row → Outcome A)
    → ((node : Schema) (parsed : Row) → schema_of schema ≡ Some node → row_of node row ≡ Some parsed → row_lawful node parsed ≡ true → Gives last (next node parsed) rest)
    → Gives last (row_judged schema row next)
    ((1 when longer schema most_schema || longer row most_row)
    ∷ (4 when schema_broken schema) ∷ (6 when row_unparsed schema row) ∷ (7 when rule_broken schema row) ∷ rest)
unfolding row_judged schema_broken row_unparsed rule_broken of_it
row_lines schema row next goes =
    require_line TooLong (leb (length schema) most_schema && leb (length row) most_row) _
    (either_not (leb (length schema) most_schema) (leb (length row) most_row) (fits_not schema most_schema) (fits_not row most_row)) _ λ fits.
    obtain_line BadSchema (schema_of schema) _ refl _ λ node node_is.
    obtain_line BadRow (row_of node row) _ (rw node_is) _ λ parsed parsed-is.
    require_line BrokenRule (row_lawful node parsed) _ (rw (node_is, parsed-is)) _ λ lawful. goes node parsed node_is parsed-is lawful

pub rebuild_exactly_when : RebuildExactlyWhen
unfolding rebuild_outcome rebuild_table rise
rebuild_exactly_when schema row metadata_room value_room =
    exactly _ (document_number metadata_room value_room (rebuild_outcome schema row))
    (row_lines schema row _ λ node parsed node_is parsed-is lawful.
    written_lines metadata_room value_room (rebuilt_of schema row) (row_meaning node parsed) (rebuilt_is schema row node parsed node_is parsed-is lawful))
    refl

pub judge_exactly_when : JudgeExactlyWhen
unfolding judge_answer judge_table rise
judge_exactly_when schema row =
    exactly _ (checked_number (row_judged schema row λ node parsed. Ok parsed))
    (row_lines schema row _ λ node parsed node_is parsed-is lawful. nothing_left parsed refl)
    refl

-- ---- the two readers

cell_number : (outcome : Outcome Cell) → number_of (cell_carries outcome) ≡ comes_to (λ cell. 0) outcome
unfolding comes_to
cell_number (Err r) = refl
cell_number (Ok cell) = refl

pub cell_exactly_when : CellExactlyWhen
unfolding cell_answer cell_table code_broken cell_broken of_it rise
cell_exactly_when code cell =
    exactly _ (cell_number (cell_answer code cell))
    (require_line TooLong (leb (length cell) most_cell) _ (fits_not cell most_cell) _ λ fits.
    obtain_line BadSchema (column_of (code ∷ [])) _ refl _ λ column column_is.
    obtain_line BadRow (cell_meaning column cell) _ (rw column_is) _ λ value value_is. nothing_left _ refl)
    refl

box_number : (outcome : Outcome (Option LotBox)) → number_of (box_carries outcome) ≡ comes_to (λ box. 0) outcome
unfolding comes_to
box_number (Err r) = refl
box_number (Ok None) = refl
box_number (Ok (Some box)) = refl

pub box_exactly_when : BoxExactlyWhen
unfolding box_answer box_table rise
box_exactly_when metadata value =
    exactly _ (box_number (box_answer metadata value))
    (require_line TooLong (document_fits metadata value) _ (too_long metadata value) _ λ fits.
    judged_lines metadata value _ λ names d names-is d-is. nothing_left _ refl)
    refl
