-- Done is reached and room: an operation is done with some bytes exactly when it comes to them and they have room.
use Rattle.paper.specs.declared.Unwritten.TheVariants.{Short}
use Rattle.std.specs.Prelude.{Err, Ok}
use mathlib.Core.Bool.{Bool, true, false, cond, ◌&&◌}
use mathlib.Core.List.{List, []}
use mathlib.Core.Path.{◌≡◌, refl, ap, ◌∙◌}
use Prim.Native.Nat.{ℕ, ◌≤◌}
use borrow.Author.Tests.{leb-true, le-leb}
use lib.Dec.{leb}
use lib.ListN.{length}
use Rattle.paper.specs.Normal.{Document}
use Rattle.paper.specs.Operations.{lengths_of, document_answer, document_room, metadata_written, value_written, row_answer, row_written}
use Rattle.paper.specs.Refusals.{Outcome, DocumentAnswer, RowAnswer}
use Rattle.paper.proofs.WordLaws.{and_both}
use Rattle.promises.specs.Done.{DocumentDone, RowDone, LongEnough}
use Rattle.promises.proofs.Buffers.{apart}

-- ---- a document

pub one_reached : {a b : Document} → ◌≡◌ {A = Outcome Document} (Ok a) (Ok b) → a ≡ b
one_reached e = cc

abbrev document : (metadata value : List ℕ) → Document
document metadata value = record { metadata = metadata; value = value }

same_document : (a b : Document) → a.metadata ≡ b.metadata → a.value ≡ b.value → a ≡ b
same_document a b e f = ap (λ (metadata : List ℕ). document metadata a.value) e ∙ ap (document b.metadata) f

pub document_reached : (outcome : Outcome Document) (metadata_room value_room : ℕ) (form : Document) → DocumentDone outcome metadata_room value_room form
    → (outcome ≡ Ok form) × LongEnough form metadata_room value_room
unfolding document_answer metadata_written value_written document_room
document_reached (Err r) metadata_room value_room form done = apart (let e = done.answer in cc)
document_reached (Ok found) metadata_room value_room form done = go _ refl done.answer done.metadata_bytes done.value_bytes_of
  where
    go : (b : Bool) → leb (length found.metadata) metadata_room && leb (length found.value) value_room ≡ b
        → cond {A = DocumentAnswer} b (Ok (lengths_of found)) (Err (Short (lengths_of found)))
        ≡ Ok (lengths_of form)
        → cond b found.metadata [] ≡ form.metadata → cond b found.value [] ≡ form.value
        → (◌≡◌ {A = Outcome Document} (Ok found) (Ok form)) × LongEnough form metadata_room value_room
    go true is e metadata value =
        let room = and_both (leb (length found.metadata) metadata_room) (leb (length found.value) value_room) is in
        let same : found ≡ form = same_document found form metadata value in
        let long_enough : LongEnough found metadata_room value_room =
        (leb-true (length found.metadata) metadata_room room.0, leb-true (length found.value) value_room room.1) in
        (ap Ok same, rw same at long_enough)
    go false is e metadata value = apart cc

pub reached_document : (outcome : Outcome Document) (metadata_room value_room : ℕ) (form : Document) → outcome ≡ Ok form
    → LongEnough form metadata_room value_room → DocumentDone outcome metadata_room value_room form
unfolding document_answer metadata_written value_written document_room
reached_document outcome metadata_room value_room form is room =
    let first = le-leb (length form.metadata) metadata_room room.0 in
    let second = le-leb (length form.value) value_room room.1 in
    record { answer = rw (is, first, second); metadata_bytes = rw (is, first, second); value_bytes_of = rw (is, first, second) }

-- ---- a row

pub row_reached : (outcome : Outcome (List ℕ)) (room : ℕ) (row : List ℕ) → RowDone outcome room row → (outcome ≡ Ok row) × (length row ≤ room)
unfolding row_answer row_written
row_reached (Err r) room row done = apart (let e = done.answer in cc)
row_reached (Ok found) room row done = go _ refl done.answer done.row_bytes
  where
    go : (b : Bool) → leb (length found) room ≡ b → cond {A = RowAnswer} b (Ok (length found)) (Err (Short (length found))) ≡ Ok (length row)
        → cond b found [] ≡ row → (◌≡◌ {A = Outcome (List ℕ)} (Ok found) (Ok row)) × (length row ≤ room)
    go true is e same = (ap Ok same, rw same at (leb-true (length found) room is))
    go false is e same = apart cc

pub reached_row : (outcome : Outcome (List ℕ)) (room : ℕ) (row : List ℕ) → outcome ≡ Ok row → length row ≤ room → RowDone outcome room row
unfolding row_answer row_written
reached_row outcome room row is fits = let first = le-leb (length row) room fits in record { answer = rw (is, first); row_bytes = rw (is, first) }
