-- Demand 1, the lent buffers, shown: by whether what was reached has room.
use Rattle.paper.specs.declared.DocumentLengths.{DocumentLengths}
use Rattle.paper.specs.declared.Unwritten.TheVariants.{Short}
use Rattle.std.specs.Prelude.{Err, Ok}
use mathlib.Core.Bool.{Bool, true, false, cond, not, ◌&&◌, ◌||◌}
use mathlib.Core.List.{List}
use mathlib.Core.Path.{◌≡◌, refl, sym, ap, ◌∙◌}
use Prim.Native.Nat.{ℕ, ◌+◌}
use native.Mathlib.Nat.{zero-add}
use native.Mathlib.Omega.{arith}
use borrow.Author.Tests.{leb-true}
use lib.Dec.{leb}
use lib.ListN.{length, drop}
use lib.Seq.{take-append_seam, drop-append_seam}
use Rattle.numbers.specs.Little.{put_at}
use Rattle.numbers.proofs.PutLaws.{put_none, length_put}
use Rattle.paper.specs.Answers.{done, absent, refusal, short, number_of, document_carries, row_carries}
use Rattle.paper.specs.Normal.{Document}
use Rattle.paper.specs.Operations.{lengths_of, document_answer, document_room, metadata_written, value_written, row_answer, row_written}
use Rattle.paper.specs.Refusals.{Outcome, DocumentAnswer, RowAnswer}
use Rattle.paper.proofs.WordLaws.{and_both}
use Rattle.promises.specs.AnyBytes.{longer}
use Rattle.promises.specs.Buffers.{lengths, metadata_left, value_left, row_left, ComeFirst, DocumentsUntouched, RowUntouched, DocumentStands, DocumentsDone, RowStands, RowsDone, DocumentsShort, RowShort, Zeros}
use Rattle.promises.proofs.TableLaws.{longer_not, either_not}

-- Bytes that have room, put over the front.
come_first : (bytes before : List ℕ) → leb (length bytes) (length before) ≡ true → ComeFirst bytes before (put_at before 0 bytes)
unfolding put_at
come_first bytes before fits =
    let room = leb-true (length bytes) (length before) fits in
    record {
      have_room = room;
      first = take-append_seam bytes (drop (0 + length bytes) before);
      behind = drop-append_seam bytes (drop (0 + length bytes) before) ∙ rw (zero-add (length bytes));
      as_long = length_put before 0 bytes (rw (zero-add (length bytes)) room);
    }

-- ---- two buffers

module _ (document : Document) (metadata_before value_before : List ℕ) where
  abbrev room : Bool
  room = document_room document (length metadata_before) (length value_before)

  untouched : (b : Bool) → room ≡ b → (number_of (document_carries (document_answer (Ok document) (length metadata_before) (length value_before))) ≡ 0 → ⊥)
      → (metadata_left (Ok document) metadata_before value_before ≡ metadata_before) × (value_left (Ok document) metadata_before value_before ≡ value_before)
  unfolding document_answer metadata_left value_left metadata_written value_written
  untouched true is other = absurd (other (rw is))
  untouched false is other = (rw is (put_none metadata_before 0), rw is (put_none value_before 0))

  stands : room ≡ true → DocumentStands (Ok document) metadata_before value_before (length document.metadata) (length document.value)
  unfolding metadata_left value_left metadata_written value_written document_room
  stands is =
      let fit = and_both (leb (length document.metadata) (length metadata_before)) (leb (length document.value) (length value_before)) is in
      record {
        document = document;
        is_reached = refl;
        metadata_size = refl;
        value_size = refl;
        metadata_first = rw is (come_first document.metadata metadata_before fit.0);
        value_first = rw is (come_first document.value value_before fit.1);
      }

pub documents_untouched : DocumentsUntouched
unfolding metadata_left value_left metadata_written value_written
documents_untouched (Err r) metadata_before value_before other = (put_none metadata_before 0, put_none value_before 0)
documents_untouched (Ok document) metadata_before value_before other = untouched document metadata_before value_before _ refl other

-- Two answers of different cases are not the same.
pub apart : {A : Type 0} → ◌≡◌ {A = ℕ} 0 1 → A
apart e = absurd (omega (arith, e))

same_lengths : {a b c d : ℕ} → lengths a b ≡ lengths c d → (c ≡ a) × (d ≡ b)
same_lengths e = (ap (λ (l : DocumentLengths). l.metadata) (sym e), ap (λ (l : DocumentLengths). l.value) (sym e))

same_done : {a b c d : ℕ} → ◌≡◌ {A = DocumentAnswer} (Ok (lengths a b)) (Ok (lengths c d)) → (c ≡ a) × (d ≡ b)
same_done e = same_lengths cc

same_short : {a b c d : ℕ} → ◌≡◌ {A = DocumentAnswer} (Err (Short (lengths a b))) (Err (Short (lengths c d))) → (c ≡ a) × (d ≡ b)
same_short e = same_lengths cc

pub documents_done : DocumentsDone
unfolding document_answer
documents_done (Err r) metadata_before value_before metadata_size_here value_size_here e = apart cc
documents_done (Ok document) metadata_before value_before metadata_size_here value_size_here e = go (room document metadata_before value_before) refl e
  where
    go : (b : Bool) → room document metadata_before value_before ≡ b
        → cond {A = DocumentAnswer} b (Ok (lengths_of document)) (Err (Short (lengths_of document)))
        ≡ Ok (lengths metadata_size_here value_size_here)
        → DocumentStands (Ok document) metadata_before value_before metadata_size_here value_size_here
    go true is e = let sizes = same_done e in rw (sizes.0, sizes.1) (stands document metadata_before value_before is)
    go false is e = apart cc

pub documents_short : DocumentsShort
unfolding document_answer document_room longer
documents_short (Err r) metadata_room value_room metadata_size_here value_size_here e = apart cc
documents_short (Ok document) metadata_room value_room metadata_size_here value_size_here e = go _ refl e
  where
    go : (b : Bool) → leb (length document.metadata) metadata_room && leb (length document.value) value_room ≡ b
        → cond {A = DocumentAnswer} b (Ok (lengths_of document)) (Err (Short (lengths_of document)))
        ≡ Err (Short (lengths metadata_size_here value_size_here))
        → (form : Document) × (◌≡◌ {A = Outcome Document} (Ok document) (Ok form)) × (metadata_size_here ≡ length form.metadata) × (value_size_here ≡ length form.value)
        × (longer form.metadata metadata_room || longer form.value value_room ≡ true)
    go true is e = apart cc
    go false is e =
        let sizes = same_short e in (
          document,
          refl,
          sizes.0,
          sizes.1,
          either_not (leb (length document.metadata) metadata_room) (leb (length document.value) value_room)
              (longer_not metadata_room (length document.metadata)) (longer_not value_room (length document.value)) ∙ ap not is,
        )

-- ---- one buffer

row_go : (row before : List ℕ) (b : Bool) → leb (length row) (length before) ≡ b → (number_of (row_carries (row_answer (Ok row) (length before))) ≡ 0 → ⊥)
    → row_left (Ok row) before ≡ before
unfolding row_answer row_left row_written
row_go row before true is other = absurd (other (rw is))
row_go row before false is other = rw is (put_none before 0)

pub row_untouched : RowUntouched
unfolding row_left row_written
row_untouched (Err r) before other = put_none before 0
row_untouched (Ok row) before other = row_go row before _ refl other

pub row_done : RowsDone
unfolding row_answer row_left row_written
row_done (Err r) before size e = apart cc
row_done (Ok row) before size e = go _ refl e
  where
    go : (b : Bool) → leb (length row) (length before) ≡ b → cond {A = RowAnswer} b (Ok (length row)) (Err (Short (length row))) ≡ Ok size
        → RowStands (Ok row) before size
    go true is e = record { row = row; is_reached = refl; row_size = cc; row_first = rw is (come_first row before is) }
    go false is e = apart cc

pub row_short : RowShort
unfolding row_answer longer
row_short (Err r) space size e = apart cc
row_short (Ok row) space size e = go _ refl e
  where
    go : (b : Bool) → leb (length row) space ≡ b → cond {A = RowAnswer} b (Ok (length row)) (Err (Short (length row))) ≡ Err (Short size)
        → (found : List ℕ) × (◌≡◌ {A = Outcome (List ℕ)} (Ok row) (Ok found)) × (size ≡ length found) × (longer found space ≡ true)
    go true is e = apart cc
    go false is e = (row, refl, cc, longer_not space (length row) ∙ ap not is)

-- ---- what the others carry

pub zeros : Zeros
zeros (done values) place there number = absurd (omega (arith, there))
zeros absent place there number = refl
zeros (refusal r) place there number = refl
zeros (short needed) place there number = absurd (number refl)
