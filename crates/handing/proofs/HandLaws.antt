-- What is answered of a row to be written, test by test: 8, 9, or done.
use Rattle.paper.specs.declared.Unwritten.TheVariants.{Refused, Short}
use Rattle.std.specs.Prelude.{Err, Ok}
use mathlib.Core.List.{List, ◌++◌}
use mathlib.Core.Path.{◌≡◌, refl, sym, ap, ◌∙◌}
use Prim.Native.Nat.{ℕ, ◌+◌, ◌≤◌, ◌<◌}
use native.Mathlib.Omega.{arith}
use borrow.Author.Tests.{le-leb, lt-leb}
use lib.ListN.{length, length-append}
use Rattle.numbers.proofs.PutLaws.{put_none, put_run}
use Rattle.numbers.specs.Little.{number_bytes, put_at}
use Rattle.paper.specs.Framing.{frame}
use Rattle.paper.specs.Limits.{most_row, most_value}
use Rattle.paper.specs.Meaning.{Doc}
use Rattle.paper.specs.Normal.{names_used, metadata_bytes, value_bytes, normal_form}
use Rattle.paper.specs.Operations.{writable, row_outcome, row_answer, row_written}
use Rattle.paper.specs.Refusals.{Outcome, require}
use Rattle.paper.specs.Schemas.{Schema}
use Rattle.paper.specs.Shredding.{cut, place_bytes, row_bytes}
use Rattle.paper.specs.declared.Refusal.TheVariants.{TooLarge}
use Rattle.paper.specs.declared.Refusal.{Refusal}
use Rattle.handing.specs.Handing.{RowAnswered, row_from}

-- What is refused leaves the buffer as it was.
pub refused_row : {outcome : Outcome (List ℕ)} {refusal : Refusal} → outcome ≡ Err refusal → (row : List ℕ) → RowAnswered outcome row row (Err (Refused refusal))
unfolding row_answer row_written
refused_row e row = rw e (record { answer_is = refl; row_is = sym (put_none row 0) })

-- ---- a row by its metadata and its outermost place

module _ (metadata place : List ℕ) (size : ℕ) (told : size ≡ 3 + length metadata + length place) where
  row_size : length (frame 0x40 metadata ++ place) ≡ size
  unfolding frame number_bytes
  row_size = rw length-append (omega arith)

  abbrev Tag : List ℕ
  Tag = number_bytes 1 0x40

  abbrev Count : List ℕ
  Count = number_bytes 2 (length metadata)

  pub hand_large : most_row < size → (row : List ℕ) → RowAnswered (row_from metadata place) row row (Err (Refused TooLarge))
  unfolding row_from require
  hand_large h = refused_row (rw (row_size, lt-leb size most_row h))

  module _ (fits : size ≤ most_row) (row : List ℕ) where
    fitting : row_from metadata place ≡ Ok (frame 0x40 metadata ++ place)
    unfolding row_from require
    fitting = rw (row_size, le-leb size most_row fits)

    pub hand_short : length row < size → RowAnswered (row_from metadata place) row row (Err (Short size))
    unfolding row_answer row_written
    hand_short h =
        rw fitting
        (record {
          answer_is = rw (row_size, lt-leb size (length row) h);
          row_is = rw (row_size, lt-leb size (length row) h) (sym (put_none row 0));
        })

    -- its parts written one behind the other
    module _ (h : size ≤ length row) {tagged counted named after : List ℕ} (first : tagged ≡ put_at row 0 Tag) (second : counted ≡ put_at tagged 1 Count)
        (third : named ≡ put_at counted 3 metadata) (last : after ≡ put_at named (3 + length metadata) place) where
      tag_count : counted ≡ put_at row 0 (Tag ++ Count)
      unfolding number_bytes
      tag_count = second ∙ ap (λ (l : List ℕ). put_at l 1 Count) first ∙ put_run row 0 Tag Count (omega arith)

      first_half : named ≡ put_at row 0 ((Tag ++ Count) ++ metadata)
      unfolding number_bytes
      first_half = third ∙ ap (λ (l : List ℕ). put_at l 3 metadata) tag_count ∙ put_run row 0 (Tag ++ Count) metadata (omega arith)

      both_halves : after ≡ put_at row 0 (frame 0x40 metadata ++ place)
      unfolding number_bytes frame
      both_halves =
          let middle : 3 + length metadata ≡ 0 + length ((Tag ++ Count) ++ metadata) = omega arith in
          last ∙ rw (middle, first_half) (put_run row 0 ((Tag ++ Count) ++ metadata) place (omega arith))

      pub hand_done : RowAnswered (row_from metadata place) row after (Ok size)
      unfolding row_answer row_written
      hand_done =
          rw fitting
          (record {
            answer_is = rw (row_size, le-leb size (length row) h);
            row_is = rw (row_size, le-leb size (length row) h) both_halves;
          })

-- ---- the row of a document whose normal form may be written

pub row_outcome_lem : (node : Schema) (d : Doc) → length (value_bytes (names_used d) d) ≤ most_value
    → row_from (metadata_bytes (names_used d)) (place_bytes (names_used d) (cut node d)) ≡ row_outcome node d
unfolding row_from row_outcome writable normal_form row_bytes
row_outcome_lem node d short = rw (le-leb (length (value_bytes (names_used d) d)) most_value short)

-- A place that is longer than a row may be makes a row that is.
pub place_large : (node : Schema) (d : Doc) → length (value_bytes (names_used d) d) ≤ most_value → most_row < length (place_bytes (names_used d) (cut node d))
    → row_outcome node d ≡ Err TooLarge
unfolding row_from require
place_large node d short long =
    let place : List ℕ = place_bytes (names_used d) (cut node d) in
    let metadata : List ℕ = metadata_bytes (names_used d) in
    let size = row_size metadata place (3 + length metadata + length place) refl in
    sym (row_outcome_lem node d short) ∙ rw (lt-leb (length (frame 0x40 metadata ++ place)) most_row (omega arith))
