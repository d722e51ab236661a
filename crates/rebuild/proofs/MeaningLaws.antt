-- What a lawful row means is what its outermost place means: the row's halves are where its judge found them.
use Rattle.paper.specs.Refusals.{DocumentAnswer}
use Rattle.std.specs.Prelude.{Option, Some}
use mathlib.Core.List.{List}
use mathlib.Core.Path.{◌≡◌, refl, sym, ap, ◌∙◌}
use Prim.Native.Nat.{ℕ, ◌+◌}
use borrow.Author.Tests.{eqb-true}
use lib.Dec.{eqb}
use lib.ListN.{length}
use Rattle.dictionary.proofs.LentLaws.{lent_dictionary}
use Rattle.frames.specs.Frames.{piece_in}
use Rattle.normalise.specs.Answered.{Answered}
use Rattle.paper.proofs.WordLaws.{given_some, then_some}
use Rattle.paper.specs.Framing.{Piece}
use Rattle.paper.specs.Limits.{most_levels}
use Rattle.paper.specs.Metadata.{Dictionary, dictionary_of}
use Rattle.paper.specs.Operations.{written}
use Rattle.paper.specs.Rebuilding.{row_meaning}
use Rattle.paper.specs.Rows.{Place, Row, place_within, place_by, place_under, row_parts, row_of}
use Rattle.paper.specs.Schemas.{Schema, schema_of}
use Rattle.paper.specs.Words.{part, and_then}
use Rattle.places.proofs.HalfLaws.{halved}
use Rattle.places.proofs.VerdictLaws.{place_under_lem}
use Rattle.rebuilt.specs.Meant.{place_doc}
use Rattle.rows.specs.Judging.{row_dictionary, InOrder}
use Rattle.rows.specs.declared.judging.RowParts.{RowParts}
use Rattle.rebuild.specs.Rebuilding.{Judged, doc_under, row_doc}
use Rattle.std.proofs.lemmas.Option.{same_Some}

-- A place that was read has a place's tag.
place_tag : (node : Schema) (names : Dictionary) (piece : Piece) {p : Place} → place_under node most_levels names piece ≡ Some p → piece.tag ≡ 0x50
unfolding place_within place_by
place_tag node names piece e =
    let under = ap (λ (read : Piece → Option Place). read piece) (sym (place_under_lem node most_levels names)) in
    eqb-true piece.tag 0x50 (given_some (eqb piece.tag 0x50) _ (under ∙ e)).0

module _ {bytes : List ℕ} {row : RowParts} (here : InOrder bytes row) (node : Schema) (parsed : Row) (e : row_of node bytes ≡ Some parsed) where
  abbrev Names : Dictionary
  Names = (row_dictionary row).names

  -- The row's outermost place was read under the metadata's names.
  outermost_read : place_under node most_levels Names (record { tag = 0x50; body = row.outermost.now }) ≡ Some parsed.outermost
  unfolding row_of row_parts and_then
  outermost_read =
      let h = halved bytes _ refl here.middle here.halved in
      let two = rw h.pieces at e in
      let tagged = given_some _ _ two in
      let named = then_some (dictionary_of (part bytes 3 here.middle)) _ tagged.1 in
      let opens = lent_dictionary (record { metadata = part bytes 3 here.middle; opens = here.opens }) in
      let same : Names ≡ named.0 = same_Some Names named.0 (sym opens ∙ named.1) in
      let placed = then_some (place_under node most_levels named.0 (piece_in bytes here.middle (length bytes))) _ named.2 in
      let is : placed.0 ≡ parsed.outermost = ap (λ (r : Row). r.outermost) (same_Some _ parsed placed.2) in
      let tag = place_tag node named.0 (piece_in bytes here.middle (length bytes)) placed.1 in
      ap (λ (names : Dictionary). place_under node most_levels names (record { tag = 0x50; body = row.outermost.now })) same
      ∙ ap (λ (body : List ℕ). place_under node most_levels named.0 (record { tag = 0x50; body = body })) here.holds
      ∙ ap (λ (t : ℕ). place_under node most_levels named.0 (record { tag = t; body = part bytes (here.middle + 3) (length bytes) })) (sym tag)
      ∙ placed.1
      ∙ ap Some is

  pub row_means : (schema : List ℕ) → schema_of schema ≡ Some node → row_meaning node parsed ≡ row_doc schema row
  unfolding row_meaning row_doc doc_under place_doc and_then
  row_means schema is = rw (is, outermost_read)

-- So what is answered of the outermost place's document is the answer.
pub row_answers : {schema table : List ℕ} {row : RowParts} → Judged schema row table → {first first' second second' : List ℕ} {a : DocumentAnswer}
    → Answered (written (row_doc schema row)) first first' second second' a
    → (bytes : List ℕ) → InOrder bytes row → (node : Schema) (parsed : Row) → schema_of schema ≡ Some node → row_of node bytes ≡ Some parsed
    → Answered (written (row_meaning node parsed)) first first' second second' a
row_answers {schema} judged answered bytes here node parsed is e = rw (row_means here node parsed e schema is) answered
