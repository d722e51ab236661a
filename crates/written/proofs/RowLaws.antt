-- The row of a document is read back, breaks no rule and means the document. So it is rebuilt to the normal form, and two rows under
-- one schema are the same exactly when their documents are.
use Rattle.std.specs.Prelude.{Some, Ok}
use mathlib.Core.Bool.{true}
use mathlib.Core.List.{List}
use mathlib.Core.Logic.{◌↔◌}
use mathlib.Core.Path.{◌≡◌, sym, ap, ◌∙◌}
use Prim.Native.Nat.{ℕ, ◌+◌, ◌≤◌}
use native.Mathlib.Omega.{arith}
use borrow.Author.Tests.{le-leb}
use lib.ListN.{length, length-append}
use Rattle.forms.proofs.NamesLaws.{normal-names_there}
use Rattle.forms.proofs.NormalLaws.{Writable, short_writable, normal_back}
use Rattle.frames.proofs.BackLaws.{length_frame, pieces_frame, frame_alone}
use Rattle.frames.proofs.PieceLaws.{piece_then}
use Rattle.paper.specs.Framing.{frame}
use Rattle.paper.specs.Limits.{most_metadata, most_schema, most_value, most_row, most_levels}
use Rattle.paper.specs.Meaning.{Doc}
use Rattle.paper.specs.Metadata.{Dictionary}
use Rattle.paper.specs.Normal.{names_used, metadata_bytes, normal_form}
use Rattle.paper.specs.Operations.{writable, written, row_judged, rebuild_outcome}
use Rattle.paper.specs.Rebuilding.{or_null, row_meaning}
use Rattle.paper.specs.Refusals.{Outcome, require, obtain}
use Rattle.paper.specs.Rows.{Row, row_parts, row_of}
use Rattle.paper.specs.Rules.{row_lawful}
use Rattle.paper.specs.Schemas.{Schema, schema_of}
use Rattle.paper.specs.Shredding.{cut, place_bytes, row_bytes}
use Rattle.paper.specs.Words.{given, and_then}
use Rattle.written.proofs.LawfulLaws.{cut_lawful}
use Rattle.written.proofs.MeaningLaws.{cut_means}
use Rattle.written.proofs.PieceLaws.{place_body, place_frame, place_length}
use Rattle.written.proofs.PlaceLaws.{place_back}
use Rattle.written.specs.Fitting.{Fits, RowFits, cut_row}
use Rattle.std.proofs.lemmas.Option.{same_Some}

-- It breaks no rule, whatever the document.
pub row_lawful_lem : (node : Schema) (d : Doc) → row_lawful node (cut_row node d) ≡ true
unfolding row_lawful
row_lawful_lem node d = cut_lawful (names_used d) node d (normal-names_there d)

module _ (node : Schema) (d : Doc) (fits : RowFits node d) where
  row_writable : Writable most_levels d
  unfolding normal_form
  row_writable = short_writable most_levels d fits.good fits.value_fits fits.metadata_fits

  -- The outermost place, with all levels left, holds the document.
  whole_fits : Fits (names_used d) most_levels d
  unfolding normal_form
  whole_fits = let short = fits.value_fits in record { good = fits.good; there = normal-names_there d; short = omega arith }

  row_length : length (row_bytes node d) ≡ 6 + length (metadata_bytes (names_used d)) + length (place_body (names_used d) (cut node d))
  unfolding row_bytes
  row_length =
      let metadata : List ℕ = metadata_bytes (names_used d) in
      omega (
        arith,
        length-append (frame 0x40 metadata) (place_bytes (names_used d) (cut node d)),
        length_frame 0x40 metadata,
        place_length (names_used d) (cut node d),
      )

  pub row_back : row_of node (row_bytes node d) ≡ Some (cut_row node d)
  unfolding row_of row_bytes row_parts given and_then piece_then normal_form
  row_back =
      let names : Dictionary = names_used d in
      let metadata : List ℕ = metadata_bytes names in
      let body : List ℕ = place_body names (cut node d) in
      let size = row_length in
      let row_fits = fits.row_fits in
      let few = row_writable.names_few in
      rw (
        place_frame names (cut node d),
        pieces_frame 0x40 metadata (frame 0x50 body) (omega arith),
        frame_alone 0x50 body (omega arith),
        le-leb (length metadata) most_metadata fits.metadata_fits,
        (normal_back most_levels d row_writable).0,
        place_back names (omega arith) node most_levels d fits.node_good whole_fits (omega arith),
      )

  pub row_means : row_meaning node (cut_row node d) ≡ d
  unfolding row_meaning or_null
  row_means = rw (cut_means node most_levels d fits.node_good fits.good)

  module _ (schema : List ℕ) (schema_fits : length schema ≤ most_schema) (is : schema_of schema ≡ Some node) where
    -- It passes every judgement, whatever comes of it, ..
    pub row_judged_lem : {A : Type 0} (next : Schema → Row → Outcome A) → row_judged schema (row_bytes node d) next ≡ next node (cut_row node d)
    unfolding row_judged require obtain
    row_judged_lem next =
        rw (le-leb (length schema) most_schema schema_fits, le-leb (length (row_bytes node d)) most_row fits.row_fits, is, row_back, row_lawful_lem node d)

    -- .. and is rebuilt to the normal form of its document.
    pub row_rebuilt : rebuild_outcome schema (row_bytes node d) ≡ Ok (normal_form d)
    unfolding rebuild_outcome written writable require
    row_rebuilt =
        row_judged_lem (λ node parsed. written (row_meaning node parsed))
        ∙ rw (row_means, le-leb (length (normal_form d).value) most_value fits.value_fits)

-- Two documents have the same row exactly when they are equal.
pub same_row : (node : Schema) (d e : Doc) → RowFits node d → RowFits node e → (row_bytes node d ≡ row_bytes node e) ↔ (d ≡ e)
same_row node d e fits-d fits-e = (equal, ap (row_bytes node))
  where
    equal : row_bytes node d ≡ row_bytes node e → d ≡ e
    equal same =
        let rows : cut_row node d ≡ cut_row node e =
        same_Some (cut_row node d) (cut_row node e) (sym (row_back node d fits-d) ∙ ap (row_of node) same ∙ row_back node e fits-e) in
        sym (row_means node d fits-d) ∙ ap (row_meaning node) rows ∙ row_means node e fits-e
