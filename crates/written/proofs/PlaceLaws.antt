-- What a document is cut into is read back, place by place: shown over the node, for all documents and levels, the elements of
-- a list and the fields of an object by what reads one place.
use Rattle.std.specs.Prelude.{Option, None, Some}
use mathlib.Core.Bool.{Bool, true, false, cond}
use mathlib.Core.List.{List}
use mathlib.Core.Path.{◌≡◌, refl}
use Prim.Native.Nat.{ℕ, ◌-◌, ◌^◌, ◌≤◌, ◌<◌}
use native.Mathlib.Omega.{arith}
use borrow.Author.Tests.{le-leb}
use lib.ListN.{length, length-append}
use Rattle.forms.proofs.BackLaws.{value_back}
use Rattle.frames.proofs.BackLaws.{length_frame}
use Rattle.paper.specs.Cells.{takes}
use Rattle.paper.specs.Framing.{Piece, frame}
use Rattle.paper.specs.Limits.{most_leftover}
use Rattle.paper.specs.Meaning.{Scalar, Doc, null, scalar, array, object, Docs, no_docs, doc, Fields, no_fields, field}
use Rattle.paper.specs.Metadata.{Dictionary}
use Rattle.paper.specs.Normal.{value_bytes}
use Rattle.paper.specs.Rows.{Place, empty, leftover, typed, Typed, cell, inner, Places, leftover_meaning, place_within, no_body, cell_body, inner_body, list_places, place_under, field_places}
use Rattle.paper.specs.Schemas.{Column, Schema, leftover_only, column, list, fields, SchemaFields, none_named, named, column_names}
use Rattle.paper.specs.Shredding.{unnamed, with_rest, cut_scalar, cut_all, cut_field, cut, cut_fields, typed_bytes, places_bytes}
use Rattle.paper.specs.Standing.{field_at}
use Rattle.paper.specs.Words.{given, and_then}
use Rattle.schemas.proofs.GoodLaws.{good_element, good_object, good_field}
use Rattle.schemas.specs.Written.{good_schema, good_fields}
use Rattle.written.proofs.CellLaws.{cell_back}
use Rattle.written.proofs.FittingLaws.{scalar_good_lem, fits_elements, first_fits, others_fit, fits_members, member_fits, unnamed_fits}
use Rattle.written.proofs.PieceLaws.{place_body, place_piece, place_pieces, places_length, empty_back, leftover_back, typed_back, both_back, inner_back}
use Rattle.written.specs.Fitting.{Fits, ElementsFit, MembersFit}

module _ (names : Dictionary) (few : length names ≤ 2 ^ 32) where
  left_means : {levels : ℕ} {d : Doc} → Fits names levels d → leftover_meaning levels names (value_bytes names d) ≡ Some d
  unfolding leftover_meaning given
  left_means {levels} {d} fits =
      let short = fits.short in
      rw (le-leb (length (value_bytes names d)) most_leftover short) (value_back names few levels d fits.good fits.there (omega arith))

  left_back : {levels : ℕ} {d : Doc} (right : List ℕ → Option Typed) → Fits names levels d → length (place_body names (leftover d)) < 65536
      → place_within levels names right (place_piece names (leftover d)) ≡ Some (leftover d)
  left_back {levels} {d} right fits short = leftover_back names levels right d (left_means fits) short

  -- A scalar under a column.
  scalar_back : {levels : ℕ} (said : Column) (value : Scalar) → Fits names levels (scalar value) → length (place_body names (cut_scalar said value)) < 65536
      → place_within levels names (cell_body said) (place_piece names (cut_scalar said value)) ≡ Some (cut_scalar said value)
  unfolding cut_scalar
  scalar_back {levels} said value fits = go (takes said value) refl
    where
      means : takes said value ≡ true → cell_body said (typed_bytes names (cell said value)) ≡ Some (cell said value)
      means taken = unfold cell_body typed_bytes and_then in rw (cell_back said value (scalar_good_lem levels value fits.good) taken)

      go : (b : Bool) → takes said value ≡ b → length (place_body names (cond b (typed (cell said value)) (leftover (scalar value)))) < 65536
          → place_within levels names (cell_body said) (place_piece names (cond b (typed (cell said value)) (leftover (scalar value))))
          ≡ Some (cond b (typed (cell said value)) (leftover (scalar value)))
      go true taken short = typed_back names levels (cell_body said) (cell said value) (means taken) short
      go false taken short = left_back (cell_body said) fits short

  -- Inner places by themselves, and an object's beside its unnamed fields.
  places_back : (levels : ℕ) (read : List Piece → Option Places) (ps : Places) → (length (places_bytes names ps) < 65536 → read (place_pieces names ps) ≡ Some ps)
      → length (place_body names (typed (inner ps))) < 65536 → place_within levels names (inner_body read) (place_piece names (typed (inner ps))) ≡ Some (typed (inner ps))
  unfolding place_body typed_bytes
  places_back levels read ps means short =
      let size = length_frame 0x42 (places_bytes names ps) in
      let small : length (places_bytes names ps) < 65536 = omega arith in
      typed_back names levels (inner_body read) (inner ps) (inner_back names read ps (means small) small) short

  rest_back : {levels : ℕ} (read : List Piece → Option Places) (ps : Places) (fs : Fields) → Fits names levels (object fs)
      → (length (places_bytes names ps) < 65536 → read (place_pieces names ps) ≡ Some ps) → length (place_body names (with_rest fs (inner ps))) < 65536
      → place_within levels names (inner_body read) (place_piece names (with_rest fs (inner ps))) ≡ Some (with_rest fs (inner ps))
  unfolding with_rest place_body typed_bytes
  rest_back {levels} read ps no_fields fits means short = places_back levels read ps means short
  rest_back {levels} read ps (field name d fs) fits means short =
      let left : List ℕ = frame 0x41 (value_bytes names (object (field name d fs))) in
      let size = length_frame 0x42 (places_bytes names ps) in
      let all = length-append left (frame 0x42 (places_bytes names ps)) in
      let small : length (places_bytes names ps) < 65536 = omega arith in
      both_back names levels (inner_body read) (object (field name d fs)) (inner ps) (left_means fits) (inner_back names read ps (means small) small) short

  -- What reads back what a document is cut into.
  abbrev Back : (Doc → Place) → (Piece → Option Place) → ℕ → Type 0
  Back cut_one read levels = (d : Doc) → Fits names levels d → length (place_body names (cut_one d)) < 65536 → read (place_piece names (cut_one d)) ≡ Some (cut_one d)

  elements_back : {levels : ℕ} (cut_one : Doc → Place) (read : Piece → Option Place) → Back cut_one read levels → (ds : Docs) → ElementsFit names levels ds
      → length (places_bytes names (cut_all cut_one ds)) < 65536 → list_places read (place_pieces names (cut_all cut_one ds)) ≡ Some (cut_all cut_one ds)
  unfolding cut_all place_pieces list_places and_then
  elements_back cut_one read each no_docs fit short = refl
  elements_back cut_one read each (doc d ds) fit short =
      let size = places_length names (cut_one d) (cut_all cut_one ds) in
      rw (each d (first_fits fit) (omega arith), elements_back cut_one read each ds (others_fit fit) (omega arith))

  no_field_back : (node : Schema) (levels : ℕ) → place_under node levels names (place_piece names empty) ≡ Some empty
  unfolding place_under
  no_field_back leftover_only levels = empty_back names levels no_body
  no_field_back (column said) levels = empty_back names levels (cell_body said)
  no_field_back (list element) levels = empty_back names levels (inner_body (list_places (λ piece. place_under element (levels - 1) names piece)))
  no_field_back (fields columns) levels = empty_back names levels (inner_body (λ pieces. field_places columns (levels - 1) names pieces))

  field_back : {levels : ℕ} (node : Schema) → Back (λ d. cut node d) (place_under node levels names) levels → (x : Option Doc) → ((d : Doc) → x ≡ Some d → Fits names levels d)
      → length (place_body names (cut_field (λ d. cut node d) x)) < 65536
      → place_under node levels names (place_piece names (cut_field (λ d. cut node d) x)) ≡ Some (cut_field (λ d. cut node d) x)
  unfolding cut_field
  field_back {levels} node each None fits short = no_field_back node levels
  field_back node each (Some d) fits short = each d (fits d refl) short

  mutual
    unfolding cut place_under place_pieces and_then

    pub place_back : (node : Schema) (levels : ℕ) (d : Doc) → good_schema node levels ≡ true → Fits names levels d → length (place_body names (cut node d)) < 65536
        → place_under node levels names (place_piece names (cut node d)) ≡ Some (cut node d)
    place_back leftover_only levels d good fits short = left_back no_body fits short
    place_back (column said) levels null good fits short = left_back (cell_body said) fits short
    place_back (column said) levels (scalar value) good fits short = scalar_back said value fits short
    place_back (column said) levels (array ds) good fits short = left_back (cell_body said) fits short
    place_back (column said) levels (object fs) good fits short = left_back (cell_body said) fits short
    place_back (list element) levels null good fits short = left_back _ fits short
    place_back (list element) levels (scalar value) good fits short = left_back _ fits short
    place_back (list element) levels (array ds) good fits short =
        places_back levels (list_places (λ piece. place_under element (levels - 1) names piece)) (cut_all (λ d. cut element d) ds)
        (elements_back (λ d. cut element d) (λ piece. place_under element (levels - 1) names piece)
        (λ d Fits-one small. place_back element (levels - 1) d (good_element element levels good) Fits-one small) ds (fits_elements levels ds fits))
        short
    place_back (list element) levels (object fs) good fits short = left_back _ fits short
    place_back (fields columns) levels null good fits short = left_back _ fits short
    place_back (fields columns) levels (scalar value) good fits short = left_back _ fits short
    place_back (fields columns) levels (array ds) good fits short = left_back _ fits short
    place_back (fields columns) levels (object fs) good fits short =
        rest_back (λ pieces. field_places columns (levels - 1) names pieces) (cut_fields columns fs) (unnamed (column_names columns) fs)
        (unnamed_fits few (column_names columns) levels fs fits)
        (λ small. fields_back columns (levels - 1) fs (good_object columns levels good).inside (fits_members levels fs fits) small) short

    fields_back : (columns : SchemaFields) (levels : ℕ) (fs : Fields) → good_fields columns levels ≡ true → MembersFit names levels fs
        → length (places_bytes names (cut_fields columns fs)) < 65536 → field_places columns levels names (place_pieces names (cut_fields columns fs)) ≡ Some (cut_fields columns fs)
    fields_back none_named levels fs good fit short = refl
    fields_back (named name node columns) levels fs good fit short =
        let goods = good_field name node columns levels good in
        let size = places_length names (cut_field (λ d. cut node d) (field_at name fs)) (cut_fields columns fs) in
        rw (
          field_back node (λ d fits small. place_back node levels d goods.0 fits small) (field_at name fs) (λ d found. member_fits name fs d fit found) (omega arith),
          fields_back columns levels fs goods.1 fit (omega arith),
        )
