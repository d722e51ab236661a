-- Demand 2 shown: by the laws of what a document is cut into (`written`), at the place that a path leads to.
use Rattle.std.specs.Prelude.{Option, Some, Err}
use mathlib.Core.Bool.{Bool, true, false, not, ◌||◌}
use mathlib.Core.List.{List}
use mathlib.Core.Path.{◌≡◌, refl, sym, ap, ◌∙◌}
use Prim.Native.Nat.{ℕ, ◌≤◌}
use borrow.Author.Tests.{le-leb, not-true}
use lib.ListN.{length}
use Rattle.forms.proofs.NormalLaws.{accepts, accepted_means, same_reached}
use Rattle.paper.proofs.WordLaws.{never, and_both}
use Rattle.paper.specs.Limits.{most_schema, most_row, most_levels}
use Rattle.paper.specs.Meaning.{Doc, null, scalar, array, object}
use Rattle.paper.specs.Metadata.{Dictionary}
use Rattle.paper.specs.Normal.{names_used}
use Rattle.paper.specs.Operations.{normalise_outcome, shred_outcome, row_judged, rebuild_outcome, document_answer}
use Rattle.paper.specs.Rebuilding.{place_meaning_by, cell_doc, place_meaning}
use Rattle.paper.specs.Refusals.{require, obtain}
use Rattle.paper.specs.Rows.{Place, empty, leftover, typed, both, cell, inner, Row, row_of}
use Rattle.paper.specs.Rules.{has_typed, has_leftover, leftover_of, is_object, is_fields_node, has_any, breaks_a, breaks_b, breaks_c, breaks_d, place_lawful, row_lawful}
use Rattle.paper.specs.Schemas.{Column, Schema, column, fields, SchemaFields, column_names, schema_of}
use Rattle.paper.specs.Shredding.{cut}
use Rattle.paper.specs.Standing.{Step, stands_at}
use Rattle.paper.specs.declared.Refusal.TheVariants.{BrokenRule}
use Rattle.schemas.proofs.GoodLaws.{schema_good}
use Rattle.written.proofs.ColumnLaws.{column_rule_lem}
use Rattle.written.proofs.MeaningLaws.{cut_means}
use Rattle.written.proofs.RowLaws.{row_lawful_lem}
use Rattle.written.proofs.ShredLaws.{Shredded, shredded, shredded_fits, shredded_back, shred_rebuilt}
use Rattle.written.specs.Everywhere.{takes_doc, cell_taken, column_kept, column_rule}
use Rattle.written.specs.Fitting.{cut_row}
use Rattle.promises.specs.Columns.{RowReadsBack, ColumnsTyped, LeftoversUnnamed, NamedLeftoverRefused, RowRestored}
use Rattle.promises.specs.Done.{Bytes, Means, Shreds}
use Rattle.promises.specs.Tables.{of_it}
use Rattle.promises.specs.Walking.{Stop, place_at}
use Rattle.promises.proofs.DoneLaws.{reached_document, row_reached}
use Rattle.promises.proofs.ShownLaws.{shown_at, beside_unnamed}
use Rattle.promises.proofs.WalkingLaws.{own_kept, everywhere_at, lawful_at}
use Rattle.std.proofs.lemmas.Option.{same_Some}

-- ---- what is written is read back

pub row_reads_back : RowReadsBack
row_reads_back schema metadata value row room bytes shreds =
    let s : Shredded schema metadata value row =
    shredded schema metadata value row (row_reached (shred_outcome schema metadata value) room row shreds).0 in
    record {
      node = s.node;
      d = s.document.d;
      schema_is = s.schema_is;
      means = accepted_means metadata value s.form s.document;
      reads = shredded_back s bytes;
    }

-- ---- what is cut, at the place that a path leads to

cut_ruled : (node : Schema) (d : Doc) (path : List Step) (stop : Stop) → place_at node (cut node d) path ≡ Some stop → column_rule stop.node stop.held ≡ true
cut_ruled node d path stop found = everywhere_at column_rule path node (cut node d) stop (column_rule_lem node d) found

-- A column has typed what it shows exactly when it takes it.
kept_exactly : (said : Column) (p : Place) → column_kept said p ≡ true → has_typed p ≡ of_it (place_meaning (column said) p) (takes_doc said)
unfolding column_kept cell_taken has_typed of_it place_meaning place_meaning_by cell_doc takes_doc
kept_exactly said empty kept = refl
kept_exactly said (leftover d) kept = sym (not-true (takes_doc said d) kept)
kept_exactly said (typed (cell own value)) kept = sym kept
kept_exactly said (typed (inner ps)) kept = never (sym kept)
kept_exactly said (both d t) kept = never (sym kept)

-- What is read of a row of shred: the schema, the document and the cut are those that it was written from.
module _ {schema metadata value row : List ℕ} (s : Shredded schema metadata value row) (bytes : Bytes metadata) where
  its_node : (node : Schema) → schema_of schema ≡ Some node → s.node ≡ node
  its_node node is = same_Some s.node node (sym s.schema_is ∙ is)

  cut_at_lem : (node : Schema) (parsed : Row) → schema_of schema ≡ Some node → row_of node row ≡ Some parsed
      → (path : List Step) (stop : Stop) → place_at node parsed.outermost path ≡ Some stop → place_at node (cut node s.document.d) path ≡ Some stop
  cut_at_lem node parsed is reads path stop found =
      let d : Doc = s.document.d in
      let back : row_of node row ≡ Some (cut_row node d) = rw (its_node node is) at (shredded_back s bytes) in
      let same : cut_row node d ≡ parsed = same_Some (cut_row node d) parsed (sym back ∙ reads) in
      ap (λ (r : Row). place_at node r.outermost path) same ∙ found

  -- What stands at a path of the document is what is shown there.
  cut_shown : (node : Schema) → schema_of schema ≡ Some node → (d : Doc) → Means metadata value d → (path : List Step) (stop : Stop)
      → place_at node (cut node s.document.d) path ≡ Some stop → stands_at d path ≡ place_meaning stop.node stop.held
  unfolding row_lawful
  cut_shown node is d means path stop found =
      let own : Doc = s.document.d in
      let same : own ≡ d = same_reached (sym (accepted_means metadata value s.form s.document) ∙ means) in
      let good = schema_good schema node is in
      ap (λ (e : Doc). stands_at e path) (sym same)
      ∙ shown_at (names_used own) path node (cut node own) own stop (most_levels, good) (row_lawful_lem node own)
      (cut_means node most_levels own good (shredded_fits s bytes).good) found

seen : (schema metadata value row : List ℕ) (room : ℕ) → Shreds schema metadata value room row → Shredded schema metadata value row
seen schema metadata value row room shreds =
    shredded schema metadata value row (row_reached (shred_outcome schema metadata value) room row shreds).0

pub columns_typed : ColumnsTyped
unfolding column_rule
columns_typed schema metadata value row room bytes shreds node d parsed is means reads path said p found =
    let s : Shredded schema metadata value row = seen schema metadata value row room shreds in
    let stop : Stop = record { node = column said; held = p } in
    let found-cut = cut_at_lem s bytes node parsed is reads path stop found in
    kept_exactly said p (cut_ruled node s.document.d path stop found-cut)
    ∙ ap (λ (x : Option Doc). of_it x (takes_doc said)) (sym (cut_shown s bytes node is d means path stop found-cut))

pub leftovers_unnamed : LeftoversUnnamed
unfolding column_rule
leftovers_unnamed schema metadata value row room bytes shreds node parsed is reads path columns p found =
    let s : Shredded schema metadata value row = seen schema metadata value row room shreds in
    let stop : Stop = record { node = fields columns; held = p } in
    let ruled = cut_ruled node s.document.d path stop (cut_at_lem s bytes node parsed is reads path stop found) in
    let has : Bool = has_any (column_names columns) (leftover_of p) in
    not-true has (and_both (not has) (has_typed p || not (is_object (leftover_of p))) ruled).0

-- ---- any row at all

-- A lawful place under an object node has no field that the node names in its leftover: beside something typed by rule c, alone by
-- rule d, as it would be an object.
lawful_unnamed : (names : Dictionary) (columns : SchemaFields) (p : Place) → place_lawful (fields columns) names p ≡ true
    → has_any (column_names columns) (leftover_of p) ≡ false
unfolding leftover_of has_any
lawful_unnamed names columns empty lawful = refl
lawful_unnamed names columns (typed t) lawful = refl
lawful_unnamed names columns (both d t) lawful = beside_unnamed columns names d t lawful
lawful_unnamed names columns (leftover null) lawful = refl
lawful_unnamed names columns (leftover (scalar value)) lawful = refl
lawful_unnamed names columns (leftover (array ds)) lawful = refl
lawful_unnamed names columns (leftover (object fs)) lawful =
    never (unfold place_lawful breaks_a breaks_b breaks_c breaks_d has_typed has_leftover leftover_of is_object is_fields_node in
    (own_kept (fields columns) _ (leftover (object fs)) lawful).0)

broken_refused : (schema row : List ℕ) → length schema ≤ most_schema → length row ≤ most_row → (node : Schema) (parsed : Row)
    → schema_of schema ≡ Some node → row_of node row ≡ Some parsed → row_lawful node parsed ≡ false → rebuild_outcome schema row ≡ Err BrokenRule
unfolding rebuild_outcome row_judged require obtain
broken_refused schema row schema_fits row_fits node parsed is reads broken =
    rw (le-leb (length schema) most_schema schema_fits, le-leb (length row) most_row row_fits, is, reads, broken)

pub named_leftover_refused : NamedLeftoverRefused
unfolding row_lawful document_answer
named_leftover_refused schema row schema_fits row_fits node parsed is reads path columns p found has metadata_room value_room =
    rw (broken_refused schema row schema_fits row_fits node parsed is reads (broken (row_lawful node parsed) refl))
  where
    broken : (b : Bool) → row_lawful node parsed ≡ b → b ≡ false
    broken false lawful = refl
    broken true lawful =
        never (sym has ∙ lawful_unnamed parsed.names columns p
        (lawful_at parsed.names path node parsed.outermost (record { node = fields columns; held = p }) lawful found))

-- ---- rebuilt to the normal form

pub row_restored : RowRestored
row_restored schema metadata value row room bytes shreds =
    let e = (row_reached (shred_outcome schema metadata value) room row shreds).0 in
    let s : Shredded schema metadata value row = seen schema metadata value row room shreds in
    let normal = accepts metadata value s.form s.document in
    record {
      form = s.form;
      both = λ metadata_room value_room long_enough. (
        reached_document (normalise_outcome metadata value) metadata_room value_room s.form normal long_enough,
        reached_document (rebuild_outcome schema row) metadata_room value_room s.form
            (shred_rebuilt schema metadata value row bytes e ∙ normal) long_enough,
      );
    }
