-- What shred writes: it is rebuilt to what normalise writes of the same document, what is in normal form is shredded to the same row,
-- and rows under one schema are the same exactly when their documents mean the same.
use Rattle.std.specs.Prelude.{Some, Ok}
use mathlib.Core.Bool.{Bool, ◌&&◌, and-true}
use mathlib.Core.List.{List}
use mathlib.Core.Logic.{◌↔◌}
use mathlib.Core.Path.{◌≡◌, refl, sym, ap, ◌∙◌}
use Prim.Native.Nat.{ℕ, ◌≤◌, ◌<◌}
use native.Mathlib.Omega.{arith}
use borrow.Author.Tests.{leb-true}
use lib.Dec.{leb}
use lib.ListN.{length, get_or}
use Rattle.forms.proofs.NormalLaws.{require_reached, obtain_reached, Accepted, accepted, accepts, normal_shorter, accepted_writable, accepted_means, normal_means, same_reached}
use Rattle.paper.proofs.WordLaws.{and_both}
use Rattle.paper.specs.Limits.{most_metadata, most_schema, most_value, most_row, most_levels}
use Rattle.paper.specs.Meaning.{Doc}
use Rattle.paper.specs.Metadata.{dictionary_of}
use Rattle.paper.specs.Normal.{Document, normal_form}
use Rattle.paper.specs.Operations.{judged, value_judged, document_fits, check_outcome, writable, normalise_outcome, row_outcome, shred_outcome, rebuild_outcome}
use Rattle.paper.specs.Refusals.{Outcome, require, obtain}
use Rattle.paper.specs.Rows.{row_of}
use Rattle.paper.specs.Schemas.{Schema, schema_of}
use Rattle.paper.specs.Shredding.{row_bytes}
use Rattle.paper.specs.Values.{meaning_of}
use Rattle.paper.specs.declared.Refusal.TheVariants.{TooLong, BadSchema}
use Rattle.schemas.proofs.GoodLaws.{schema_good}
use Rattle.written.proofs.RowLaws.{row_back, row_rebuilt, same_row}
use Rattle.written.specs.Fitting.{RowFits, cut_row}
use Rattle.std.proofs.lemmas.Option.{same_Some}

-- What `shred` has seen of a document and a schema that it accepts.
pub record Shredded (schema metadata value row : List ℕ) : Type 0 where
  pub node : Schema
  pub form : Document
  pub document : Accepted metadata value form
  pub schema_fits : length schema ≤ most_schema
  pub schema_is : schema_of schema ≡ Some node
  pub row_fits : length (row_bytes node document.d) ≤ most_row
  pub row_is : row_bytes node document.d ≡ row

pub shredded : (schema metadata value row : List ℕ) → shred_outcome schema metadata value ≡ Ok row → Shredded schema metadata value row
unfolding shred_outcome row_outcome judged value_judged document_fits writable normal_form
shredded schema metadata value row e =
    let fitting : Bool = leb (length metadata) most_metadata && leb (length value) most_value in
    let first = require_reached _ (leb (length schema) most_schema && fitting) _ e in
    let fits = and_both (leb (length schema) most_schema) fitting first.0 in
    let fit = and_both (leb (length metadata) most_metadata) (leb (length value) most_value) fits.1 in
    let second = obtain_reached _ (dictionary_of metadata) _ first.1 in
    let third = obtain_reached _ (meaning_of most_levels second.0 value) _ second.2 in
    let d : Doc = third.0 in
    let fourth = obtain_reached _ (schema_of schema) _ third.2 in
    let node : Schema = fourth.0 in
    let fifth = require_reached _ (leb (length (normal_form d).value) most_value && leb (length (row_bytes node d)) most_row) _ fourth.2 in
    let sizes = and_both (leb (length (normal_form d).value) most_value) (leb (length (row_bytes node d)) most_row) fifth.0 in
    record {
      node = node;
      form = normal_form d;
      document =
          record {
            names = second.0;
            d = d;
            metadata_fits = leb-true (length metadata) most_metadata fit.0;
            value_fits = leb-true (length value) most_value fit.1;
            metadata_is = second.1;
            value_is = third.1;
            written_fits = leb-true (length (normal_form d).value) most_value sizes.0;
            written_is = refl;
          };
      schema_fits = leb-true (length schema) most_schema fits.0;
      schema_is = fourth.1;
      row_fits = leb-true (length (row_bytes node d)) most_row sizes.1;
      row_is = cc fifth.1;
    }

module _ {schema metadata value row : List ℕ} (s : Shredded schema metadata value row) where
  shredded_means : check_outcome metadata value ≡ Ok s.document.d
  shredded_means = accepted_means metadata value s.form s.document

  module _ (bytes : (i : ℕ) → get_or metadata i 0 < 256) where
    -- All of its row is within the limits, so what is shown of such rows holds of it.
    pub shredded_fits : RowFits s.node s.document.d
    unfolding normal_form
    shredded_fits =
        let shorter = normal_shorter metadata value s.form s.document bytes in
        let fit : length metadata ≤ most_metadata = s.document.metadata_fits in
        record {
          node_good = schema_good schema s.node s.schema_is;
          good = (accepted_writable metadata value s.form s.document bytes).good;
          value_fits = s.document.written_fits;
          metadata_fits = omega arith;
          row_fits = s.row_fits;
        }

    -- It is read back, place by place.
    pub shredded_back : row_of s.node row ≡ Some (cut_row s.node s.document.d)
    shredded_back = ap (row_of s.node) (sym s.row_is) ∙ row_back s.node s.document.d shredded_fits

    shredded_rebuilt : rebuild_outcome schema row ≡ normalise_outcome metadata value
    shredded_rebuilt =
        ap (rebuild_outcome schema) (sym s.row_is) ∙ row_rebuilt s.node s.document.d shredded_fits schema s.schema_fits s.schema_is
        ∙ ap Ok s.document.written_is ∙ sym (accepts metadata value s.form s.document)

-- It is rebuilt to the document's normal form.
pub shred_rebuilt : (schema metadata value row : List ℕ) → ((i : ℕ) → get_or metadata i 0 < 256) → shred_outcome schema metadata value ≡ Ok row
    → rebuild_outcome schema row ≡ normalise_outcome metadata value
shred_rebuilt schema metadata value row bytes e = shredded_rebuilt (shredded schema metadata value row e) bytes

-- ---- a document is shredded by what it means

-- What a document comes to under a schema.
unfoldable shredded_by : List ℕ → Doc → Outcome (List ℕ)
shredded_by schema d =
    require (leb (length schema) most_schema) TooLong
    (obtain (schema_of schema) BadSchema λ node. row_outcome node d)

means_shredded : (schema metadata value : List ℕ) (d : Doc) → check_outcome metadata value ≡ Ok d → shred_outcome schema metadata value ≡ shredded_by schema d
unfolding check_outcome shred_outcome shredded_by judged value_judged obtain
means_shredded schema metadata value d e =
    let first = require_reached _ (document_fits metadata value) _ e in
    let second = obtain_reached _ (dictionary_of metadata) _ first.1 in
    let third = obtain_reached _ (meaning_of most_levels second.0 value) _ second.2 in
    rw (first.0, and-true (leb (length schema) most_schema), second.1, third.1) (ap (shredded_by schema) (same_reached third.2))

-- So documents that mean the same have the same outcome, refusals too.
pub same_shred : (schema metadata value metadata' value' : List ℕ) (d d' : Doc) → check_outcome metadata value ≡ Ok d
    → check_outcome metadata' value' ≡ Ok d' → d ≡ d' → shred_outcome schema metadata value ≡ shred_outcome schema metadata' value'
same_shred schema metadata value metadata' value' d d' means means' same =
    means_shredded schema metadata value d means ∙ ap (shredded_by schema) same ∙ sym (means_shredded schema metadata' value' d' means')

-- What is in normal form comes to the same under any schema; so it is shredded to the same row.
pub shred_normal : (metadata value : List ℕ) (n : Document) → ((i : ℕ) → get_or metadata i 0 < 256) → normalise_outcome metadata value ≡ Ok n
    → (schema : List ℕ) → shred_outcome schema n.metadata n.value ≡ shred_outcome schema metadata value
shred_normal metadata value n bytes e schema =
    let a : Accepted metadata value n = accepted metadata value n e in
    same_shred schema n.metadata n.value metadata value a.d a.d (normal_means metadata value n a bytes) (accepted_means metadata value n a) refl

pub shred_again : (schema metadata value row : List ℕ) (n : Document) → ((i : ℕ) → get_or metadata i 0 < 256)
    → shred_outcome schema metadata value ≡ Ok row → normalise_outcome metadata value ≡ Ok n
    → shred_outcome schema n.metadata n.value ≡ Ok row
shred_again schema metadata value row n bytes e normal = shred_normal metadata value n bytes normal schema ∙ e

-- Two documents under one schema have the same row exactly when they mean the same.
pub same_shredded : (schema metadata value metadata' value' row row' : List ℕ) → ((i : ℕ) → get_or metadata i 0 < 256)
    → ((i : ℕ) → get_or metadata' i 0 < 256) → shred_outcome schema metadata value ≡ Ok row → shred_outcome schema metadata' value' ≡ Ok row'
    → (d d' : Doc) → check_outcome metadata value ≡ Ok d → check_outcome metadata' value' ≡ Ok d' → (row ≡ row') ↔ (d ≡ d')
same_shredded schema metadata value metadata' value' row row' bytes bytes' e e' d d' means means' =
    let s : Shredded schema metadata value row = shredded schema metadata value row e in
    let t : Shredded schema metadata' value' row' = shredded schema metadata' value' row' e' in
    let first : s.document.d ≡ d = same_reached (sym (shredded_means s) ∙ means) in
    let second : t.document.d ≡ d' = same_reached (sym (shredded_means t) ∙ means') in
    let node : t.node ≡ s.node = same_Some t.node s.node (sym t.schema_is ∙ s.schema_is) in
    let fits : RowFits s.node d = rw first at (shredded_fits s bytes) in
    let fits' : RowFits s.node d' = rw (node, second) at (shredded_fits t bytes') in
    let row_is : row_bytes s.node d ≡ row = rw first at s.row_is in
    let row-is' : row_bytes s.node d' ≡ row' = rw (node, second) at t.row_is in
    let same : (row_bytes s.node d ≡ row_bytes s.node d') ↔ (d ≡ d') = same_row s.node d d' fits fits' in
    rw (row_is, row-is') at same
