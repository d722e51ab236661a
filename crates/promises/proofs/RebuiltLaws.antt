-- A row that rebuild accepts: it breaks no rule, and what is written of it is lawful and means what it means.
use Rattle.std.specs.Prelude.{Option, None, Some, Ok}
use mathlib.Core.Bool.{true, ◌&&◌}
use mathlib.Core.List.{List, [], ◌∷◌}
use mathlib.Core.Path.{◌≡◌, refl, sym, ap, subst, ◌∙◌}
use Prim.Native.Nat.{ℕ, ◌-◌, ◌≤◌}
use native.Mathlib.Omega.{arith}
use borrow.Author.Tests.{leb-true, le-leb}
use lib.Dec.{leb, eqb}
use lib.ListN.{length, drop}
use Rattle.forms.proofs.LieLaws.{bytes_take, bytes_drop}
use Rattle.forms.proofs.NamesLaws.{there_used}
use Rattle.forms.proofs.NormalLaws.{require_reached, obtain_reached, short_writable, normal_back, accepted_written}
use Rattle.forms.specs.WellFormed.{well_formed, names_there}
use Rattle.frames.proofs.FrameLaws.{TwoFrames, two_frames}
use Rattle.names.proofs.NeverLongerLaws.{never_longer}
use Rattle.names.proofs.UsedLaws.{names_rise, among_used}
use Rattle.paper.proofs.WordLaws.{given_some, then_some, and_both}
use Rattle.paper.specs.Framing.{Piece, pieces_of}
use Rattle.paper.specs.Limits.{most_metadata, most_schema, most_row, most_value, most_levels}
use Rattle.paper.specs.Meaning.{Doc}
use Rattle.paper.specs.Metadata.{Dictionary, dictionary_of}
use Rattle.paper.specs.Normal.{names_used, Document, normal_form}
use Rattle.paper.specs.Operations.{check_outcome, document_fits, judged, value_judged, writable, written, normalise_outcome, row_judged, rebuild_outcome}
use Rattle.paper.specs.Rebuilding.{or_null, place_meaning, row_meaning}
use Rattle.paper.specs.Refusals.{require, obtain}
use Rattle.paper.specs.Rows.{Row, place_under, row_parts, row_of}
use Rattle.paper.specs.Rules.{row_lawful}
use Rattle.paper.specs.Schemas.{Schema, schema_of}
use Rattle.schemas.proofs.GoodLaws.{schema_good}
use Rattle.schemas.specs.Written.{good_schema}
use Rattle.promises.specs.Done.{Bytes, Means}
use Rattle.promises.proofs.DoneLaws.{one_reached}
use Rattle.promises.proofs.SoundLaws.{Sound, null_sound, place_sound}
use Rattle.promises.proofs.WalkingLaws.{nowhere}
use Rattle.std.proofs.lemmas.Option.{same_Some}

-- ---- the parts of a row that parses

record RowParts (node : Schema) (row : List ℕ) (parsed : Row) : Type 0 where
  pub metadata : List ℕ
  pub bytes : Bytes metadata
  pub short : length metadata ≤ most_metadata
  pub names_are : dictionary_of metadata ≡ Some parsed.names
  pub piece : Piece
  pub place_is : place_under node most_levels parsed.names piece ≡ Some parsed.outermost

row_parts_lem : (node : Schema) (row : List ℕ) (parsed : Row) → Bytes row → row_of node row ≡ Some parsed → RowParts node row parsed
unfolding row_of row_parts
row_parts_lem node row parsed bytes reads =
    let pieces = then_some (pieces_of row) _ reads in go pieces.0 pieces.1 pieces.2
  where
    go : (pieces : List Piece) → pieces_of row ≡ Some pieces → row_parts node pieces ≡ Some parsed → RowParts node row parsed
    go [] framed e = nowhere e
    go (first ∷ []) framed e = nowhere e
    go (first ∷ second ∷ []) framed e =
        let frames : TwoFrames row first second = two_frames row first second framed in
        let own = given_some (eqb first.tag 0x40 && leb (length first.body) most_metadata) _ e in
        let names = then_some (dictionary_of first.body) _ own.1 in
        let place = then_some (place_under node most_levels names.0 second) _ names.2 in
        let same : record { names = names.0; outermost = place.0 } ≡ parsed = same_Some _ parsed place.2 in
        record {
          metadata = first.body;
          bytes = rw frames.first_is (bytes_take (frames.end - 3) (drop 3 row) (bytes_drop 3 row bytes));
          short = leb-true (length first.body) most_metadata (and_both (eqb first.tag 0x40) _ own.0).1;
          names_are = names.1 ∙ ap (λ (r : Row). Some r.names) same;
          piece = second;
          place_is = subst (λ (r : Row). place_under node most_levels r.names second ≡ Some r.outermost) same place.1;
        }
    go (first ∷ second ∷ third ∷ more) framed e = nowhere e

-- ---- what it means is sound, and is written

-- Its names are the row's, so its normal metadata is no longer than the row's.
metadata_shorter : (metadata : List ℕ) (names : Dictionary) → dictionary_of metadata ≡ Some names → Bytes metadata → (d : Doc) → names_there names d ≡ true
    → length (normal_form d).metadata ≤ length metadata
unfolding normal_form
metadata_shorter metadata names are bytes d there =
    never_longer metadata names are bytes (names_used d) (names_rise d) (λ name in-used. there_used names d there name (sym (among_used name d) ∙ in-used))

-- A document that bytes could mean, in normal form within the limits, is read as that document.
pub form_means : (d : Doc) → well_formed most_levels d ≡ true → length (normal_form d).metadata ≤ most_metadata → length (normal_form d).value ≤ most_value
    → Means (normal_form d).metadata (normal_form d).value d
unfolding check_outcome document_fits judged value_judged require obtain
form_means d good metadata_fits value_fits =
    let back = normal_back most_levels d (short_writable most_levels d good (unfold normal_form in value_fits) (unfold normal_form in metadata_fits)) in
    rw (le-leb (length (normal_form d).metadata) most_metadata metadata_fits, le-leb (length (normal_form d).value) most_value value_fits, back.0, back.1)

row_sound : (node : Schema) (row : List ℕ) (parsed : Row) → good_schema node most_levels ≡ true → RowParts node row parsed → row_lawful node parsed ≡ true
    → Sound parsed.names most_levels (row_meaning node parsed)
unfolding row_lawful row_meaning or_null
row_sound node row parsed good parts lawful = go (place_meaning node parsed.outermost) refl
  where
    go : (x : Option Doc) → place_meaning node parsed.outermost ≡ x → Sound parsed.names most_levels (or_null x)
    go None is = null_sound parsed.names most_levels (omega arith)
    go (Some d) is = place_sound parsed.names node most_levels good parts.piece parsed.outermost parts.place_is lawful d is

pub record Rebuilt (node : Schema) (parsed : Row) (form : Document) : Type 0 where
  pub lawful : row_lawful node parsed ≡ true
  pub is_written : written (row_meaning node parsed) ≡ Ok form
  pub means : Means form.metadata form.value (row_meaning node parsed)

pub row_rebuilds : (schema row : List ℕ) (form : Document) → Bytes row → rebuild_outcome schema row ≡ Ok form → (node : Schema) (parsed : Row)
    → schema_of schema ≡ Some node → row_of node row ≡ Some parsed → Rebuilt node parsed form
unfolding rebuild_outcome row_judged written writable obtain
row_rebuilds schema row form bytes e node parsed is reads =
    let first = require_reached _ (leb (length schema) most_schema && leb (length row) most_row) _ e in
    let second = require_reached _ (row_lawful node parsed) _ (rw (is, reads) at first.1) in
    let d : Doc = row_meaning node parsed in
    let third = require_reached _ (leb (length (normal_form d).value) most_value) _ second.1 in
    let parts = row_parts_lem node row parsed bytes reads in
    let sound = row_sound node row parsed (schema_good schema node is) parts second.0 in
    let shorter = metadata_shorter parts.metadata parsed.names parts.names_are parts.bytes d sound.there in
    let short = parts.short in
    record {
      lawful = second.0;
      is_written = second.1;
      means =
          rw (← one_reached third.1)
          (form_means d sound.good (omega arith) (leb-true (length (normal_form d).value) most_value third.0));
    }

-- It is in normal form.
pub rebuilt_again : (schema row : List ℕ) (form : Document) → Bytes row → rebuild_outcome schema row ≡ Ok form
    → normalise_outcome form.metadata form.value ≡ Ok form
unfolding rebuild_outcome row_judged
rebuilt_again schema row form bytes e =
    let first = require_reached _ (leb (length schema) most_schema && leb (length row) most_row) _ e in
    let second = obtain_reached _ (schema_of schema) _ first.1 in
    let third = obtain_reached _ (row_of second.0 row) _ second.2 in
    let r = row_rebuilds schema row form bytes e second.0 third.0 second.1 third.1 in
    accepted_written form.metadata form.value (row_meaning second.0 third.0) r.means ∙ r.is_written
