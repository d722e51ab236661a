-- Demand 5 shown: from the demands before it, and by computing.
use Rattle.std.specs.Prelude.{Some}
use mathlib.Core.Bool.{true, false}
use mathlib.Core.List.{List}
use mathlib.Core.Path.{◌≡◌, refl, sym, ap, ◌∙◌}
use Prim.Native.Nat.{ℕ}
use lib.ListN.{length, take}
use Rattle.forms.proofs.NormalLaws.{accepted_means, accepted_written, same_reached, require_reached}
use Rattle.paper.proofs.WordLaws.{never}
use Rattle.paper.specs.Lots.{AllHold}
use Rattle.paper.specs.Meaning.{Doc, null, scalar, array, object}
use Rattle.paper.specs.Normal.{Document, normal_form}
use Rattle.paper.specs.Operations.{writable, written, normalise_outcome, shred_outcome}
use Rattle.paper.specs.Refusals.{Outcome}
use Rattle.paper.specs.Running.{running}
use Rattle.paper.specs.Rows.{row_of}
use Rattle.paper.specs.Rules.{has_typed, has_leftover}
use Rattle.paper.specs.Schemas.{Column, column}
use Rattle.paper.specs.Shredding.{cut, row_bytes}
use Rattle.written.proofs.ColumnLaws.{taken_typed}
use Rattle.written.proofs.ShredLaws.{Shredded, shredded}
use Rattle.written.specs.Everywhere.{takes_doc}
use Rattle.written.specs.Fitting.{cut_row}
use Rattle.promises.specs.Buffers.{ComeFirst, DocumentStands, RowStands}
use Rattle.promises.specs.ShutOut.{every_kind, encodings, box_names, box_value, EveryDocumentAccepted, EveryKindAccepted, ReadersAccept, NoFixedRow, NoCopy, EncodingsOneRow, NotLeftOver, DoneRowWritten, DoneFormWritten}
use Rattle.promises.specs.Columns.{ReadBack}
use Rattle.promises.proofs.Buffers.{row_done, documents_done}
use Rattle.promises.proofs.Columns.{row_reads_back}
use Rattle.promises.proofs.DoneLaws.{one_reached}
use Rattle.promises.proofs.OneRow.{same_row_same_meaning}
use Rattle.promises.proofs.RebuiltLaws.{form_means}
use Rattle.std.proofs.lemmas.Option.{same_Some}

-- ---- refusing everything

pub every_document_accepted : EveryDocumentAccepted
every_document_accepted = form_means

pub every_kind-accepted : EveryKindAccepted
unfolding running AllHold every_kind
every_kind-accepted = (refl, (refl, (refl, (refl, (refl, (refl, (refl, (refl, (refl, (refl, (refl, (refl, (refl, (refl, (refl, (refl, (refl, (refl, (refl, (refl, (refl, (refl, (refl, (refl, (refl, (refl, (refl, (refl, (refl, tt)))))))))))))))))))))))))))))

pub readers_accept : ReadersAccept
unfolding running box_names box_value
readers_accept = (refl, refl, refl)

-- ---- one fixed row, copying

pub no_fixed_row : NoFixedRow
no_fixed_row schema metadata value metadata' value' row row' room room' bytes bytes' shreds shreds' d d' means means' differ same =
    differ ((same_row_same_meaning schema metadata value metadata' value' row row' room room' bytes bytes' shreds shreds' d d' means means').0 same)

pub no_copy : NoCopy
no_copy schema metadata value metadata' value' row row' room room' bytes bytes' shreds shreds' d means means' =
    (same_row_same_meaning schema metadata value metadata' value' row row' room room' bytes bytes' shreds shreds' d d means means').1 refl

pub encodings_one_row : EncodingsOneRow
unfolding running AllHold encodings
encodings_one_row = (refl, (refl, (refl, tt)))

-- ---- everything left over

taken_cut : (said : Column) (d : Doc) → takes_doc said d ≡ true → (has_typed (cut (column said) d) ≡ true) × (has_leftover (cut (column said) d) ≡ false)
unfolding takes_doc has_typed has_leftover
taken_cut said null taken = never (sym taken)
taken_cut said (scalar value) taken = let is = taken_typed said value taken in (rw is, rw is)
taken_cut said (array ds) taken = never (sym taken)
taken_cut said (object fs) taken = never (sym taken)

pub not_left_over : NotLeftOver
not_left_over schema metadata value row room bytes shreds said d parsed is means reads taken =
    let back : ReadBack schema metadata value row = row_reads_back schema metadata value row room bytes shreds in
    let node : back.node ≡ column said = same_Some back.node (column said) (sym back.schema_is ∙ is) in
    let own : back.d ≡ d = same_reached (sym back.means ∙ means) in
    let read : row_of (column said) row ≡ Some (cut_row (column said) d) = rw (node, own) at back.reads in
    let same : cut_row (column said) d ≡ parsed = same_Some (cut_row (column said) d) parsed (sym read ∙ reads) in
    rw (← same) (taken_cut said d taken)

-- ---- nothing written, or an invented length

stand_first : {bytes before after : List ℕ} {size : ℕ} → size ≡ length bytes → ComeFirst bytes before after → take size after ≡ bytes
stand_first {after = after} e come = ap (λ (n : ℕ). take n after) e ∙ come.first

pub done-row_written : DoneRowWritten
done-row_written schema metadata value before size done node d is means =
    let outcome : Outcome (List ℕ) = shred_outcome schema metadata value in
    let stands : RowStands outcome before size = row_done outcome before size done in
    let s : Shredded schema metadata value stands.row = shredded schema metadata value stands.row stands.is_reached in
    let its_node : s.node ≡ node = same_Some s.node node (sym s.schema_is ∙ is) in
    let its-doc : s.document.d ≡ d = same_reached (sym (accepted_means metadata value s.form s.document) ∙ means) in
    let row_is : row_bytes node d ≡ stands.row = rw (its_node, its-doc) at s.row_is in
    rw row_is (stands.row_size, stand_first stands.row_size stands.row_first)

pub done_form_written : DoneFormWritten
unfolding written
done_form_written metadata value metadata_before value_before metadata_size_here value_size_here done d means =
    let outcome : Outcome Document = normalise_outcome metadata value in
    let stands : DocumentStands outcome metadata_before value_before metadata_size_here value_size_here =
    documents_done outcome metadata_before value_before metadata_size_here value_size_here done in
    let is : normal_form d ≡ stands.document =
    one_reached (require_reached _ (writable d) _ (sym (accepted_written metadata value d means) ∙ stands.is_reached)).1 in
    rw is (stand_first stands.metadata_size stands.metadata_first, stand_first stands.value_size stands.value_first)
