-- Demand 3 shown: by the laws of what shred writes (`written`) and of normal form (`forms`), wherever the buffers are long enough.
use mathlib.Core.Path.{sym, ◌∙◌}
use Rattle.forms.proofs.NormalLaws.{normal_again, same_meaning}
use Rattle.paper.specs.Operations.{normalise_outcome, shred_outcome, rebuild_outcome}
use Rattle.written.proofs.ShredLaws.{shred_rebuilt, shred_again, same_shredded}
use Rattle.promises.specs.OneRow.{SameRowSameMeaning, OneDocument, RebuiltNormal, RowAgain, NormalAgain, SameFormSameMeaning}
use Rattle.promises.proofs.DoneLaws.{one_reached, document_reached, reached_document, row_reached, reached_row}
use Rattle.promises.proofs.RebuiltLaws.{rebuilt_again}

pub same_row_same_meaning : SameRowSameMeaning
same_row_same_meaning schema metadata value metadata' value' row row' room room' bytes bytes' shreds shreds' =
    same_shredded schema metadata value metadata' value' row row' bytes bytes'
    (row_reached (shred_outcome schema metadata value) room row shreds).0
    (row_reached (shred_outcome schema metadata' value') room' row' shreds').0

pub one_document : OneDocument
one_document schema row metadata_room value_room metadata_room' value_room' form form' rebuilds rebuilds' =
    one_reached
    (sym (document_reached (rebuild_outcome schema row) metadata_room value_room form rebuilds).0
    ∙ (document_reached (rebuild_outcome schema row) metadata_room' value_room' form' rebuilds').0)

pub rebuilt_normal : RebuiltNormal
rebuilt_normal schema row metadata_room value_room form bytes rebuilds =
    let is = document_reached (rebuild_outcome schema row) metadata_room value_room form rebuilds in
    reached_document (normalise_outcome form.metadata form.value) metadata_room value_room form (rebuilt_again schema row form bytes is.0) is.1

pub row_again : RowAgain
row_again schema metadata value row room metadata_room value_room form bytes shreds rebuilds =
    let is = row_reached (shred_outcome schema metadata value) room row shreds in
    let rebuilt = document_reached (rebuild_outcome schema row) metadata_room value_room form rebuilds in
    let normal = sym (shred_rebuilt schema metadata value row bytes is.0) ∙ rebuilt.0 in
    reached_row (shred_outcome schema form.metadata form.value) room row
    (shred_again schema metadata value row form bytes is.0 normal) is.1

pub normal_form-again : NormalAgain
normal_form-again metadata value metadata_room value_room form bytes normalises =
    let is = document_reached (normalise_outcome metadata value) metadata_room value_room form normalises in
    reached_document (normalise_outcome form.metadata form.value) metadata_room value_room form
    (normal_again metadata value form bytes is.0) is.1

pub same_form_same_meaning : SameFormSameMeaning
same_form_same_meaning metadata value metadata' value' metadata_room value_room metadata_room' value_room' form form' bytes bytes' normalises normalises' =
    same_meaning metadata value metadata' value' bytes bytes' form form'
    (document_reached (normalise_outcome metadata value) metadata_room value_room form normalises).0
    (document_reached (normalise_outcome metadata' value') metadata_room' value_room' form' normalises').0
