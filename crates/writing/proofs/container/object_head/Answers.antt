-- `object_head`: the offsets, the ids in front of them, then the count and the first byte.
use mathlib.Core.Path.{sym, ap, ◌∙◌}
use native.Mathlib.Omega.{arith}
use Rattle.numbers.specs.Little.{smallest_width}
use Rattle.writing.proofs.IdLaws.{ranks_length}
use Rattle.writing.proofs.HeadLaws.{counted, start_behind, offsets_fit, offsets_before, ids_fit, object_opens, object_headed}
use Rattle.writing.proofs.container.object_head.Goals as goal

pub write_offsets-offsets-requires : goal.write_offsets-offsets-requires
write_offsets-offsets-requires c = let head = counted c.requires.room.0 c.requires.room.3 _ c.len-count.ensures in
    let wide = c.width_of-offset_width.ensures in
    (head.lying, wide.1, wide.2, offsets_fit head.lying _ _ _ wide.0 head.fits, rw c.len-count.ensures c.requires.room.1, c.requires.room.2)

pub write_ids-named-requires : goal.write_ids-named-requires
write_ids-named-requires c = let head = counted c.requires.room.0 c.requires.room.3 _ c.len-count.ensures in
    let wide = c.width_of-id_width.ensures in
    let width_is = c.width_of-offset_width.ensures.0 in
    let offsets = c.write_offsets-offsets.ensures in
    let behind = start_behind head.lying in
    let before = offsets_before head.lying _ _ _ width_is head.fits offsets in
    let fit = ids_fit head.lying _ _ _ width_is head.fits offsets _ (wide.0 ∙ ap smallest_width c.largest_of.ensures) in
    (c.requires.ranked, wide.1, wide.2, rw (← c.len-count.ensures) fit, omega arith)

pub opened-requires : goal.opened-requires
opened-requires c = let head = counted c.requires.room.0 c.requires.room.3 _ c.len-count.ensures in
    let wide = c.width_of-offset_width.ensures in
    let wide-too = c.width_of-id_width.ensures in
    let offsets = c.write_offsets-offsets.ensures in
    let ids = c.write_ids-named.ensures in
    let behind = start_behind head.lying in
    let before = offsets_before head.lying _ _ _ wide.0 head.fits offsets in
    let size = ids.size in
    let id_is = wide-too.0 ∙ ap smallest_width c.largest_of.ensures in
    (omega arith, object_opens head.lying _ _ _ wide.0 head.fits offsets _ id_is _ (ranks_length _ _ ∙ sym c.len-count.ensures) ids, omega arith)

pub returns : goal.returns
returns c = λ parts lie same. object_headed _ _ c.width_of-offset_width.ensures.0 c.requires.room.2 c.write_offsets-offsets.ensures _ _
    (c.width_of-id_width.ensures.0 ∙ ap smallest_width c.largest_of.ensures) c.write_ids-named.ensures c.opened.ensures parts lie (same ∙ sym c.len-count.ensures)
