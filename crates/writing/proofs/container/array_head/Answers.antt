-- `array_head`: the offsets, then the count and the first byte in front of them.
use native.Mathlib.Omega.{arith}
use borrow.Author.Rules.{rules}
use Rattle.writing.proofs.HeadLaws.{start_behind, offsets_fit, offsets_before, array_opens, array_headed}
use Rattle.writing.proofs.container.array_head.Goals as goal

pub write_offsets-offsets-requires : goal.write_offsets-offsets-requires
write_offsets-offsets-requires c = search (rules, offsets_fit)

pub opened-requires : goal.opened-requires
opened-requires c = let pre = c.requires in
    let width_is = c.width_of-width.ensures.0 in
    let behind = start_behind pre.0 in
    let before = offsets_before pre.0 _ 0 _ width_is pre.3 c.write_offsets-offsets.ensures in
    (search rules, array_opens pre.0 _ 0 _ width_is pre.3 c.write_offsets-offsets.ensures, omega arith)

pub returns : goal.returns
returns c = search (rules, array_headed)
