use borrow.Author.Rules.{rules}
use Rattle.writing.proofs.OffsetLoopLaws.{offsets_start, child_behind, place_room, place_fits, last_behind, child_fits, offsets_next, offsets_lost, offsets_done}
use Rattle.writing.proofs.offsets.write_offsets.Goals as goal

pub loop-init : goal.loop-init
loop-init c = search (rules, offsets_start)

pub overflow_sub-child : goal.overflow_sub-child
overflow_sub-child c = search (rules, child_behind)

pub write-requires : goal.write-requires
write-requires c = search (rules, place_room)

pub returns-in_default : goal.returns-in_default
returns-in_default c = offsets_lost c.loop.invariant c.write.ensures c.loop-test.true _ c.child_extent.ensures c.in_default.is

pub overflow_add-child : goal.overflow_add-child
overflow_add-child c = child_fits c.loop.invariant c.requires.0 _ c.write.ensures c.loop-test.true _
    c.child_extent.ensures _ c.in-Some.is (search rules)

pub overflow_add-place : goal.overflow_add-place
overflow_add-place c = search (rules, place_fits)

pub loop-preserved : goal.loop-preserved
loop-preserved c = offsets_next c.loop.invariant c.write.ensures c.loop-test.true _ c.child_extent.ensures
    c.requires.0 _ c.in-Some.is

pub overflow_sub-end : goal.overflow_sub-end
overflow_sub-end c = search (rules, last_behind)

pub write-requires-2 : goal.write-requires-2
write-requires-2 c = search (rules, place_room)

pub returns : goal.returns
returns c = search (rules, offsets_done)
