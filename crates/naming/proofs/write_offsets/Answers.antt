use native.Mathlib.Omega.{arith}
use borrow.Author.Rules.{rules}
use Rattle.naming.proofs.ChosenLaws.{name_asks}
use Rattle.naming.proofs.LoopLaws.{offsets_start, offset_room, offsets_next, offsets_done}
use Rattle.naming.proofs.write_offsets.Goals as goal

pub loop-i-init : goal.loop-i-init
loop-i-init c = search (rules, offsets_start)

pub write-requires : goal.write-requires
write-requires c = search (rules, offset_room)

pub name_of-requires : goal.name_of-requires
name_of-requires c = name_asks c.requires.0 _ (omega arith)

pub overflow_add-at : goal.overflow_add-at
overflow_add-at c = search (rules, offset_room)

pub loop-i-preserved : goal.loop-i-preserved
loop-i-preserved c = search (rules, offsets_next)

pub write-requires-2 : goal.write-requires-2
write-requires-2 c = search (rules, offset_room)

pub returns : goal.returns
returns c = search (rules, offsets_done)
