use native.Mathlib.Omega.{arith}
use borrow.Author.Rules.{rules}
use Rattle.naming.proofs.ChosenLaws.{name_asks}
use Rattle.naming.proofs.LoopLaws.{names_start, name_room, names_on, names_done}
use Rattle.naming.proofs.write_names.Goals as goal

pub loop-i-init : goal.loop-i-init
loop-i-init c = search (rules, names_start)

pub name_of-name-requires : goal.name_of-name-requires
name_of-name-requires c = name_asks c.requires.0 _ (omega arith)

pub put-requires : goal.put-requires
put-requires c = search (rules, name_room)

pub overflow_add-at : goal.overflow_add-at
overflow_add-at c = search (rules, name_room)

pub loop-i-preserved : goal.loop-i-preserved
loop-i-preserved c = search (rules, names_on)

pub returns : goal.returns
returns c = search (rules, names_done)
