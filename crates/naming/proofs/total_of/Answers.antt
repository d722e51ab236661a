use native.Mathlib.Omega.{arith}
use borrow.Author.Rules.{rules}
use Rattle.naming.proofs.ChosenLaws.{name_asks}
use Rattle.naming.proofs.LoopLaws.{summed_start, summed_next, summed_done}
use Rattle.naming.proofs.total_of.Goals as goal

pub loop-i-init : goal.loop-i-init
loop-i-init c = summed_start _ _

pub name_of-requires : goal.name_of-requires
name_of-requires c = name_asks c.requires _ (omega arith)

pub loop-i-preserved : goal.loop-i-preserved
loop-i-preserved c = search (rules, summed_next)

pub returns : goal.returns
returns c = search (rules, summed_done)
