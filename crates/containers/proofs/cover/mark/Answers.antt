use borrow.Author.Rules.{rules}
use Rattle.containers.proofs.MarkLaws.{marks_start, mark_inside, marks_next, marks_done}
use Rattle.containers.proofs.cover.mark.Goals as goal

pub loop-i-init : goal.loop-i-init
loop-i-init c = marks_start _ _

pub set_bit-requires : goal.set_bit-requires
set_bit-requires c = search (rules, mark_inside)

pub loop-i-preserved : goal.loop-i-preserved
loop-i-preserved c = search (rules, marks_next)

pub returns : goal.returns
returns c = search (rules, marks_done)
