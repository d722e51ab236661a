use borrow.Author.Rules.{rules}
use Rattle.marking.proofs.RunLaws.{run_start, run_inside, run_marked, run_done}
use Rattle.marking.proofs.mark_run.Goals as goal

pub loop-i-init : goal.loop-i-init
loop-i-init c = run_start _ _

pub mark_id-requires : goal.mark_id-requires
mark_id-requires c = search (rules, run_inside)

pub loop-i-preserved : goal.loop-i-preserved
loop-i-preserved c = search (rules, run_marked)

pub returns : goal.returns
returns c = search (rules, run_done)
