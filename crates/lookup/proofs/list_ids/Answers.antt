use borrow.Author.Rules.{rules}
use Rattle.lookup.proofs.IdLaws.{list_start, list_next, list_done}
use Rattle.lookup.proofs.list_ids.Goals as goal

pub loop-i-init : goal.loop-i-init
loop-i-init c = list_start _

pub loop-i-preserved : goal.loop-i-preserved
loop-i-preserved c = search (rules, list_next)

pub returns : goal.returns
returns c = search (rules, list_done)
