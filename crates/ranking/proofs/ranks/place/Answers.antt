use borrow.Author.Rules.{rules}
use Rattle.ranking.proofs.PlaceLaws.{place_start, place_inside, place_next, place_done}
use Rattle.ranking.proofs.ranks.place.Goals as goal

pub loop-i-init : goal.loop-i-init
loop-i-init c = place_start _ _

pub set_normal-requires : goal.set_normal-requires
set_normal-requires c = search (rules, place_inside)

pub loop-i-preserved : goal.loop-i-preserved
loop-i-preserved c = search (rules, place_next)

pub returns : goal.returns
returns c = search (rules, place_done)
