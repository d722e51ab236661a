use borrow.Author.Rules.{rules}
use Rattle.cutting.proofs.PassLaws.{pass_start, pass_there, pass_stops, pass_ends, pass_next}
use Rattle.cutting.proofs.passing.not_below.Goals as goal

pub loop-k-init : goal.loop-k-init
loop-k-init c = search (rules, pass_start)

pub id_at-requires : goal.id_at-requires
id_at-requires c = search (rules, pass_there)

pub returns-then-id-id_at : goal.returns-then-id-id_at
returns-then-id-id_at c = search (rules, pass_stops)

pub loop-k-preserved : goal.loop-k-preserved
loop-k-preserved c = search (rules, pass_next)

pub returns : goal.returns
returns c = search (rules, pass_ends)
