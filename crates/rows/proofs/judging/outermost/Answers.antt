-- `outermost`: the place under the whole schema, which stands at its start.
use Rattle.rows.proofs.JudgeLaws.{ready_node, walked}
use Rattle.rows.proofs.judging.outermost.Goals as goal

pub place-requires : goal.place-requires
place-requires c = let pre = c.requires in (ready_node pre.0 pre.1, pre.0.small)

pub returns : goal.returns
returns c = let pre = c.requires in walked pre.0 pre.1 _ c.place.ensures
