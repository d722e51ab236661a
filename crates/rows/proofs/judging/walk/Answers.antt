-- `walk`: the names sorted where they need it, the ids of the fields found, the outermost place walked.
use borrow.Author.Rules.{rules}
use Rattle.rows.proofs.JudgeLaws.{ready_after}
use Rattle.rows.proofs.judging.walk.Goals as goal

pub sort_names-requires : goal.sort_names-requires
sort_names-requires c = let pre = c.requires in (pre.0.few, pre.1)

pub fill-requires : goal.fill-requires
fill-requires c = let pre = c.requires in (pre.0.good, pre.0.tabled, pre.0.few, c.sort_names.ensures)

pub outermost-requires : goal.outermost-requires
outermost-requires c = let pre = c.requires in
    (ready_after pre.0 _ (search rules), c.fill.ensures)
