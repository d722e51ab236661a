-- `judge`: opened, walked, and the verdict told with what was read.
use Rattle.std.proofs.lemmas.Result.{err_from_is_err_and}
use Rattle.rows.proofs.JudgeLaws.{was_opened, judged_cut, judged_ready, judged_lawful, judged_broken, judged_unparsed}
use Rattle.rows.proofs.judging.judge.Goals as goal

pub returns-in_err-opened : goal.returns-in_err-opened
returns-in_err-opened c =
    let p = err_from_is_err_and c.from_residual.result c.from_residual.ensures.1 in
    rw (p.1, p.2) (judged_cut c.open_row.ensures c.in_err-opened.ensures.value _)

pub walk_indexed-requires : goal.walk_indexed-requires
walk_indexed-requires c = let pre = c.requires in
    judged_ready c.open_row.ensures (was_opened _ c.in_ok-opened.ensures.value) pre.0 pre.1 pre.2

pub returns-in-Lawful : goal.returns-in-Lawful
returns-in-Lawful c = judged_lawful c.open_row.ensures (was_opened _ c.in_ok-opened.ensures.value) c.walk_indexed.ensures c.in-Lawful.is

pub returns-in-Broken : goal.returns-in-Broken
returns-in-Broken c = judged_broken c.open_row.ensures (was_opened _ c.in_ok-opened.ensures.value) c.walk_indexed.ensures c.in-Broken.is

pub returns-in-Unparsed : goal.returns-in-Unparsed
returns-in-Unparsed c = judged_unparsed c.open_row.ensures (was_opened _ c.in_ok-opened.ensures.value) c.walk_indexed.ensures c.in-Unparsed.is
