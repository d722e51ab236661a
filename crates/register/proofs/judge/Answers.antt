-- `judge`: a row that was judged lawful is good.
use Rattle.register.proofs.RowAnswers.{row_good}
use Rattle.register.proofs.judge.Goals as goal

pub returns : goal.returns
returns c = let judged = c.in_ok-judge_row.ensures in rw judged.1 at (row_good judged.0)
