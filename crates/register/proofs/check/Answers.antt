-- `check`: by what the judging of the document says.
use borrow.Author.Rules.{rules}
use Rattle.register.proofs.DocumentAnswers.{check_good, check_refused}
use Rattle.register.proofs.check.Goals as goal

pub returns-in_err-judge : goal.returns-in_err-judge
returns-in_err-judge c = search (rules, check_refused)

pub returns : goal.returns
returns c = check_good _ _ _ c.judge.ensures _ c.in_ok-judge.was
