-- `plainly_lawful`: the two answers that may be `true` by their laws; to an answer `false` nothing is asked.
use mathlib.Core.Path.{sym}
use borrow.Author.Rules.{rules}
use Rattle.documents.proofs.QuickLaws.{short_lawful, long_lawful}
use Rattle.paper.proofs.WordLaws.{never}
use Rattle.documents.proofs.plainly_lawful.Goals as goal

pub returns-then-is_empty : goal.returns-then-is_empty
returns-then-is_empty c = λ e. never (sym e)

pub returns-then-first-eq1 : goal.returns-then-first-eq1
returns-then-first-eq1 c = search (rules, short_lawful)

pub returns-then-first-ne64 : goal.returns-then-first-ne64
returns-then-first-ne64 c = λ e. never (sym e)

pub returns-then-value-lt5 : goal.returns-then-value-lt5
returns-then-value-lt5 c = λ e. never (sym e)

pub returns : goal.returns
returns c = search (rules, long_lawful)
