-- `column_good`: by the body's length, then by the code.
use borrow.Author.Rules.{rules}
use Rattle.schemas.proofs.NodeLaws.{column_other, column_one}
use Rattle.schemas.proofs.judge.column_good.Goals as goal

pub returns-else-to-from-eq1 : goal.returns-else-to-from-eq1
returns-else-to-from-eq1 c = search (rules, column_other)

pub returns-then-to-from-eq1 : goal.returns-then-to-from-eq1
returns-then-to-from-eq1 c = search (rules, column_one)
