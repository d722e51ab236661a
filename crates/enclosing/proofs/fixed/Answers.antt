-- `fixed`: by the column's code and the value's type.
use borrow.Author.Rules.{rules}
use Rattle.enclosing.proofs.ColumnLaws.{fixed_true, fixed_false, fixed_other, fixed_typed, fixed_left}
use Rattle.enclosing.proofs.fixed.Goals as goal

pub returns-then-kind-eq1 : goal.returns-then-kind-eq1
returns-then-kind-eq1 c = search (rules, fixed_true)

pub returns-then-kind-eq2 : goal.returns-then-kind-eq2
returns-then-kind-eq2 c = search (rules, fixed_false)

pub returns-then-code-eq1 : goal.returns-then-code-eq1
returns-then-code-eq1 c = search (rules, fixed_other)

pub returns-then-wide-kind : goal.returns-then-wide-kind
returns-then-wide-kind c = search (rules, fixed_typed)

pub returns : goal.returns
returns c = search (rules, fixed_left)
