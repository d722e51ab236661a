use mathlib.Core.Path.{◌∙◌}
use native.Mathlib.Omega.{arith}
use borrow.Author.Rules.{rules}
use Rattle.order.proofs.OrderLaws.{order_by_lengths, order_lower, order_higher}
use Rattle.order.proofs.AgreedLaws.{agreed_one}
use Rattle.order.proofs.compare.Goals as goal

pub returns-then-x-y : goal.returns-then-x-y
returns-then-x-y c = search (rules, order_lower)

pub returns-then-y-x : goal.returns-then-y-x
returns-then-y-x c = search (rules, order_higher)

pub loop-i-preserved : goal.loop-i-preserved
loop-i-preserved c = agreed_one _ _ _ c.loop-i.invariant (omega arith) (omega arith) (omega arith)

pub returns : goal.returns
returns c = c.cmp.ensures ∙ order_by_lengths _ _ _ c.loop-i.invariant.behind c.loop-i.invariant.in_first c.loop-i.invariant.in_second (omega arith)
