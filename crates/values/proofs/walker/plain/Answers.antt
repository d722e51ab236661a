-- `plain`: by the kind, then by the type.
use borrow.Author.Rules.{rules}
use Rattle.values.proofs.PlainLaws.{plain_short, plain_container, plain_low, plain_decimal, plain_high}
use Rattle.values.proofs.walker.plain.Goals as goal

pub returns-in-0-to-7 : goal.returns-in-0-to-7
returns-in-0-to-7 c = search (rules, plain_low)

pub returns-in-8-to-10 : goal.returns-in-8-to-10
returns-in-8-to-10 c = search (rules, plain_decimal)

pub returns-in_default : goal.returns-in_default
returns-in_default c = search (rules, plain_container)

pub returns-in_default-2 : goal.returns-in_default-2
returns-in_default-2 c = search (rules, plain_high)

pub returns-in-1 : goal.returns-in-1
returns-in-1 c = search (rules, plain_short)
