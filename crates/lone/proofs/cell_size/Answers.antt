-- `cell_size`: by the code, and a string by its length.
use borrow.Author.Rules.{rules}
use Rattle.lone.proofs.LoneLaws.{boolean_size, short_size, long_size, binary_size, plain_size}
use Rattle.lone.proofs.cell_size.Goals as goal

pub returns-in-1 : goal.returns-in-1
returns-in-1 c = search (rules, boolean_size)

pub returns-in-16 : goal.returns-in-16
returns-in-16 c = search (rules, short_size)

pub returns-in-16-2 : goal.returns-in-16-2
returns-in-16-2 c = search (rules, long_size)

pub returns-in-15 : goal.returns-in-15
returns-in-15 c = search (rules, binary_size)

pub returns-in_default : goal.returns-in_default
returns-in_default c = search (rules, plain_size)
