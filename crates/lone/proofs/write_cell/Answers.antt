-- `write_cell`: by its code.
use borrow.Author.Rules.{rules}
use Rattle.cells.proofs.CellLaws.{yes_no-some}
use Rattle.lone.proofs.LoneLaws.{boolean_fits, short_fits, long_fits, binary_fits, plain_fits, first_small, wrote_true, wrote_false, wrote_short, wrote_long, wrote_binary, wrote_plain}
use Rattle.lone.proofs.write_cell.Goals as goal

pub bounds-s-0 : goal.bounds-s-0
bounds-s-0 c = search (rules, yes_no-some)

pub write-requires : goal.write-requires
write-requires c = search (rules, boolean_fits)

pub returns-in-1 : goal.returns-in-1
returns-in-1 c = search (rules, wrote_true)

pub write-requires-in-1-2 : goal.write-requires-in-1-2
write-requires-in-1-2 c = search (rules, boolean_fits)

pub returns-in-1-2 : goal.returns-in-1-2
returns-in-1-2 c = search (rules, wrote_false)

pub headed-requires : goal.headed-requires
headed-requires c = search (rules, short_fits)

pub returns-in-16 : goal.returns-in-16
returns-in-16 c = search (rules, wrote_short)

pub prefixed-requires : goal.prefixed-requires
prefixed-requires c = search (rules, long_fits)

pub returns-in-16-2 : goal.returns-in-16-2
returns-in-16-2 c = search (rules, wrote_long)

pub prefixed-requires-in-15 : goal.prefixed-requires-in-15
prefixed-requires-in-15 c = search (rules, binary_fits)

pub returns-in-15 : goal.returns-in-15
returns-in-15 c = search (rules, wrote_binary)

pub headed-requires-in_default : goal.headed-requires-in_default
headed-requires-in_default c = search (rules, first_small, plain_fits)

pub returns-in_default : goal.returns-in_default
returns-in_default c = search (rules, wrote_plain)
