-- `cell`: by its code.
use borrow.Author.Rules.{rules}
use Rattle.cells.proofs.CellLaws.{yes_no-some}
use Rattle.putting.proofs.ScalarLaws.{first_small, cell_true, cell_false, cell_text, cell_binary, cell_plain}
use Rattle.putting.proofs.scalars.cell.Goals as goal

pub bounds-s-0 : goal.bounds-s-0
bounds-s-0 c = search (rules, yes_no-some)

pub returns-in-1 : goal.returns-in-1
returns-in-1 c = search (rules, cell_true)

pub returns-in-1-2 : goal.returns-in-1-2
returns-in-1-2 c = search (rules, cell_false)

pub returns-in-16 : goal.returns-in-16
returns-in-16 c = search (rules, cell_text)

pub returns-in-15 : goal.returns-in-15
returns-in-15 c = search (rules, cell_binary)

pub headed-requires : goal.headed-requires
headed-requires c = search (rules, first_small)

pub returns-in_default : goal.returns-in_default
returns-in_default c = search (rules, cell_plain)
