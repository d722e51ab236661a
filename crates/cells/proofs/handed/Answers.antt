-- `handed`: by kind; the bytes are good, so they have the size of their type.
use native.Mathlib.Omega.{arith}
use borrow.Author.Rules.{rules}
use Rattle.cells.proofs.CellLaws.{yes_no-some, yes_no-read, bytes_read, number_asked, number_read}
use Rattle.cells.proofs.handed.Goals as goal

pub bounds-bytes-0 : goal.bounds-bytes-0
bounds-bytes-0 c = search (rules, yes_no-some)

pub returns-in-1 : goal.returns-in-1
returns-in-1 c = search yes_no-read

pub returns-in-15 : goal.returns-in-15
returns-in-15 c = bytes_read _ _ c.requires.1 (omega arith) (omega arith)

pub number_cell-requires : goal.number_cell-requires
number_cell-requires c = number_asked _ _ c.requires.1 c.requires.0 (omega arith) (omega arith) (omega arith)

pub returns-in_default : goal.returns-in_default
returns-in_default c = number_read _ _ c.requires.1 (omega arith) (omega arith) (omega arith) c.number_cell.ensures
