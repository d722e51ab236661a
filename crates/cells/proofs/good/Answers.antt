-- `good`: each kind of body by its own test.
use native.Mathlib.Omega.{arith}
use borrow.Author.Rules.{rules}
use Rattle.cells.proofs.CellLaws.{yes_no-size, yes_no-content, bytes_good, sized_good}
use Rattle.cells.proofs.CodeLaws.{code_most}
use Rattle.cells.proofs.good.Goals as goal

pub returns-then-bytes-eq1 : goal.returns-then-bytes-eq1
returns-then-bytes-eq1 c = search yes_no-content

pub returns-else-bytes-eq1 : goal.returns-else-bytes-eq1
returns-else-bytes-eq1 c = search yes_no-size

pub returns-in-15 : goal.returns-in-15
returns-in-15 c = bytes_good _ _ (omega arith) (omega arith)

pub payload_size-requires : goal.payload_size-requires
payload_size-requires c = search (rules, code_most)

pub returns-in_default : goal.returns-in_default
returns-in_default c = sized_good _ _ (omega arith) (omega arith) (omega arith) _ c.payload_size.ensures
