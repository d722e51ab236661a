-- `number_cell`: by the type code, each with the size of its type.
use mathlib.Core.Path.{ap, ◌∙◌}
use native.Mathlib.Omega.{arith}
use borrow.Author.Rules.{rules}
use mir.Facts.{to_z-of_z}
use mir.Syntax.{w64}
use Rattle.paper.specs.declared.Cell.TheVariants.{Integer}
use Rattle.cells.proofs.CellLaws.{double_read, float_read, uuid_read, integer_read}
use Rattle.cells.proofs.number_cell.Goals as goal

pub read8-requires : goal.read8-requires
read8-requires c = omega (arith, c.requires.double c.in-7.is)

pub returns-in-7 : goal.returns-in-7
returns-in-7 c = double_read _ _ c.in-7.is (c.requires.double c.in-7.is) c.read8.ensures c.double_cell.ensures

pub read-requires : goal.read-requires
read-requires c = (omega (arith, c.requires.float c.in-14.is), search rules, search rules)

pub returns-in-14 : goal.returns-in-14
returns-in-14 c = float_read _ _ c.in-14.is (c.requires.float c.in-14.is) c.read.ensures.0 c.float_cell.ensures

pub read8-requires-in-20 : goal.read8-requires-in-20
read8-requires-in-20 c = omega (arith, c.requires.uuid c.in-20.is)

pub read8-requires-in-20-2 : goal.read8-requires-in-20-2
read8-requires-in-20-2 c = omega (arith, c.requires.uuid c.in-20.is)

pub returns-in-20 : goal.returns-in-20
returns-in-20 c = uuid_read _ _ c.in-20.is (c.requires.uuid c.in-20.is) c.read8-in-20.ensures c.read8-in-20-2.ensures

pub read_signed-requires : goal.read_signed-requires
read_signed-requires c = (search rules, c.requires.integer (omega arith) (omega arith) (omega arith))

pub returns-in_default : goal.returns-in_default
returns-in_default c = ap Integer (to_z-of_z {w = w64} (record { sfits = c.read_signed.type_inv }) ∙ c.read_signed.ensures)
    ∙ integer_read _ _ (omega arith) (omega arith) (omega arith)
