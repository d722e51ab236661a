-- `double_cell`: by whether the bits are a NaN's.
use Rattle.cells.proofs.FloatLaws.{by_number, by_bits}
use Rattle.paper.specs.declared.Cell.TheVariants.{Double, DoubleNan}
use Rattle.cells.proofs.double_cell.Goals as goal

pub returns-in-Some : goal.returns-in-Some
returns-in-Some c = by_number _ _ c.double.ensures Double (DoubleNan c.args.bits) c.in-Some.is

pub returns-in-None : goal.returns-in-None
returns-in-None c = by_bits _ _ c.double.ensures Double (DoubleNan c.args.bits) c.in-None.is
