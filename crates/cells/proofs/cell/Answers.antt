-- `cell`: in the order of the refusals.
use mathlib.Core.Bool.{not}
use mathlib.Core.Path.{ap}
use Rattle.cells.proofs.CellLaws.{too_long, no_code, known_code, no_meaning, meaning, there_good}
use Rattle.cells.proofs.cell.Goals as goal

pub returns-then-bytes-gt-MOST_CELL : goal.returns-then-bytes-gt-MOST_CELL
returns-then-bytes-gt-MOST_CELL c = search too_long

pub returns-then-not-column_code : goal.returns-then-not-column_code
returns-then-not-column_code c = search no_code

pub good-requires : goal.good-requires
good-requires c = search known_code

pub returns-then-not-good : goal.returns-then-not-good
returns-then-not-good c = search no_meaning

pub handed-requires : goal.handed-requires
handed-requires c = (search known_code, there_good _ _ _ c.good.ensures (ap not c.if-not-good.false))

pub returns : goal.returns
returns c = search meaning
