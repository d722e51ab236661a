-- `fields`: each turn passes a column.
use Rattle.std.proofs.Common.{length}
use Rattle.demo.proofs.showing.fields.Given as goal

abbrev pub decreases-loop-columns : goal.decreases-loop-columns
decreases-loop-columns g l = length l.columns
