-- `walk_indexed`: where no field is named every table tells; the index has room for every name, or none is needed.
use mathlib.Core.Path.{ap}
use mathlib.Core.Bool.{not}
use native.Mathlib.Omega.{arith}
use Rattle.rows.proofs.JudgeLaws.{nothing_told}
use Rattle.rows.proofs.judging.walk_indexed.Goals as goal

pub outermost-requires : goal.outermost-requires
outermost-requires c = let pre = c.requires in
    (pre, nothing_told pre _ c.names_fields.ensures (ap not c.if-not-names_fields.true))

pub walk_with-requires-in_default : goal.walk_with-requires-in_default
walk_with-requires-in_default c = let pre = c.requires in
    (pre, λ e. pre.few, omega arith)
