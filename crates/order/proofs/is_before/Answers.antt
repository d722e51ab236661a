-- `is_before`: less is answered exactly where the first comes before the second.
use mathlib.Core.Path.{◌∙◌, ap}
use Rattle.std.proofs.Common.{is_lt}
use Rattle.order.proofs.LessLaws.{less_before}
use Rattle.order.proofs.is_before.Goals as goal

pub returns : goal.returns
returns c = c.is_lt.ensures ∙ (ap is_lt c.compare.ensures ∙ less_before _ _)
