-- `read8`: two neighbours of four bytes make one number of eight.
use mathlib.Core.Path.{sym}
use native.Mathlib.Omega.{arith}
use Rattle.numbers.proofs.NumberLaws.{number_at-join}
use Rattle.numbers.proofs.read8.Goals as goal

pub returns : goal.returns
returns c = rw (c.read-low.ensures.0, c.read-high.ensures.0) (sym (number_at-join _ 4 _ 4 (omega arith)))
