-- `width_of`: the tests are the steps of the search for the smallest width.
use mathlib.Core.Path.{sym}
use Prim.Native.Nat.{◌/◌}
use native.Mathlib.Omega.{arith}
use Rattle.numbers.specs.Little.{smallest_width}
use Rattle.numbers.proofs.WidthLaws.{width_one, width_more, width_last}
use Rattle.numbers.proofs.width_of.Goals as goal

pub returns-then-n-lt256 : goal.returns-then-n-lt256
unfolding smallest_width
returns-then-n-lt256 c = (sym (width_one 2 _ c.if-n-lt256.true), omega arith, omega arith)

pub returns-then-n-lt65536 : goal.returns-then-n-lt65536
unfolding smallest_width
returns-then-n-lt65536 c = (sym (width_more 2 _ 1 (omega arith) (width_one 1 _ (omega arith))), omega arith, omega arith)

pub returns-then-n-lt16777216 : goal.returns-then-n-lt16777216
unfolding smallest_width
returns-then-n-lt16777216 c = (sym (width_more 2 _ 2 (omega arith) (width_more 1 _ 1 (omega arith) (width_one 0 _ (omega arith)))), omega arith, omega arith)

pub returns : goal.returns
unfolding smallest_width
returns c = (sym (width_more 2 _ 3 (omega arith) (width_more 1 _ 2 (omega arith) (width_more 0 (c.args.n / 256 / 256) 1 (omega arith) (width_last _)))), omega arith, omega arith)
