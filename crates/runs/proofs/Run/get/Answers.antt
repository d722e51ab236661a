-- `get`: a number of the run stands where it is read.
use native.Mathlib.Nat.{lt_of_lt_of_le, pow-le-pow_right}
use mathlib.Core.Path.{◌∙◌}
use native.Mathlib.Omega.{arith}
use lib.Dec.{lit<}
use borrow.Author.Rules.{rules}
use Rattle.runs.proofs.NumbersRunLaws.{seen_there, seen_number}
use Rattle.runs.proofs.Run.get.Goals as goal

pub overflow_mul-place : goal.overflow_mul-place
overflow_mul-place c = let there = seen_there _ _ _ _ c.self.invariant c.self.view_is _ c.requires in search rules

pub read-requires : goal.read-requires
read-requires c = (seen_there _ _ _ _ c.self.invariant c.self.view_is _ c.requires, c.self.invariant.1, c.self.invariant.2)

pub returns : goal.returns
returns c =
    (c.read.ensures.0 ∙ seen_number _ _ _ _ c.self.invariant c.self.view_is _ c.requires, lt_of_lt_of_le c.read.ensures.1 (pow-le-pow_right (lit< tt) c.self.invariant.2))
