-- `head_size`: the definition's own sum, which fits since a head is at most 2 to the 36th.
use mathlib.Core.Path.{refl}
use native.Mathlib.Omega.{arith}
use Rattle.paper.specs.Values.{head_size_of}
use Rattle.heads.proofs.HeadLaws.{head_below}
use Rattle.heads.proofs.head_size.Goals as goal

pub overflow_mul-result : goal.overflow_mul-result
unfolding head_size_of
overflow_mul-result c = record { fits = omega (arith, head_below _ _ _ _ c.requires) }

pub overflow_add-result-2 : goal.overflow_add-result-2
unfolding head_size_of
overflow_add-result-2 c = record { fits = omega (arith, head_below _ _ _ _ c.requires) }

pub overflow_mul-result-2 : goal.overflow_mul-result-2
unfolding head_size_of
overflow_mul-result-2 c = record { fits = omega (arith, head_below _ _ _ _ c.requires) }

pub overflow_add-result-4 : goal.overflow_add-result-4
unfolding head_size_of
overflow_add-result-4 c = record { fits = omega (arith, head_below _ _ _ _ c.requires) }

pub returns : goal.returns
unfolding head_size_of
returns c = (refl, head_below _ _ _ _ c.requires)
