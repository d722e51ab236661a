use native.Mathlib.Omega.{arith}
use Rattle.dictionary.proofs.WalkLaws.{walk_bad, walk_starts, walk_falls, walk_on, walk_ends}
use Rattle.dictionary.proofs.offsets_good.Goals as goal

pub returns-then-last-ne0 : goal.returns-then-last-ne0
returns-then-last-ne0 c = walk_bad _ _ c.get-last.ensures.0 _ c.if-last-ne0.true

pub loop-i-init : goal.loop-i-init
loop-i-init c = (omega arith, omega arith, walk_starts _ _ c.get-last.ensures.0 (omega arith))

pub returns-then-next-last : goal.returns-then-next-last
returns-then-next-last c = walk_falls c.loop-i.invariant.2 c.loop-i.invariant.0 (omega arith) _ c.get-next.ensures.0 _ (omega arith)

pub loop-i-preserved : goal.loop-i-preserved
loop-i-preserved c = (omega arith, omega arith, walk_on c.loop-i.invariant.2 c.loop-i.invariant.0 (omega arith) _ c.get-next.ensures.0 (omega arith))

pub returns : goal.returns
returns c = walk_ends c.loop-i.invariant.2 c.loop-i.invariant.0 _ (omega arith)
