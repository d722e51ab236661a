use mathlib.Core.Path.{ap}
use mathlib.Core.Bool.{not}
use native.Mathlib.Omega.{arith}
use Rattle.dictionary.proofs.WalkLaws.{rise_none, rise_starts, rise_ordered, rise_not, rise_on, rise_ends}
use Rattle.dictionary.proofs.names_rise.Goals as goal

pub returns-then-len-le1 : goal.returns-then-len-le1
returns-then-len-le1 c = rise_none _ _ c.requires (omega arith)

pub loop-i-init : goal.loop-i-init
loop-i-init c = (omega arith, omega arith, rise_starts _ _ c.requires _ _ c.get-from.ensures.0 c.get-to.ensures.0)

pub rises-requires : goal.rises-requires
rises-requires c = rise_ordered _ _ c.requires c.loop-i.invariant.2 c.loop-i.invariant.0 (omega arith) _ c.get-next.ensures.0

pub returns-then-not-rises : goal.returns-then-not-rises
returns-then-not-rises c =
    rise_not _ _ c.requires c.loop-i.invariant.2 c.loop-i.invariant.0 (omega arith) _ c.get-next.ensures.0 _ c.rises.ensures (ap not c.if-not-rises.true)

pub loop-i-preserved : goal.loop-i-preserved
loop-i-preserved c = (
  omega arith,
  omega arith,
  rise_on _ _ c.requires c.loop-i.invariant.2 c.loop-i.invariant.0 (omega arith) _ c.get-next.ensures.0 _ c.rises.ensures (ap not c.if-not-rises.false),
)

pub returns : goal.returns
returns c = rise_ends _ _ c.requires c.loop-i.invariant.2 c.loop-i.invariant.0 (omega arith)
