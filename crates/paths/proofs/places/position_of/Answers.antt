use mathlib.Core.Path.{◌∙◌}
use native.Mathlib.Omega.{arith}
use Rattle.paths.proofs.PositionLaws.{position_start, id_below, position_here, position_next, position_none}
use Rattle.paths.proofs.places.position_of.Goals as goal

pub loop-i-init : goal.loop-i-init
loop-i-init c = position_start _ _ _

pub is_name-requires : goal.is_name-requires
is_name-requires c = id_below c.loop-i.invariant (omega arith) _ c.input_id.ensures.0 c.requires

pub returns-then-is_name : goal.returns-then-is_name
returns-then-is_name c = position_here c.loop-i.invariant (omega arith) _ c.input_id.ensures.0 _ c.is_name.ensures c.if-is_name.true

pub loop-i-preserved : goal.loop-i-preserved
loop-i-preserved c = position_next c.loop-i.invariant (omega arith) _ c.input_id.ensures.0 _ c.is_name.ensures c.if-is_name.false

pub returns : goal.returns
returns c = c.len.ensures ∙ position_none c.loop-i.invariant (omega arith)
