use Rattle.std.proofs.lemmas.Bool.Decides.{nat_tests}
use native.Mathlib.Omega.{arith}
use Rattle.writing.proofs.IdLaws.{id_inside, largest_start, largest_next, largest_done}
use Rattle.writing.proofs.ids.largest_of.Goals as goal

pub loop-i-init : goal.loop-i-init
loop-i-init c = largest_start _ _

pub normal_of-requires : goal.normal_of-requires
normal_of-requires c = id_inside _ _ _ c.requires (omega arith) _ c.input_id.ensures.0

pub loop-i-preserved : goal.loop-i-preserved
loop-i-preserved c = largest_next _ _ _ _ c.loop-i.invariant (omega arith) _ c.input_id.ensures.0 _ c.normal_of.ensures _ (rw c.max-most.ensures (grind (arith, nat_tests)))

pub returns : goal.returns
returns c = largest_done _ _ _ _ c.loop-i.invariant (omega arith)
