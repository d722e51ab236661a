use borrow.Author.Rules.{rules}
use native.Mathlib.Omega.{arith}
use Rattle.writing.proofs.IdLaws.{id_inside, ids_start, to_there, to_fits, ids_next, ids_done}
use Rattle.writing.proofs.ids.write_ids.Goals as goal

pub loop-i-init : goal.loop-i-init
loop-i-init c = search (rules, ids_start)

pub normal_of-normal-requires : goal.normal_of-normal-requires
normal_of-normal-requires c = id_inside _ _ _ c.requires.0 (omega arith) _ c.input_id-input.ensures.0

pub write_id-requires : goal.write_id-requires
write_id-requires c = (to_there c.loop-i.invariant c.requires.4 (omega arith), c.requires.1, c.requires.2)

pub overflow_add-to : goal.overflow_add-to
overflow_add-to c = search (rules, to_fits)

pub loop-i-preserved : goal.loop-i-preserved
loop-i-preserved c = ids_next c.loop-i.invariant c.requires.4 (omega arith) _ c.input_id-input.ensures.0 _ c.normal_of-normal.ensures c.write_id.ensures

pub returns : goal.returns
returns c = ids_done c.loop-i.invariant c.requires.4 (omega arith)
