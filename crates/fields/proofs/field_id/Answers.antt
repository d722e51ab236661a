-- `field_id`: the entry read back.
use Prim.Native.Nat.{◌/◌}
use native.Mathlib.Omega.{arith}
use Rattle.fields.proofs.EntryLaws.{looked_none, looked_some}
use Rattle.fields.proofs.field_id.Goals as goal

pub overflow_cast-result : goal.overflow_cast-result
overflow_cast-result c = omega (arith, c.type_inv.table (c.args.place / 9))

pub returns-in-0 : goal.returns-in-0
returns-in-0 c = looked_none c.in-0.is

pub returns-in_default : goal.returns-in_default
returns-in_default c = looked_some _ (λ none. omega arith)
