-- `mark_used`: a lent slice holds bytes.
use native.Mathlib.Omega.{arith}
use Rattle.rebuild.proofs.mark_used.Goals as goal

pub returns : goal.returns
returns c = record { marks = c.place.ensures; bytes = λ i. omega (arith, c.type_inv.outermost i) }
