-- `write8`: a number's eight bytes in two runs of four.
use native.Mathlib.Omega.{arith}
use Rattle.numbers.proofs.PutLaws.{write_join}
use Rattle.numbers.proofs.write8.Goals as goal

pub returns : goal.returns
returns c = write_join _ _ _ 4 _ _ _ _ (omega arith) (omega arith) (omega arith) (omega arith)
    c.write.ensures c.write-2.ensures
