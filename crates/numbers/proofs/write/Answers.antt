-- `write`: each width is one byte more below the rest of the number.
use mathlib.Core.Path.{refl}
use native.Mathlib.Omega.{arith}
use lib.ListN.{length-set}
use Rattle.numbers.proofs.PutLaws.{write_one, write_more}
use Rattle.numbers.proofs.write.Goals as goal

pub returns-then-width-eq1 : goal.returns-then-width-eq1
returns-then-width-eq1 c = write_one _ _ _ _ c.if-width-eq1.true (omega arith)

pub bounds-out-place-2 : goal.bounds-out-place-2
bounds-out-place-2 c = simp length-set (omega arith)

pub returns-then-width-eq2 : goal.returns-then-width-eq2
returns-then-width-eq2 c = write_more _ _ _ 1 _ _ (omega arith) refl (omega arith)
    (write_one _ _ 1 _ refl (simp length-set (omega arith)))

pub bounds-out-place-3 : goal.bounds-out-place-3
bounds-out-place-3 c = simp length-set (omega arith)

pub returns-then-width-eq3 : goal.returns-then-width-eq3
returns-then-width-eq3 c = write_more _ _ _ 2 _ _ (omega arith) refl (omega arith)
    (write_more _ _ _ 1 _ _ refl (omega arith) (simp length-set (omega arith))
    (write_one _ _ 1 _ refl (simp length-set (omega arith))))

pub bounds-out-place-4 : goal.bounds-out-place-4
bounds-out-place-4 c = simp length-set (omega arith)

pub returns : goal.returns
returns c = write_more _ _ _ 3 _ _ (omega arith) refl (omega arith)
    (write_more _ _ _ 2 _ _ refl (omega arith) (simp length-set (omega arith))
    (write_more _ _ _ 1 _ _ refl (omega arith) (simp length-set (omega arith))
    (write_one _ _ 1 _ refl (simp length-set (omega arith)))))
