-- `read`: each width is one byte more below the number behind it.
use mathlib.Core.Path.{refl}
use Prim.Native.Nat.{◌+◌}
use native.Mathlib.Omega.{arith}
use Rattle.numbers.proofs.NumberLaws.{read_one, read_more}
use Rattle.numbers.proofs.read.Goals as goal

pub returns-then-width-eq1 : goal.returns-then-width-eq1
returns-then-width-eq1 c = read_one _ _ _ _ c.if-width-eq1.true (omega arith) (c.from-first.ensures, omega (arith, c.from-first.ensures, c.type_inv.s c.args.place))

pub returns-then-width-eq2 : goal.returns-then-width-eq2
returns-then-width-eq2 c = read_more _ _ _ 1 _ _ _ (omega arith) refl (omega arith) (c.from-first.ensures, omega (arith, c.from-first.ensures, c.type_inv.s c.args.place))
    (read_one _ _ 1 _ refl (omega arith) (c.from-second.ensures, omega (arith, c.from-second.ensures, c.type_inv.s (c.args.place + 1))))

pub returns-then-width-eq3 : goal.returns-then-width-eq3
returns-then-width-eq3 c = read_more _ _ _ 2 _ _ _ (omega arith) refl (omega arith) (c.from-first.ensures, omega (arith, c.from-first.ensures, c.type_inv.s c.args.place))
    (read_more _ _ _ 1 _ _ _ refl (omega arith) (omega arith) (c.from-second.ensures, omega (arith, c.from-second.ensures, c.type_inv.s (c.args.place + 1)))
    (read_one _ _ 1 _ refl (omega arith) (c.from-third.ensures, omega (arith, c.from-third.ensures, c.type_inv.s (c.args.place + 2)))))

pub returns : goal.returns
returns c = read_more _ _ _ 3 _ _ _ (omega arith) refl (omega arith) (c.from-first.ensures, omega (arith, c.from-first.ensures, c.type_inv.s c.args.place))
    (read_more _ _ _ 2 _ _ _ refl (omega arith) (omega arith) (c.from-second.ensures, omega (arith, c.from-second.ensures, c.type_inv.s (c.args.place + 1)))
    (read_more _ _ _ 1 _ _ _ refl (omega arith) (omega arith) (c.from-third.ensures, omega (arith, c.from-third.ensures, c.type_inv.s (c.args.place + 2)))
    (read_one _ _ 1 _ refl (omega arith) (c.from-fourth.ensures, omega (arith, c.from-fourth.ensures, c.type_inv.s (c.args.place + 3))))))
