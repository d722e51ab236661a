use mathlib.Core.Path.{◌≡◌, subst}
use Prim.Native.Nat.{◌+◌, ◌*◌}
use native.Mathlib.Omega.{arith}
use Rattle.order.specs.Agreed.{Agreed}
use Rattle.order.proofs.AgreedLaws.{agreed_more}
use Rattle.order.proofs.agreed.Goals as goal

pub loop-turn-preserved : goal.loop-turn-preserved
loop-turn-preserved c =
    let next : 8 * c.loop-turn.turn + 8 ≡ 8 * (c.loop-turn.turn + 1) = omega arith in
    subst (Agreed c.args.a.now c.args.b.now) next
    (agreed_more _ _ (λ i. omega (arith, c.type_inv.a i)) (λ i. omega (arith, c.type_inv.b i)) _ _ c.loop-turn.invariant (omega arith) (omega arith) (omega arith))
