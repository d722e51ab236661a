-- `signed`: the lower half stands for itself, the upper half for what it lacks of 256 to the width.
use mathlib.Core.Path.{sym, ◌∙◌}
use Prim.Native.Nat.{◌-◌}
use native.Mathlib.Omega.{arith}
use mir.Facts.{to_z_pos}
use mir.Syntax.{w64}
use Rattle.signed.proofs.SignedLaws.{signed_low, signed_high, minus_fits, minus_is}
use Rattle.signed.proofs.signed.Goals as goal

pub returns-then-n-half : goal.returns-then-n-half
returns-then-n-half c = to_z_pos w64 (omega arith) ∙ sym (signed_low _ _ _ c.half_of-half.ensures.0 c.if-n-half.true)

pub overflow_sub-result : goal.overflow_sub-result
overflow_sub-result c = let h = c.half_of-half.result in
    minus_fits (h - 1 - (c.args.n - h)) (omega arith)

pub returns : goal.returns
returns c = minus_is _ (omega arith) ∙ sym (signed_high _ _ _ c.half_of-half.ensures.0 c.if-n-half.false (omega arith))
