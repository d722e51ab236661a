-- `half_of`: the rule of the table of halves, computed once over all entries.
use mathlib.Core.Bool.{Bool, true, ◌&&◌}
use mathlib.Core.List.{List, [], ◌∷◌}
use mathlib.Core.Path.{◌≡◌, refl, ap, ◌∙◌}
use Prim.Native.Nat.{ℕ, suc, ◌-◌, ◌*◌, ◌^◌, ◌≤◌}
use native.Mathlib.Omega.{arith}
use borrow.Author.Tests.{eqb-true, leb-true}
use lib.Dec.{eqb, leb}
use lib.ListN.{get_or}
use Rattle.numbers.proofs.Table.{entry, and_left, and_right}
use Rattle.signed.proofs.half_of.Goals as goal

-- Twice the entry at k is 256 to the (k + 1), and the entries lie between 1 and 2 to the 63rd.
halves : List ℕ
halves =
    128 ∷ 32768 ∷ 8388608 ∷ 2147483648 ∷ 549755813888 ∷ 140737488355328 ∷ 36028797018963968 ∷ 9223372036854775808 ∷ []

right : ℕ → ℕ → Bool
right k x = eqb (2 * x) (256 ^ suc k) && (leb 1 x && leb x (2 ^ 63))

halves-entry : (w : ℕ) → 1 ≤ w → w ≤ 8 → (2 * get_or halves (w - 1) 0 ≡ 256 ^ w) × (1 ≤ get_or halves (w - 1) 0) × (get_or halves (w - 1) 0 ≤ 2 ^ 63)
unfolding halves right
halves-entry w h k =
    let x : ℕ = get_or halves (w - 1) 0 in
    let passed : right (w - 1) x ≡ true = entry right halves refl (w - 1) (omega arith) in
    let e : suc (w - 1) ≡ w = omega arith in
    let bounds : leb 1 x && leb x (2 ^ 63) ≡ true = and_right (eqb (2 * x) (256 ^ suc (w - 1))) _ passed in (
      eqb-true (2 * x) (256 ^ suc (w - 1)) (and_left _ _ passed) ∙ ap (λ (v : ℕ). 256 ^ v) e,
      leb-true 1 x (and_left _ _ bounds),
      leb-true x (2 ^ 63) (and_right (leb 1 x) _ bounds),
    )

pub returns : goal.returns
unfolding halves
returns c = halves-entry c.args.width c.requires.0 c.requires.1
