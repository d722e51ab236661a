-- Byte strings that agree up to a place: one equal byte more, and bytes that make the same number, as many in each.
use mathlib.Core.List.{List}
use mathlib.Core.Path.{◌≡◌, subst}
use Prim.Native.Nat.{ℕ, zero, suc, ◌+◌, ◌*◌, ◌≤◌, ◌<◌}
use native.Mathlib.Nat.{add-zero}
use native.Mathlib.Omega.{arith}
use lib.ListN.{length, get_or}
use Rattle.numbers.specs.Little.{number_at}
use Rattle.numbers.proofs.NumberLaws.{number_at-more}
use Rattle.order.specs.Agreed.{Agreed}
use Rattle.order.proofs.OrderLaws.{order_same}

pub agreed_one : (a b : List ℕ) (i : ℕ) → Agreed a b i → i < length a → i < length b → get_or a i 0 ≡ get_or b i 0 → Agreed a b (i + 1)
agreed_one a b i agreed in-a in_b same =
    record { in_first = omega arith; in_second = omega arith; behind = order_same a b i agreed.behind in-a in_b same }

module _ (a b : List ℕ) (bytes : (i : ℕ) → get_or a i 0 < 256) (bytes' : (i : ℕ) → get_or b i 0 < 256) where
  pub agreed_more : (w i : ℕ) → Agreed a b i → i + w ≤ length a → i + w ≤ length b → number_at a i w ≡ number_at b i w → Agreed a b (i + w)
  agreed_more zero i agreed in-a in_b same = rw add-zero agreed
  agreed_more (suc w) i agreed in-a in_b same =
      let in-a' : i < length a = omega arith in
      let in-b' : i < length b = omega arith in
      let number-a : number_at a i (suc w) ≡ get_or a i 0 + 256 * number_at a (i + 1) w = number_at-more a i w in-a' in
      let number-b : number_at b i (suc w) ≡ get_or b i 0 + 256 * number_at b (i + 1) w = number_at-more b i w in-b' in
      let byte : get_or a i 0 ≡ get_or b i 0 = omega (arith, bytes i, bytes' i) in
      let rest : number_at a (i + 1) w ≡ number_at b (i + 1) w = omega arith in
      let place : i + 1 + w ≡ i + suc w = omega arith in
      subst (Agreed a b) place (agreed_more w (i + 1) (agreed_one a b i agreed in-a' in-b' byte) (omega arith) (omega arith) rest)
