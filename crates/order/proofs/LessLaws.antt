-- What the order of two byte strings says of which comes before.
use mathlib.Core.Bool.{Bool, true, false, cond}
use mathlib.Core.List.{List}
use mathlib.Core.Path.{◌≡◌, refl}
use Prim.Native.Nat.{ℕ}
use Rattle.std.proofs.Common.{is_lt}
use Rattle.order.specs.Before.{before, order_of}
use Rattle.std.specs.declared.cmp.Ordering.TheVariants.{Less, Equal, Greater}

-- Less is answered exactly where the first comes before the second.
pub less_before : (a b : List ℕ) → is_lt (order_of a b) ≡ before a b
unfolding order_of
less_before a b = go (before a b) (before b a)
  where
    go : (p q : Bool) → is_lt (cond p Less (cond q Greater Equal)) ≡ p
    go true q = refl
    go false true = refl
    go false false = refl
