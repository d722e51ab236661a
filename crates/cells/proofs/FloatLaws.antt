-- A NaN's pattern: the sign aside, it lies above that of infinity, whose exponent is all ones over digits of 0.
use Rattle.std.specs.Prelude.{Option, None, Some}
use mathlib.Core.Bool.{Bool, true, false, not, cond, ◌&&◌}
use mathlib.Core.Path.{◌≡◌, refl, sym, ap, ◌∙◌}
use Prim.Native.Nat.{ℕ, ◌*◌, ◌/◌, ◌%◌, ◌≤◌, ◌<◌}
use native.Mathlib.Omega.{arith}
use borrow.Author.Tests.{eq-eqb, ne_eqb, eqb-true}
use lib.Dec.{eqb}
use Rattle.paper.specs.declared.Cell.{Cell}
use Rattle.std.proofs.lemmas.Option.{same_Some}
use lib.Ieee.{Format, binary32, binary64, hid, ones, top, nan_bits}

-- Above infinity: the exponent is all ones, and the digits are not 0.
exponent_full : (f : Format) (b : ℕ) → ones f * hid f < b % top f → b % top f / hid f ≡ ones f
exponent_full binary32 b h = omega arith
exponent_full binary64 b h = omega arith

digits_there : (f : Format) (b : ℕ) → ones f * hid f < b % top f → b % hid f ≡ 0 → ⊥
digits_there binary32 b h z = omega arith
digits_there binary64 b h z = omega arith

pub nan_above : (f : Format) (b : ℕ) → ones f * hid f < b % top f → nan_bits f b ≡ true
unfolding nan_bits
nan_above f b h = rw (eq-eqb (b % top f / hid f) (ones f) (exponent_full f b h), ne_eqb (b % hid f) 0 (digits_there f b h))

-- Not above it: digits of 0 under an exponent that is all ones.
digits_none : (f : Format) (b : ℕ) → b % top f ≤ ones f * hid f → b % top f / hid f ≡ ones f → b % hid f ≡ 0
digits_none binary32 b h e = omega arith
digits_none binary64 b h e = omega arith

pub nan_not : (f : Format) (b : ℕ) → b % top f ≤ ones f * hid f → nan_bits f b ≡ false
unfolding nan_bits
nan_not f b h = go (eqb (b % top f / hid f) (ones f)) refl
  where
    go : (full : Bool) → eqb (b % top f / hid f) (ones f) ≡ full → full && not (eqb (b % hid f) 0) ≡ false
    go true e = rw (eq-eqb (b % hid f) 0 (digits_none f b h (eqb-true (b % top f / hid f) (ones f) e)))
    go false e = refl

-- ---- a cell by the number that its bits are, or by the bits

module _ {A : Type 0} (b : Bool) (x : A) {r : Option A} (told : r ≡ cond b None (Some x)) (number : A → Cell) (bits : Cell) where
  pub by_number : {y : A} → r ≡ Some y → number y ≡ cond b bits (number x)
  by_number {y} e = go b (sym told ∙ e)
    where
      go : (b : Bool) → cond b None (Some x) ≡ Some y → number y ≡ cond b bits (number x)
      go true f = cc
      go false f = ap number (sym (same_Some x y f))

  pub by_bits : r ≡ None → bits ≡ cond b bits (number x)
  by_bits e = go b (sym told ∙ e)
    where
      go : (b : Bool) → cond b None (Some x) ≡ None → bits ≡ cond b bits (number x)
      go true f = refl
      go false f = cc
