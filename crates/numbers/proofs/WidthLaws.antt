-- The smallest width holds the number, and no smaller one does: shown once, over the bytes looked at.
use mathlib.Core.Bool.{Bool, true, false, cond}
use mathlib.Core.Path.{◌≡◌, refl}
use Prim.Native.Nat.{ℕ, zero, suc, ◌+◌, ◌/◌, ◌^◌, ◌≤◌, ◌<◌}
use native.Mathlib.Nat.{pow-suc, div-lt_iff_lt-mul}
use native.Mathlib.Omega.{arith}
use borrow.Author.Tests.{ltb-true, lt-ltb, le-ltb}
use lib.Dec.{ltb, lit<}
use Rattle.numbers.specs.Little.{width_within, smallest_width}

-- n is below 256 to the (suc w) exactly when what is above its lowest byte is below 256 to the w
higher : (w n : ℕ) → n < 256 ^ suc w → n / 256 < 256 ^ w
higher w n h = (div-lt_iff_lt-mul (lit< tt)).1 (rw pow-suc at h)

lower : (w n : ℕ) → n / 256 < 256 ^ w → n < 256 ^ suc w
lower w n h = rw pow-suc ((div-lt_iff_lt-mul (lit< tt)).0 h)

pub holds_within : (more n : ℕ) → n < 256 ^ suc more → n < 256 ^ width_within more n
unfolding width_within
holds_within zero n h = h
holds_within (suc more) n h = go (ltb n 256) refl (holds_within more (n / 256) (higher (suc more) n h))
  where
    go : (b : Bool) → ltb n 256 ≡ b → n / 256 < 256 ^ width_within more (n / 256) → n < 256 ^ cond b 1 (suc (width_within more (n / 256)))
    go true e rest = ltb-true n 256 e
    go false e rest = lower (width_within more (n / 256)) n rest

pub least_within : (more n w : ℕ) → 0 < w → n < 256 ^ w → width_within more n ≤ w
unfolding width_within
least_within zero n w p h = p
least_within (suc more) n zero p h = absurd (omega arith)
least_within (suc more) n (suc zero) p h = rw (lt-ltb n 256 h) p
least_within (suc more) n (suc (suc w)) p h = go (ltb n 256) (least_within more (n / 256) (suc w) (omega arith) (higher (suc w) n h))
  where
    go : (b : Bool) → width_within more (n / 256) ≤ suc w → cond b 1 (suc (width_within more (n / 256))) ≤ suc (suc w)
    go true rest = omega arith
    go false rest = omega arith

within_bounds : (more n : ℕ) → (1 ≤ width_within more n) × (width_within more n ≤ more + 1)
unfolding width_within
within_bounds zero n = (omega arith, omega arith)
within_bounds (suc more) n = go (ltb n 256) (within_bounds more (n / 256))
  where
    go : (b : Bool) → (1 ≤ width_within more (n / 256)) × (width_within more (n / 256) ≤ more + 1)
        → (1 ≤ cond b 1 (suc (width_within more (n / 256)))) × (cond b 1 (suc (width_within more (n / 256))) ≤ suc more + 1)
    go true rest = (omega arith, omega arith)
    go false rest = (omega arith, omega arith)

-- ---- the smallest width of one to four

pub smallest_holds : (n : ℕ) → n < 256 ^ 4 → n < 256 ^ smallest_width n
unfolding smallest_width
smallest_holds n h = holds_within 3 n h

pub smallest_least : (n w : ℕ) → 0 < w → n < 256 ^ w → smallest_width n ≤ w
unfolding smallest_width
smallest_least n w p h = least_within 3 n w p h

pub smallest_bounds : (n : ℕ) → (1 ≤ smallest_width n) × (smallest_width n ≤ 4)
unfolding smallest_width
smallest_bounds n = within_bounds 3 n

-- One more step of the search for the width: the number needs more than one byte.
pub width_one : (more n : ℕ) → n < 256 → width_within (suc more) n ≡ 1
unfolding width_within
width_one more n h = rw (lt-ltb n 256 h)

pub width_more : (more n w : ℕ) → 256 ≤ n → width_within more (n / 256) ≡ w → width_within (suc more) n ≡ suc w
unfolding width_within
width_more more n w h e = rw (le-ltb n 256 h, e)

pub width_last : (n : ℕ) → width_within 0 n ≡ 1
unfolding width_within
width_last n = refl
