-- Signed numbers by their two's complement, over the width.
use Rattle.std.specs.Prelude.{cond, List, map, ◌≡◌, ℕ, ◌-◌, ◌*◌, ◌^◌, ◌≤◌, ltb, ℤ, pos, negsuc}
use Rattle.numbers.specs.Little.{number_bytes}

-- The widths that numbers have here: one to four bytes, or eight.
pub record SomeWidth (width : ℕ) : Type 0 where
  pub least : 1 ≤ width
  pub most : width ≤ 8
  pub none_between : (width ≡ 8 → ⊥) → width ≤ 4

-- The signed number that an unsigned one of `width` bytes stands for: itself in the lower half, and in the upper half
-- as far below zero as it is below 256 to the width. (`negsuc n` is -(n + 1).)
unfoldable pub signed_of : ℕ → ℕ → ℤ
signed_of width n = cond (ltb (2 * n) (256 ^ width)) (pos n) (negsuc (256 ^ width - 1 - n))

-- The bytes of a signed number: those of n, and of -(n + 1) those of n, each taken from 255.
unfoldable pub signed_bytes : ℕ → ℤ → List ℕ
signed_bytes width (pos n) = number_bytes width n
signed_bytes width (negsuc n) = map (λ byte. 255 - byte) (number_bytes width n)
