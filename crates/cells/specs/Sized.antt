-- A cell of a number has the size of its type: 7 is a double, 14 a float, 20 a uuid, the others are integers.
use Rattle.std.specs.Prelude.{◌≡◌, ℕ}
use Rattle.signed.specs.Signed.{SomeWidth}

pub record NumberSized (code size : ℕ) : Type 0 where
  pub double : code ≡ 7 → size ≡ 8
  pub float : code ≡ 14 → size ≡ 4
  pub uuid : code ≡ 20 → size ≡ 16
  pub integer : (code ≡ 7 → ⊥) → (code ≡ 14 → ⊥) → (code ≡ 20 → ⊥) → SomeWidth size
