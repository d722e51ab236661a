-- The quick look at a value: a string whose length fills the value is lawful under any dictionary.
use mathlib.Core.Bool.{true}
use mathlib.Core.List.{List}
use mathlib.Core.Path.{◌≡◌, refl}
use Prim.Native.Nat.{ℕ, ◌+◌, ◌/◌, ◌%◌, ◌≤◌}
use native.Mathlib.Omega.{arith}
use borrow.Author.Tests.{eqb-true}
use lib.Dec.{eqb}
use lib.ListN.{length}
use Rattle.heads.proofs.ExtentLaws.{short_told, length_told}
use Rattle.numbers.specs.Little.{number_at}
use Rattle.paper.specs.FirstBytes.{length_prefixed, payload_sizes, primitive_reading, kind_reading, reading_of}
use Rattle.paper.specs.Limits.{most_levels}
use Rattle.paper.specs.Metadata.{Dictionary}
use Rattle.paper.specs.Values.{meaning_of, whole}
use Rattle.paper.specs.Words.{at, is_there}
use Rattle.paper.specs.declared.Reading.TheVariants.{Prefixed, Short}
use Rattle.values.proofs.PlainLaws.{plain_good}
use Rattle.values.proofs.WholeLaws.{fills}
use Rattle.values.specs.Insides.{plain_by}

abbrev pub LawfulAlone : List ℕ → Type 0
LawfulAlone s = (names : Dictionary) → is_there (meaning_of most_levels names s) ≡ true

module _ (s : List ℕ) (there : length s ≡ 0 → ⊥) where
  -- A short string: the first byte says its length.
  pub short_lawful : at s 0 % 4 ≡ 1 → (size : ℕ) → size ≡ at s 0 / 4 → eqb (size + 1) (length s) ≡ true → LawfulAlone s
  unfolding reading_of kind_reading plain_by
  short_lawful kind size is same names =
      let says : Short (at s 0 / 4) ≡ reading_of (at s 0) = rw kind in
      let long = eqb-true (size + 1) (length s) same in
      let filled : whole s ≡ true = fills s _ (short_told s there _ says refl) (1 + at s 0 / 4) refl (omega arith) in
      plain_good most_levels names s (λ e. omega (arith, e)) filled (rw (← says))

  -- A long string: its length stands behind the first byte.
  pub long_lawful : at s 0 ≡ 64 → 5 ≤ length s → (size : ℕ) → size ≡ number_at s 1 4 → eqb (size + 5) (length s) ≡ true → LawfulAlone s
  unfolding plain_by
  long_lawful kind room size is same names =
      let says : Prefixed 16 ≡ reading_of (at s 0) = rw kind (unfold reading_of kind_reading primitive_reading payload_sizes length_prefixed in refl) in
      let long = eqb-true (size + 5) (length s) same in
      let filled : whole s ≡ true = fills s _ (length_told s there _ says refl room is) (5 + size) refl (omega arith) in
      plain_good most_levels names s (λ e. omega (arith, e)) filled (rw (← says))
