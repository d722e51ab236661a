-- The words of a cell: a float's and a double's bits come out as they were lent, a NaN's too.
use Rattle.std.specs.Prelude.{Ok}
use mathlib.Core.List.{List}
use mathlib.Core.Path.{◌≡◌, refl, sym, ap, ◌∙◌}
use Prim.Native.Nat.{ℕ, ◌^◌, ◌<◌}
use native.Mathlib.Omega.{arith}
use borrow.Author.Tests.{eq-eqb}
use lib.Ieee.{binary32, binary64}
use lib.ListN.{length, get_or}
use Rattle.numbers.specs.Little.{number}
use Rattle.paper.specs.Cells.{number_cell}
use Rattle.paper.specs.FirstBytes.{payload_sizes, length_prefixed}
use Rattle.paper.specs.Operations.{cell_answer}
use Rattle.paper.specs.Schemas.{column_code}
use Rattle.paper.specs.declared.Cell.TheVariants as variants
use Rattle.words.specs.CellParts.{first_word}
use Rattle.cells.proofs.CellLaws.{sized_good, number_read, meaning}
use Rattle.numbers.proofs.NumberLaws.{number_below}
use Rattle.words.proofs.BitsLaws.{bits_kept}

module _ (s : List ℕ) (bytes : (i : ℕ) → get_or s i 0 < 256) where
  pub double_bits_unchanged : length s ≡ 8 → first_word (cell_answer 7 s) ≡ number s
  unfolding number_cell column_code payload_sizes length_prefixed
  double_bits_unchanged e =
      let small : number s < 256 ^ 8 = number_below s 8 (omega arith) bytes in
      let read : Ok (number_cell 7 s) ≡ cell_answer 7 s =
      meaning 7 s (omega arith) refl refl
      (number_read 7 s (sym (sized_good 7 s (λ z. omega arith) (λ z. omega arith) (λ z. omega arith) 8 refl) ∙ eq-eqb (length s) 8 e)
      (λ z. omega arith) (λ z. omega arith) (λ z. omega arith) refl) in
      ap first_word (sym read) ∙ bits_kept binary64 variants.Double variants.DoubleNan (λ x. refl) (λ n. refl) (number s) small

  pub float_bits_unchanged : length s ≡ 4 → first_word (cell_answer 14 s) ≡ number s
  unfolding number_cell column_code payload_sizes length_prefixed
  float_bits_unchanged e =
      let small : number s < 256 ^ 4 = number_below s 4 (omega arith) bytes in
      let read : Ok (number_cell 14 s) ≡ cell_answer 14 s =
      meaning 14 s (omega arith) refl refl
      (number_read 14 s (sym (sized_good 14 s (λ z. omega arith) (λ z. omega arith) (λ z. omega arith) 4 refl) ∙ eq-eqb (length s) 4 e)
      (λ z. omega arith) (λ z. omega arith) (λ z. omega arith) refl) in
      ap first_word (sym read) ∙ bits_kept binary32 variants.Float variants.FloatNan (λ x. refl) (λ n. refl) (number s) small
