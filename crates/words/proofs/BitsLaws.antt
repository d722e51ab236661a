-- The cell reader never hands out a NaN as a number, so that the bits of what it hands out can be had; and a float's or a
-- double's pattern, of a NaN too, is the first word of its cell.
use Rattle.std.specs.Prelude.{Option, None, Some, Ok}
use mathlib.Core.Bool.{Bool, true, false, not, cond}
use mathlib.Core.List.{List, [], ◌∷◌}
use mathlib.Core.Path.{◌≡◌, refl, sym, ap, ◌∙◌}
use Prim.Native.Nat.{ℕ, ◌*◌, ◌<◌}
use lib.Dec.{eqb, leb}
use lib.Ieee.Bits.{nan_bits_is, to_bits-of_bits}
use lib.Ieee.{Float, Format, top, of_bits, to_bits, nan_bits, is_nan, binary32, binary64}
use lib.ListN.{length}
use Rattle.paper.specs.Answers.{cell_values}
use Rattle.paper.specs.Cells.{cell_meaning, number_cell, handed_out}
use Rattle.paper.specs.Limits.{most_cell}
use Rattle.paper.specs.Meaning.{Scalar, boolean, payload, text}
use Rattle.paper.specs.Operations.{cell_answer}
use Rattle.paper.specs.Refusals.{require, obtain}
use Rattle.paper.specs.Schemas.{Column, column_of}
use Rattle.paper.specs.Words.{at}
use Rattle.paper.specs.declared.Cell.{Cell}
use Rattle.paper.specs.declared.Refusal.TheVariants.{TooLong, BadSchema, BadRow}
use Rattle.words.specs.CellParts.{has_bits, answer_has_bits}
use denote.Floats.{passes}

-- Off a NaN's pattern, the number of the bits is no NaN.
no_nan : (f : Format) (n : ℕ) → nan_bits f n ≡ false → not (is_nan (of_bits f n)) ≡ true
no_nan f n e = ap not (sym (nan_bits_is f n) ∙ e)

-- Over the format, the cell of a number and that of a NaN: whatever the pattern, the first word is the pattern.
pub bits_kept : (f : Format) (held : Float → Cell) (nan : ℕ → Cell) → ((x : Float) → at (cell_values (held x)) 1 ≡ to_bits f x) → ((n : ℕ) → at (cell_values (nan n)) 1 ≡ n)
    → (n : ℕ) → n < 2 * top f → at (cell_values (cond (nan_bits f n) (nan n) (held (of_bits f n)))) 1 ≡ n
bits_kept f held nan of_number of_nan n small = go (nan_bits f n) refl
  where
    go : (is : Bool) → nan_bits f n ≡ is → at (cell_values (cond is (nan n) (held (of_bits f n)))) 1 ≡ n
    go true e = of_nan n
    go false e = of_number (of_bits f n) ∙ to_bits-of_bits f n small (passes _ (no_nan f n e))

-- ---- by the definition, from the cells of numbers up to the answer

either : (test : Bool) (x y : Cell) → has_bits x ≡ true → (test ≡ false → has_bits y ≡ true) → has_bits (cond test x y) ≡ true
either true x y p q = p
either false x y p q = q refl

number-has_bits : (type : ℕ) (s : List ℕ) → has_bits (number_cell type s) ≡ true
unfolding number_cell
number-has_bits type s =
    either (eqb type 7) _ _ (either (nan_bits binary64 _) _ _ refl (no_nan binary64 _)) λ _.
    either (eqb type 14) _ _ (either (nan_bits binary32 _) _ _ refl (no_nan binary32 _)) λ _.
    either (eqb type 20) _ _ refl λ _. refl

handed-has_bits : (value : Scalar) → has_bits (handed_out value) ≡ true
unfolding handed_out
handed-has_bits (boolean b) = refl
handed-has_bits (payload type s) = either (eqb type 15) _ _ refl λ _. number-has_bits type s
handed-has_bits (text s) = refl

pub answer_has_bits_lem : (code : ℕ) (s : List ℕ) → answer_has_bits (cell_answer code s) ≡ true
unfolding cell_answer require obtain
answer_has_bits_lem code s = go (leb (length s) most_cell) (column_of (code ∷ []))
  where
    read : (meaning : Option Scalar) → answer_has_bits ((obtain meaning BadRow λ value. Ok (handed_out value))) ≡ true
    read None = refl
    read (Some value) = handed-has_bits value

    go : (short : Bool) (known : Option Column)
        → answer_has_bits ((require short TooLong
        (obtain known BadSchema λ column. obtain (cell_meaning column s) BadRow λ value. Ok (handed_out value))))
        ≡ true
    go false known = refl
    go true None = refl
    go true (Some column) = read (cell_meaning column s)
