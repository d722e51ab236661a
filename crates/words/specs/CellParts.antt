-- The words of a cell: what stands behind the kind in what the answer carries.
use Rattle.paper.specs.Refusals.{Outcome}
use Rattle.std.specs.Prelude.{Bool, true, not, ℕ, Ok, Err}
use Rattle.std.specs.Float.Ieee.{is_nan}
use Rattle.paper.specs.Answers.{value_of, cell_carries}
use Rattle.paper.specs.declared.Cell.{Cell}
use Rattle.paper.specs.declared.Cell.TheVariants.{Boolean, Integer, Float, Double, FloatNan, DoubleNan, Length, Uuid}

abbrev pub first_word : Outcome Cell → ℕ
first_word answer = value_of (cell_carries answer) 1

abbrev pub second_word : Outcome Cell → ℕ
second_word answer = value_of (cell_carries answer) 2

-- ---- for the inner functions

-- Its bits can be had: a NaN of a cell's reader is no number but bits (`FloatNan`, `DoubleNan`).
abbrev pub has_bits : Cell → Bool
has_bits (Boolean b) = true
has_bits (Integer z) = true
has_bits (Float x) = not (is_nan x)
has_bits (FloatNan bits) = true
has_bits (Double x) = not (is_nan x)
has_bits (DoubleNan bits) = true
has_bits (Length length) = true
has_bits (Uuid first second) = true

abbrev pub answer_has_bits : Outcome Cell → Bool
answer_has_bits (Ok cell) = has_bits cell
answer_has_bits (Err refusal) = true
