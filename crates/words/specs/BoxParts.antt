-- The words of a box: its sides, by their places in what the answer carries.
use Rattle.paper.specs.Refusals.{Outcome}
use Rattle.std.specs.Prelude.{Bool, true, not, ℕ, Float, Ok, Err, Some, None, Option}
use Rattle.std.specs.Float.Ieee.{is_nan}
use Rattle.paper.specs.Answers.{value_of, box_carries}
use Rattle.paper.specs.declared.LotBox.{LotBox}
use Rattle.words.specs.declared.boxes.Side.{Side}
use Rattle.words.specs.declared.boxes.Side.TheVariants.{East, North, South, West}

abbrev pub place_of : Side → ℕ
place_of East = 0
place_of North = 1
place_of South = 2
place_of West = 3

abbrev pub side_word : Side → Outcome (Option LotBox) → ℕ
side_word side answer = value_of (box_carries answer) (place_of side)

-- ---- for the inner functions

abbrev pub side_of : Side → LotBox → Float
side_of East box = box.east
side_of North box = box.north
side_of South box = box.south
side_of West box = box.west

-- The bits of the side can be had: it is no NaN.
abbrev pub side_has_bits : Side → Outcome (Option LotBox) → Bool
side_has_bits side (Ok (Some box)) = not (is_nan (side_of side box))
side_has_bits side (Ok None) = true
side_has_bits side (Err refusal) = true
