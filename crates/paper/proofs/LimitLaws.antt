-- What the code's arithmetic and its tables ask of the limits: all of it, and nothing else of their numbers.
use Prim.Native.Nat.{◌*◌, ◌^◌, ◌≤◌, ◌<◌}
use native.Mathlib.Omega.{arith}
use Rattle.paper.specs.Bounds.{most_walked, most_names}
use Rattle.paper.specs.Limits.{most_metadata, most_value, most_row, most_leftover}

-- Sums and products of what is walked fit.
pub value_walked : 2 * most_value ≤ most_walked
value_walked = omega arith

pub metadata_walked : most_metadata ≤ most_walked
metadata_walked = omega arith

pub row_walked : most_row ≤ most_walked
row_walked = omega arith

-- A leftover is walked as a value is.
pub leftover_value : most_leftover ≤ most_value
leftover_value = omega arith

-- A dictionary of more than 255 names takes two bytes or more for each offset.
pub metadata_names : most_metadata ≤ 2 * most_names
metadata_names = omega arith

-- Lengths cross to C in 24 bits.
pub lengths_cross : (most_metadata < 2 ^ 24) × (most_value < 2 ^ 24) × (most_row < 2 ^ 24)
lengths_cross = (omega arith, omega arith, omega arith)
