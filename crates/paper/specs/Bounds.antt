-- Bounds for the inner functions, nothing to believe: no limit of 01, and no answer reads them.
use Rattle.std.specs.Prelude.{ℕ}

-- What is walked is at most so long, so that sums of its numbers fit.
abbrev pub most_walked : ℕ
most_walked = 65536

-- A dictionary has at most so many names: the tables' length.
abbrev pub most_names : ℕ
most_names = 16384
