-- "What a register may hold" (01): the most bytes of each input, and the most levels. The code's constants are shown to be
-- these numbers where they stand (`src/lib.rt`); contracts and laws say the names.
use Rattle.std.specs.Prelude.{ℕ}

abbrev pub most_metadata : ℕ
most_metadata = 16384

abbrev pub most_value : ℕ
most_value = 16384

abbrev pub most_schema : ℕ
most_schema = 4096

abbrev pub most_path : ℕ
most_path = 1024

abbrev pub most_row : ℕ
most_row = 65535

-- A cell lent to its reader; a cell inside a row has no limit of its own.
abbrev pub most_cell : ℕ
most_cell = 16384

-- A leftover in a row, like the value that it is.
abbrev pub most_leftover : ℕ
most_leftover = 16384

-- The outermost value is level 1; schemas likewise, counted by nodes.
abbrev pub most_levels : ℕ
most_levels = 16
