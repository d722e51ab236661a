-- The frames of a schema in the order of their positions, outer ones before those inside them: nodes and fields.
use Rattle.std.specs.Prelude.{cond, List, ℕ, ◌+◌, eqb}
use Rattle.paper.specs.Words.{at}
use Rattle.schemas.specs.Positions.{field_node}

-- The frame behind a frame's head. A field's name and a column's code are passed over.
unfoldable pub frame_next : List ℕ → ℕ → ℕ
frame_next s place = cond (eqb (at s place) 0x31) (field_node s place) (cond (eqb (at s place) 0x10) (place + 4) (place + 3))

-- From one position the frames lead to another.
pub data Frames (s : List ℕ) : ℕ → ℕ → Type 0 where
  arrived : {place : ℕ} → Frames s place place
  further : {place to : ℕ} → Frames s (frame_next s place) to → Frames s place to
