-- A part of a value put in front of a place of a room, unless it would reach below a floor.
use Rattle.std.specs.Prelude.{true, List, ◌≡◌, ℕ, ◌+◌, ◌≤◌, ◌<◌, length, Option, Some, None}
use Rattle.marking.specs.Ids.{ids_in}
use Rattle.paper.specs.Bounds.{most_walked}
use Rattle.paper.specs.Metadata.{Dictionary}
use Rattle.paper.specs.Values.{meaning_of}
use Rattle.paper.specs.Words.{is_there, all_below}
use Rattle.writing.specs.Ends.{EndsAt}
use Rattle.writing.specs.Rewritten.{rewritten}

-- There is room from a floor up to a place.
pub record Room (out : List ℕ) (floor end : ℕ) : Type 0 where
  pub above : floor ≤ end
  pub within : end ≤ length out
  pub small : length out ≤ most_walked

-- A lawful leftover, whose normal form is no longer than the floor is high.
pub record Leftover (levels : ℕ) (s ranks : List ℕ) (floor : ℕ) : Type 0 where
  pub names : Dictionary
  pub meant : is_there (meaning_of levels names s) ≡ true
  pub few : length s ≤ most_walked
  pub ranked : all_below (length ranks) (ids_in levels s) ≡ true
  pub below : length (rewritten levels ranks s) ≤ floor

-- Bytes stand so that they end at a place, and start at the floor at the lowest; or they would reach below it.
pub data PutAs (bytes before after : List ℕ) (floor end : ℕ) : Option ℕ → Type 0 where
  put : (start : ℕ) → floor ≤ start → EndsAt bytes before after end start → PutAs bytes before after floor end (Some start)
  full : end < floor + length bytes → PutAs bytes before after floor end None
