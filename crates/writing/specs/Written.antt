-- What a value needs to be written, and what is then written.
use Rattle.std.specs.Prelude.{true, List, [], ◌≡◌, ℕ, ◌≤◌, ◌<◌, length, get_or, Some}
use Rattle.marking.specs.Ids.{ids_in, holds}
use Rattle.paper.specs.Bounds.{most_walked}
use Rattle.paper.specs.Meaning.{Doc}
use Rattle.paper.specs.Metadata.{Dictionary}
use Rattle.paper.specs.Normal.{id_of, value_bytes}
use Rattle.paper.specs.Values.{child_extent, child_bytes, meaning_of}
use Rattle.paper.specs.Words.{is_there, all_below, joined}
use Rattle.writing.specs.Ends.{EndsAt}
use Rattle.writing.specs.Rewritten.{parts_in, rewritten}

-- A table has, for each of some ids of a dictionary, the id of the same name in the normal one.
abbrev pub Right : Dictionary → Dictionary → List ℕ → List ℕ → Type 0
Right names normal ranks ids = (id : ℕ) → holds id ids ≡ true → get_or ranks id 0 ≡ id_of normal (get_or names id [])

-- A lawful value whose normal form fits before a place of a buffer.
pub record Ready (levels : ℕ) (s ranks : List ℕ) (room end : ℕ) : Type 0 where
  pub names : Dictionary
  pub normal : Dictionary
  pub d : Doc
  pub meant : meaning_of levels names s ≡ Some d
  pub bytes : (i : ℕ) → get_or s i 0 < 256
  pub small : length s ≤ most_walked
  pub ranked : all_below (length ranks) (ids_in levels s) ≡ true
  pub right : Right names normal ranks (ids_in levels s)
  pub fits : length (value_bytes normal d) ≤ end
  pub within : end ≤ room
  pub most : end ≤ most_walked

-- The normal form of a document ends at a place.
abbrev pub Wrote : Dictionary → Doc → List ℕ → List ℕ → ℕ → ℕ → Type 0
Wrote normal d before after end start = EndsAt (value_bytes normal d) before after end start

-- The same need of the inner writer, which goes by the bytes alone.
pub record Writable (levels : ℕ) (s ranks : List ℕ) (room end : ℕ) : Type 0 where
  pub names : Dictionary
  pub meant : is_there (meaning_of levels names s) ≡ true
  pub small : length s ≤ most_walked
  pub ranked : all_below (length ranks) (ids_in levels s) ≡ true
  pub fits : length (rewritten levels ranks s) ≤ end
  pub within : end ≤ room
  pub most : end ≤ most_walked

-- A child that is there and lawful inside.
pub record WritableChild (levels : ℕ) (names : Dictionary) (ranks area : List ℕ) (start : ℕ) : Type 0 where
  pub size : ℕ
  pub long : child_extent area start ≡ Some size
  pub meant : is_there (meaning_of levels names (child_bytes area (record { start = start; size = size }))) ≡ true
  pub ranked : all_below (length ranks) (ids_in levels (child_bytes area (record { start = start; size = size }))) ≡ true

-- Children at some starts of an area that can be written before a place of a buffer.
pub record Holding (levels : ℕ) (area starts ranks : List ℕ) (room end : ℕ) : Type 0 where
  pub names : Dictionary
  pub each : (k : ℕ) → k < length starts → WritableChild levels names ranks area (get_or starts k 0)
  pub small : length area ≤ most_walked
  pub fits : length (joined (parts_in (rewritten levels ranks) area starts)) ≤ end
  pub within : end ≤ room
  pub most : end ≤ most_walked
