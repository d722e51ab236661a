-- The names that normal metadata is written for: those of chosen ids of a lent dictionary, in the order in which the ids are listed.
use Rattle.std.specs.Prelude.{true, List, ◌≡◌, ℕ, ◌≤◌, length}
use Rattle.dictionary.specs.Lent.{LentNames}
use Rattle.paper.specs.Bounds.{most_names}
use Rattle.paper.specs.Limits.{most_metadata}
use Rattle.paper.specs.Metadata.{Dictionary}
use Rattle.paper.specs.Values.{names_at}
use Rattle.paper.specs.Words.{all_below, joined}

abbrev pub chosen_names : (names : Dictionary) (chosen : List ℕ) → Dictionary
chosen_names names chosen = names_at names chosen

-- The ids are the dictionary's own, and what they name is no longer than its metadata.
pub record Chosen (dictionary : LentNames) (chosen : List ℕ) : Type 0 where
  pub few : length chosen ≤ most_names
  pub known : all_below (length dictionary.names) chosen ≡ true
  pub small : dictionary.size ≤ most_metadata
  pub short : length (joined (chosen_names dictionary.names chosen)) ≤ dictionary.size
