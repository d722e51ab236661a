-- The chosen names one by one: each id is one of the dictionary's, and behind its name the others are left.
use mathlib.Core.List.{List, [], ◌∷◌}
use mathlib.Core.Path.{◌≡◌, refl}
use Prim.Native.Nat.{ℕ, ◌+◌, ◌≤◌, ◌<◌}
use lib.ListN.{length, get_or, drop, length-map}
use Rattle.dictionary.specs.Lent.{LentNames}
use Rattle.naming.specs.Chosen.{Chosen}
use Rattle.paper.specs.Metadata.{Dictionary}
use Rattle.paper.specs.Values.{names_at}
use Rattle.runs.proofs.NumbersRunLaws.{below_at, next_number, no_more}

-- What is left of the names behind the first i.
abbrev pub names_left : (names : Dictionary) (chosen : List ℕ) → (i : ℕ) → Dictionary
names_left names chosen i = names_at names (drop i chosen)

-- what the look-up of a name asks
pub name_asks : {d : LentNames} {chosen : List ℕ} → Chosen d chosen → (i : ℕ) → i < length chosen → (i < length chosen) × (get_or chosen i 0 < length d.names)
name_asks {d} {chosen} is i h = (h, below_at (length d.names) chosen i is.known h)

module _ (names : Dictionary) (chosen : List ℕ) where
  pub names_next : (i : ℕ) → i < length chosen → names_left names chosen i ≡ get_or names (get_or chosen i 0) [] ∷ names_left names chosen (i + 1)
  unfolding names_at
  names_next i h = rw (next_number chosen i h (get_or chosen i 0) refl)

  pub names_ended : (i : ℕ) → length chosen ≤ i → names_left names chosen i ≡ []
  unfolding names_at
  names_ended i h = rw (no_more chosen i h)

  pub names_length : length (names_at names chosen) ≡ length chosen
  unfolding names_at
  names_length = length-map chosen _
