-- A name looked up in a dictionary: what an answer tells, and the order in which the names are halved.
use Rattle.std.specs.Prelude.{false, cond, List, [], ◌∷◌, ◌++◌, ◌≡◌, ℕ, zero, suc, ◌<◌, length, get_or, take, Option, Some, None}
use Rattle.dictionary.specs.Lent.{LentNames}
use Rattle.dictionary.specs.declared.ids.InputId.{InputId}
use Rattle.paper.specs.Metadata.{Dictionary}
use Rattle.paper.specs.Words.{among}
use Rattle.ranking.specs.Ranks.{Sorted}

-- What an answer tells of a name: an id that has it, or that no id has it.
pub data Tells (names : Dictionary) (name : List ℕ) : Option InputId → Type 0 where
  found : (id : InputId) → id.0 < length names → get_or names id.0 [] ≡ name → Tells names name (Some id)
  missing : among name names ≡ false → Tells names name None

-- The ids below a count, rising.
unfoldable pub ids_below : (count : ℕ) → List ℕ
ids_below zero = []
ids_below (suc count) = ids_below count ++ (count ∷ [])

-- A table starts with all ids, in the order of their names. Where the sorted flag is set none is needed.
pub record Ordered (dictionary : LentNames) (order : List ℕ) : Type 0 where
  pub ids : dictionary.sorted ≡ false → Sorted dictionary.names (ids_below (length dictionary.names)) (take (length dictionary.names) order)

-- All ids in the order of their names: by the table, or as they are where the flag is set.
unfoldable pub ids_in_order : LentNames → List ℕ → List ℕ
ids_in_order dictionary order = cond dictionary.sorted (ids_below (length dictionary.names)) (take (length dictionary.names) order)
