-- A lent dictionary as contracts see it.
use Rattle.std.specs.Prelude.{Bool, List, ◌≡◌, ℕ, ◌<◌, length, get_or, Option, Some}
use Rattle.paper.specs.Metadata.{Dictionary, flag_set, offset_size, names_in, dictionary_of}
use Rattle.paper.specs.Words.{at, and_then}

-- Its names, how many bytes its metadata says that an offset takes, whether it says that the names are sorted, and how many
-- bytes the metadata has.
pub record LentNames : Type 0 where
  pub names : Dictionary
  pub width : ℕ
  pub sorted : Bool
  pub size : ℕ

-- What lent metadata opens to, if it keeps its rules.
unfoldable pub lent_of : (metadata : List ℕ) → Option LentNames
lent_of metadata =
    and_then (dictionary_of metadata) λ names. Some (record { names = names; width = offset_size (at metadata 0); sorted = flag_set (at metadata 0); size = length metadata })

-- What `lent_of` opens metadata to where it keeps its rules, read of any metadata.
unfoldable pub lent_read : List ℕ → LentNames
lent_read metadata = record { names = names_in metadata; width = offset_size (at metadata 0); sorted = flag_set (at metadata 0); size = length metadata }

-- Some metadata opens to it.
pub record Lent (dictionary : LentNames) : Type 0 where
  pub metadata : List ℕ
  pub opens : lent_of metadata ≡ Some dictionary

-- And its elements are bytes.
pub record LentBytes (dictionary : LentNames) : Type 0 where
  pub lent : Lent dictionary
  pub bytes : (i : ℕ) → get_or lent.metadata i 0 < 256
