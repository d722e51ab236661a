-- Metadata judged: its offset size, its count and its flag where it keeps the rules of 01.
use Rattle.std.specs.Prelude.{Bool, true, cond, not, ◌&&◌, ◌||◌, List, ◌≡◌, ℕ, Option, Some, None}
use Rattle.paper.specs.Words.{at, is_there}
use Rattle.paper.specs.Metadata.{flag_set, offset_size, cut_at, rising, name_count, offsets_good, dictionary_of}
use Rattle.dictionary.specs.declared.Names.{Names}

-- The offsets keep their rules, and with the flag set the names that they cut rise.
unfoldable pub lawful_names : List ℕ → List ℕ → (flag : Bool) → Bool
lawful_names offsets area flag = offsets_good offsets area && (not flag || rising (cut_at area offsets))

-- What lent metadata is.
unfoldable pub judged_of : List ℕ → Option Names
judged_of metadata =
    cond (is_there (dictionary_of metadata))
    (Some (record { width = offset_size (at metadata 0); count = name_count metadata; sorted = flag_set (at metadata 0) }))
    None

-- The metadata keeps its rules, and this was read of it.
pub record Opened (metadata : List ℕ) (names : Names) : Type 0 where
  pub there : is_there (dictionary_of metadata) ≡ true
  pub width : names.width ≡ offset_size (at metadata 0)
  pub count : names.count ≡ name_count metadata
  pub sorted : names.sorted ≡ flag_set (at metadata 0)
