-- "Metadata" (01): a header, the count, count + 1 offsets, the names.
use Rattle.std.specs.Prelude.{Bool, true, false, not, ◌&&◌, ◌||◌, List, [], ◌∷◌, ℕ, ◌+◌, ◌*◌, ◌/◌, ◌%◌, leb, eqb, length, drop, Option, Some}
use Rattle.numbers.specs.Little.{number_at}
use Rattle.order.specs.Before.{before}
use Rattle.paper.specs.Words.{at, part, given, numbers, last_of}

-- A dictionary: its names in the order of their ids.
abbrev pub Dictionary : Type 0
Dictionary = List (List ℕ)

-- Version 1 in bits 0-3, sorted flag bit 4, bit 5 zero, offset size less one in bits 6-7.
unfoldable pub header_good : ℕ → Bool
header_good header = eqb (header % 16) 1 && eqb (header / 32 % 2) 0

unfoldable pub flag_set : ℕ → Bool
flag_set header = eqb (header / 16 % 2) 1

unfoldable pub offset_size : ℕ → ℕ
offset_size header = header / 64 + 1

-- Offsets never fall.
unfoldable pub never_fall : List ℕ → Bool
never_fall [] = true
never_fall (a ∷ []) = true
never_fall (a ∷ b ∷ more) = leb a b && never_fall (b ∷ more)

-- The names between each offset and the next.
unfoldable pub cut_at : List ℕ → List ℕ → List (List ℕ)
cut_at area [] = []
cut_at area (a ∷ []) = []
cut_at area (a ∷ b ∷ more) = part area a b ∷ cut_at area (b ∷ more)

-- Names rise strictly by unsigned bytes.
unfoldable pub rising : List (List ℕ) → Bool
rising [] = true
rising (a ∷ []) = true
rising (a ∷ b ∷ more) = before a b && rising (b ∷ more)

-- Where the offsets start, and where the names do, which end the metadata.
unfoldable pub offsets_start : List ℕ → ℕ
offsets_start metadata = 1 + offset_size (at metadata 0)

unfoldable pub name_count : List ℕ → ℕ
name_count metadata = number_at metadata 1 (offset_size (at metadata 0))

unfoldable pub names_start : List ℕ → ℕ
names_start metadata = offsets_start metadata + (name_count metadata + 1) * offset_size (at metadata 0)

unfoldable pub name_offsets : List ℕ → List ℕ
name_offsets metadata = numbers (offset_size (at metadata 0)) (name_count metadata + 1) (drop (offsets_start metadata) metadata)

unfoldable pub names_area : List ℕ → List ℕ
names_area metadata = drop (names_start metadata) metadata

unfoldable pub names_in : List ℕ → Dictionary
names_in metadata = cut_at (names_area metadata) (name_offsets metadata)

-- The count and the offsets are there.
unfoldable pub framed : List ℕ → Bool
framed metadata = leb (offsets_start metadata) (length metadata) && leb (names_start metadata) (length metadata)

-- The first offset is 0, offsets never fall, the last is the length of the names.
unfoldable pub offsets_good : List ℕ → List ℕ → Bool
offsets_good offsets area = eqb (at offsets 0) 0 && (never_fall offsets && eqb (last_of offsets) (length area))

-- The dictionary of lent metadata, if it keeps its rules. With the flag set, names rise strictly; without it, any order
-- and repeats are legal.
unfoldable pub dictionary_of : List ℕ → Option Dictionary
dictionary_of metadata =
    given (leb 1 (length metadata) && header_good (at metadata 0))
    (given (framed metadata)
    (given (offsets_good (name_offsets metadata) (names_area metadata))
    (given (not (flag_set (at metadata 0)) || rising (names_in metadata)) (Some (names_in metadata)))))
