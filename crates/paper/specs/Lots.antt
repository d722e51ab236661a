-- "Sample lots" (01): the starred ones, and lots that a tempting wrong reading would answer otherwise.
use Rattle.std.specs.Prelude.{◌≡◌, true, List, [], ◌∷◌, ℕ, zero, suc, Err, Ok}
use Rattle.paper.specs.Refusals.{Outcome}
use Rattle.paper.specs.Meaning.{Doc, null, scalar, boolean, payload, text, object, Fields, no_fields, field}
use Rattle.paper.specs.Normal.{Document, array_bytes}
use Rattle.paper.specs.Operations.{check_outcome, check_answer, shred_outcome, rebuild_outcome}
use Rattle.paper.specs.Answers.{checked_number}
use Rattle.paper.specs.declared.Refusal.{Refusal}

-- What a lot says.
pub data Lot : Type 0 where
  checks : (metadata value : List ℕ) → (number : ℕ) → Lot
  means : (metadata value : List ℕ) → Doc → Lot
  shreds : (schema metadata value row : List ℕ) → Lot
  rebuilds : (schema row metadata value : List ℕ) → Lot
  refused_row : (schema row : List ℕ) → Refusal → Lot

-- A lot holds of the definitions.
unfoldable pub Holds : Lot → Type 0
Holds (checks metadata value number) = checked_number (check_answer metadata value) ≡ number
Holds (means metadata value d) = check_outcome metadata value ≡ Ok d
Holds (shreds schema metadata value row) = shred_outcome schema metadata value ≡ Ok row
Holds (rebuilds schema row metadata value) = rebuild_outcome schema row ≡ Ok (record { metadata = metadata; value = value })
Holds (refused_row schema row refusal) = rebuild_outcome schema row ≡ Err refusal

unfoldable pub AllHold : List Lot → Type 0
unfolding Holds
AllHold [] = Unit {0}
AllHold (lot ∷ lots) = Holds lot × AllHold lots

-- ---- names for bytes that stand in several lots

unfoldable pub no_names : List ℕ
no_names = 0x01 ∷ 0x00 ∷ 0x00 ∷ []

names_b_a : List ℕ
names_b_a = 0x01 ∷ 0x02 ∷ 0x00 ∷ 0x01 ∷ 0x02 ∷ 0x62 ∷ 0x61 ∷ []

-- {a: null, b: true}
null_and_true : Doc
null_and_true = object (field (0x61 ∷ []) null (field (0x62 ∷ []) (scalar (boolean true)) no_fields))

-- a boolean column named a
unfoldable pub column_a : List ℕ
column_a = 0x30 ∷ 0x0B ∷ 0x00 ∷ 0x31 ∷ 0x08 ∷ 0x00 ∷ 0x32 ∷ 0x01 ∷ 0x00 ∷ 0x61 ∷ 0x10 ∷ 0x01 ∷ 0x00 ∷ 0x01 ∷ []

-- ---- the starred lots

unfoldable pub starred : List Lot
unfolding no_names names_b_a null_and_true column_a
starred =
    checks no_names (0x00 ∷ []) 0
    ∷ checks (0x01 ∷ 0x00 ∷ []) (0x00 ∷ []) 2
    ∷ checks names_b_a (0x00 ∷ []) 0
    ∷ checks (0x11 ∷ 0x02 ∷ 0x00 ∷ 0x01 ∷ 0x02 ∷ 0x62 ∷ 0x61 ∷ []) (0x00 ∷ []) 2
    ∷ means no_names (0x00 ∷ []) null
    ∷ means no_names (0x0D ∷ 0x6E ∷ 0x2F ∷ 0x61 ∷ []) (scalar (text (0x6E ∷ 0x2F ∷ 0x61 ∷ [])))
    ∷ means no_names (0x40 ∷ 0x03 ∷ 0x00 ∷ 0x00 ∷ 0x00 ∷ 0x6E ∷ 0x2F ∷ 0x61 ∷ []) (scalar (text (0x6E ∷ 0x2F ∷ 0x61 ∷ [])))
    ∷ checks no_names (0x13 ∷ 0x6E ∷ 0x2F ∷ 0x61 ∷ []) 3
    ∷ means no_names (0x02 ∷ 0x00 ∷ 0x00 ∷ []) (object no_fields)
    ∷ means names_b_a (0x02 ∷ 0x02 ∷ 0x01 ∷ 0x00 ∷ 0x00 ∷ 0x01 ∷ 0x02 ∷ 0x00 ∷ 0x04 ∷ []) null_and_true
    ∷ means names_b_a (0x02 ∷ 0x02 ∷ 0x01 ∷ 0x00 ∷ 0x01 ∷ 0x00 ∷ 0x02 ∷ 0x04 ∷ 0x00 ∷ []) null_and_true
    ∷ shreds (0x10 ∷ 0x01 ∷ 0x00 ∷ 0x06 ∷ []) no_names (0x18 ∷ 0x22 ∷ 0 ∷ 0 ∷ 0 ∷ 0 ∷ 0 ∷ 0 ∷ 0 ∷ [])
    (0x40 ∷ 0x03 ∷ 0x00 ∷ 0x11 ∷ 0x00 ∷ 0x00 ∷ 0x50 ∷ 0x0B ∷ 0x00 ∷ 0x42 ∷ 0x08 ∷ 0x00 ∷ 0x22 ∷ 0 ∷ 0 ∷ 0 ∷ 0 ∷ 0 ∷ 0 ∷ 0 ∷ [])
    ∷ shreds column_a names_b_a (0x02 ∷ 0x02 ∷ 0x01 ∷ 0x00 ∷ 0x00 ∷ 0x01 ∷ 0x02 ∷ 0x00 ∷ 0x04 ∷ [])
    (0x40 ∷ 0x07 ∷ 0x00 ∷ 0x11 ∷ 0x02 ∷ 0x00 ∷ 0x01 ∷ 0x02 ∷ 0x61 ∷ 0x62
    ∷ 0x50 ∷ 0x13 ∷ 0x00 ∷ 0x41 ∷ 0x06 ∷ 0x00 ∷ 0x02 ∷ 0x01 ∷ 0x01 ∷ 0x00 ∷ 0x01 ∷ 0x04
    ∷ 0x42 ∷ 0x07 ∷ 0x00 ∷ 0x50 ∷ 0x04 ∷ 0x00 ∷ 0x41 ∷ 0x01 ∷ 0x00 ∷ 0x00 ∷ [])
    ∷ []

-- ---- lots that a tempting wrong reading would answer otherwise

-- null inside so many arrays
unfoldable pub nested : ℕ → List ℕ
nested zero = 0x00 ∷ []
nested (suc n) = array_bytes (nested n ∷ [])

unfoldable pub tempting : List Lot
unfolding no_names names_b_a column_a nested
tempting =
    -- level 16 is good, 17 is not
    checks no_names (nested 15) 0
    ∷ checks no_names (nested 16) 3
    -- a first offset that is not 0, in metadata and in an empty array
    ∷ checks (0x01 ∷ 0x01 ∷ 0x01 ∷ 0x02 ∷ 0x61 ∷ 0x62 ∷ []) (0x00 ∷ []) 2
    ∷ checks no_names (0x03 ∷ 0x00 ∷ 0x01 ∷ 0x00 ∷ []) 3
    -- names by id, not by bytes
    ∷ checks names_b_a (0x02 ∷ 0x02 ∷ 0x00 ∷ 0x01 ∷ 0x00 ∷ 0x01 ∷ 0x02 ∷ 0x00 ∷ 0x04 ∷ []) 3
    -- two fields that share one child
    ∷ checks names_b_a (0x02 ∷ 0x02 ∷ 0x01 ∷ 0x00 ∷ 0x00 ∷ 0x00 ∷ 0x01 ∷ 0x04 ∷ []) 3
    -- an int8 34 is not an int64 34
    ∷ shreds (0x10 ∷ 0x01 ∷ 0x00 ∷ 0x06 ∷ []) no_names (0x0C ∷ 0x22 ∷ [])
    (0x40 ∷ 0x03 ∷ 0x00 ∷ 0x11 ∷ 0x00 ∷ 0x00 ∷ 0x50 ∷ 0x05 ∷ 0x00 ∷ 0x41 ∷ 0x02 ∷ 0x00 ∷ 0x0C ∷ 0x22 ∷ [])
    -- a missing field is an empty place, and not null
    ∷ shreds column_a no_names (0x02 ∷ 0x00 ∷ 0x00 ∷ [])
    (0x40 ∷ 0x03 ∷ 0x00 ∷ 0x11 ∷ 0x00 ∷ 0x00 ∷ 0x50 ∷ 0x06 ∷ 0x00 ∷ 0x42 ∷ 0x03 ∷ 0x00 ∷ 0x50 ∷ 0x00 ∷ 0x00 ∷ [])
    -- an empty outermost place is null
    ∷ rebuilds column_a (0x40 ∷ 0x03 ∷ 0x00 ∷ 0x11 ∷ 0x00 ∷ 0x00 ∷ 0x50 ∷ 0x00 ∷ 0x00 ∷ []) (0x11 ∷ 0x00 ∷ 0x00 ∷ []) (0x00 ∷ [])
    -- the column does not win over a leftover that has its name (rule c)
    ∷ refused_row column_a
    (0x40 ∷ 0x05 ∷ 0x00 ∷ 0x11 ∷ 0x01 ∷ 0x00 ∷ 0x01 ∷ 0x61
    ∷ 0x50 ∷ 0x13 ∷ 0x00 ∷ 0x41 ∷ 0x06 ∷ 0x00 ∷ 0x02 ∷ 0x01 ∷ 0x00 ∷ 0x00 ∷ 0x01 ∷ 0x08
    ∷ 0x42 ∷ 0x07 ∷ 0x00 ∷ 0x50 ∷ 0x04 ∷ 0x00 ∷ 0x42 ∷ 0x01 ∷ 0x00 ∷ 0x01 ∷ [])
    Refusal.BrokenRule
    ∷ []
