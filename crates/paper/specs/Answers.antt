-- The number and the values of each answer (01, When the register says no). What an answer can carry comes first, with the
-- rule of zeros; then what each case of each answer carries.
use Rattle.std.specs.Prelude.{cond, List, [], ◌∷◌, ℕ, Option, None, Some, Ok, Err, ⊤}
use Rattle.std.specs.Float.Ieee.{to_bits}
use Rattle.std.specs.Float.{binary32, binary64}
use Rattle.numbers.specs.Little.{number}
use Rattle.signed.specs.Signed.{signed_bytes}
use Rattle.paper.specs.Refusals.{Outcome, DocumentAnswer, RowAnswer, refusal_number}
use Rattle.paper.specs.Words.{at}
use Rattle.paper.specs.declared.Child.{Child}
use Rattle.paper.specs.declared.Unwritten.TheVariants.{Refused, Short}
use Rattle.paper.specs.declared.Refusal.{Refusal}
use Rattle.paper.specs.declared.Cell.{Cell}
use Rattle.paper.specs.declared.Cell.TheVariants.{Boolean, Integer, Float, Double, FloatNan, DoubleNan, Length, Uuid}
use Rattle.paper.specs.declared.LotBox.{LotBox}

-- ---- what an answer can carry

pub data Carried : Type 0 where
  -- good, done, found or read, with its values
  done : (values : List ℕ) → Carried
  -- nothing of the kind is there
  absent : Carried
  -- refusals 1 to 8
  refusal : Refusal → Carried
  -- refusal 9, with the lengths needed
  short : (needed : List ℕ) → Carried

-- The number of 01's table.
abbrev pub number_of : Carried → ℕ
number_of (done values) = 0
number_of absent = 0
number_of (refusal r) = refusal_number r
number_of (short needed) = 9

-- 1 if something is there, else 0: number 0 alone does not tell done from absent.
abbrev pub present_of : Carried → ℕ
present_of (done values) = 1
present_of absent = 0
present_of (refusal r) = 0
present_of (short needed) = 0

-- The value at a place, counted from 0. "A 9 carries the lengths needed; absent and the other refusals carry zeros."
abbrev pub value_of : Carried → (place : ℕ) → ℕ
value_of (done values) place = at values place
value_of absent place = 0
value_of (refusal r) place = 0
value_of (short needed) place = at needed place

-- ---- check: no values

abbrev pub checked_carries : Outcome ⊤ → Carried
checked_carries (Ok good) = done []
checked_carries (Err r) = refusal r

-- Its number alone, for the sample lots.
abbrev pub checked_number : Outcome ⊤ → ℕ
checked_number answer = number_of (checked_carries answer)

-- ---- find: the start and the length

abbrev pub found_carries : Outcome (Option Child) → Carried
found_carries (Ok (Some part)) = done (part.start ∷ part.size ∷ [])
found_carries (Ok None) = absent
found_carries (Err r) = refusal r

-- ---- normalise and rebuild: the length of the metadata, the length of the value

abbrev pub document_carries : DocumentAnswer → Carried
document_carries (Ok written) = done (written.metadata ∷ written.value ∷ [])
document_carries (Err (Short needed)) = short (needed.metadata ∷ needed.value ∷ [])
document_carries (Err (Refused r)) = refusal r

-- ---- shred: the length of the row

abbrev pub row_carries : RowAnswer → Carried
row_carries (Ok length) = done (length ∷ [])
row_carries (Err (Short needed)) = short (needed ∷ [])
row_carries (Err (Refused r)) = refusal r

-- ---- the cell reader: the cell's kind, and the 64-bit number or numbers that it holds

-- Yes is 1 and no is 0; a signed number is in two's complement; a float or a double is its bits, of a NaN too.
abbrev pub cell_values : Cell → List ℕ
cell_values (Boolean b) = 1 ∷ cond b 1 0 ∷ []
cell_values (Integer z) = 2 ∷ number (signed_bytes 8 z) ∷ []
cell_values (Float x) = 3 ∷ to_bits binary32 x ∷ []
cell_values (FloatNan bits) = 3 ∷ bits ∷ []
cell_values (Double x) = 4 ∷ to_bits binary64 x ∷ []
cell_values (DoubleNan bits) = 4 ∷ bits ∷ []
cell_values (Length length) = 5 ∷ length ∷ []
cell_values (Uuid first second) = 6 ∷ first ∷ second ∷ []

abbrev pub cell_carries : Outcome Cell → Carried
cell_carries (Ok c) = done (cell_values c)
cell_carries (Err r) = refusal r

-- ---- the box reader: the bits of the four sides, east, north, south and west

abbrev pub box_values : LotBox → List ℕ
box_values b = to_bits binary64 b.east ∷ to_bits binary64 b.north ∷ to_bits binary64 b.south ∷ to_bits binary64 b.west ∷ []

abbrev pub box_carries : Outcome (Option LotBox) → Carried
box_carries (Ok (Some b)) = done (box_values b)
box_carries (Ok None) = absent
box_carries (Err r) = refusal r
