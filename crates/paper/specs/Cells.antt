-- Typed cells (01): which values a column takes, how a cell is written and what it means; and the reader of one cell.
use Rattle.std.specs.Prelude.{Bool, true, false, cond, ◌&&◌, ◌||◌, List, [], ◌∷◌, ℕ, leb, eqb, length, take, drop, get_or, Option, None, Some}
use Rattle.std.specs.Float.Ieee.{of_bits, nan_bits}
use Rattle.std.specs.Float.{binary32, binary64}
use Rattle.numbers.specs.Little.{number}
use Rattle.signed.specs.Signed.{signed_of}
use Rattle.paper.specs.Words.{at, given}
use Rattle.paper.specs.FirstBytes.{payload_sizes}
use Rattle.paper.specs.Meaning.{Scalar, boolean, payload, text, text_meaning}
use Rattle.paper.specs.Schemas.{Column}
use Rattle.paper.specs.declared.Cell.{Cell}
use Rattle.paper.specs.declared.Cell.TheVariants.{Boolean, Integer, Float, Double, FloatNan, DoubleNan, Length, Uuid}

-- A value enters a typed column exactly when its type is that column's. A boolean's code is 1, a string's 16.
unfoldable pub takes : Column → Scalar → Bool
takes column (boolean b) = eqb column.code 1
takes column (payload type s) = eqb column.code type
takes column (text s) = eqb column.code 16

-- Typed body: a primitive's payload (string and binary without their length, boolean `00` false or `01` true).
unfoldable pub cell_bytes : Column → Scalar → List ℕ
cell_bytes column (boolean false) = 0x00 ∷ []
cell_bytes column (boolean true) = 0x01 ∷ []
cell_bytes column (payload type s) = s
cell_bytes column (text s) = s

-- The kinds of cell bodies.
pub data BodyKind : Type 0 where
  yes_no string binary sized : BodyKind

unfoldable pub body_kind : (code : ℕ) → BodyKind
body_kind code = cond (eqb code 1) yes_no (cond (eqb code 15) binary (cond (eqb code 16) string sized))

unfoldable pub cell_by : BodyKind → (code : ℕ) → List ℕ → Option Scalar
cell_by yes_no code s = given (eqb (length s) 1 && leb (at s 0) 1) (Some (boolean (eqb (at s 0) 1)))
cell_by string code s = text_meaning s
cell_by binary code s = Some (payload code s)
cell_by sized code s = given (eqb (length s) (get_or payload_sizes code 0)) (Some (payload code s))

-- What a cell's bytes mean in its column, if they have the right size and content.
unfoldable pub cell_meaning : Column → List ℕ → Option Scalar
cell_meaning column s = cell_by (body_kind column.code) column.code s

-- ---- "A cell, given a type code and its bytes, is handed out by kind" (01, Two readers)

-- A number cell: 7 is a double, 14 a float, 20 a uuid; the others are integers, dates and times. A float's or double's
-- number is that of its bits; a NaN's bits are handed out as they are.
unfoldable pub number_cell : (type : ℕ) → List ℕ → Cell
number_cell type s =
    cond (eqb type 7) (cond (nan_bits binary64 (number s)) (DoubleNan (number s)) (Double (of_bits binary64 (number s))))
    (cond (eqb type 14) (cond (nan_bits binary32 (number s)) (FloatNan (number s)) (Float (of_bits binary32 (number s))))
    (cond (eqb type 20) (Uuid (number (take 8 s)) (number (drop 8 s))) (Integer (signed_of (length s) (number s)))))

unfoldable pub handed_out : Scalar → Cell
handed_out (boolean b) = Boolean b
handed_out (payload type s) = cond (eqb type 15) (Length (length s)) (number_cell type s)
handed_out (text s) = Length (length s)
