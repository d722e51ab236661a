-- "What a document means" (01). Two documents mean the same exactly when these are equal.
use Rattle.std.specs.Prelude.{Bool, List, ℕ, Option, Some}

-- A boolean; a payload with its type (an int8 34 is not an int64 34; floats and doubles go by their bits); a string's
-- bytes, short or long.
pub data Scalar : Type 0 where
  boolean : Bool → Scalar
  payload : (type : ℕ) → List ℕ → Scalar
  text : List ℕ → Scalar

-- What a string's bytes mean, short or long, in a value or in a cell. Any bytes are text.
unfoldable pub text_meaning : List ℕ → Option Scalar
text_meaning s = Some (text s)

-- Null; a scalar; an array's list; an object's map from names to meanings, kept with the names rising.
mutual
  pub data Doc : Type 0 where
    null : Doc
    scalar : Scalar → Doc
    array : Docs → Doc
    object : Fields → Doc

  pub data Docs : Type 0 where
    no_docs : Docs
    doc : Doc → Docs → Docs

  pub data Fields : Type 0 where
    no_fields : Fields
    field : (name : List ℕ) → Doc → Fields → Fields
