-- What the first byte of a document's normal value says of the document: which kinds it can be of.
use mathlib.Core.Bool.{Bool, true, false, cond}
use mathlib.Core.List.{List, ◌∷◌}
use mathlib.Core.Path.{◌≡◌, refl, sym}
use Prim.Native.Nat.{ℕ, zero, suc, ◌+◌, ◌*◌, ◌<◌}
use native.Mathlib.Omega.{arith}
use borrow.Author.Tests.{eqb-true, eqb-false}
use lib.Dec.{leb, eqb}
use lib.ListN.{length}
use Rattle.forms.proofs.FirstByteLaws.{short_reading, string_reading, binary_reading, fixed_reading}
use Rattle.forms.proofs.ScalarLaws.{payload_parts}
use Rattle.forms.specs.WellFormed.{scalar_good, well_formed_by, well_formed}
use Rattle.members.proofs.HeldLaws.{array_reads, object_reads}
use Rattle.paper.proofs.WordLaws.{never}
use Rattle.paper.specs.FirstBytes.{length_prefixed, payload_sizes, primitive_reading, kind_reading, reading_of}
use Rattle.paper.specs.Meaning.{Scalar, boolean, payload, text, Doc, null, scalar, array, object, Docs, Fields}
use Rattle.paper.specs.Metadata.{Dictionary}
use Rattle.paper.specs.Normal.{prefixed_bytes, text_bytes, scalar_bytes, array_bytes, object_bytes, value_bytes}
use Rattle.paper.specs.Words.{at}
use Rattle.paper.specs.declared.Reading.TheVariants.{Fixed, Prefixed, Short, ObjectHead, ArrayHead}
use Rattle.paper.specs.declared.Reading.{Reading}

-- A document, and how its first byte is read.
pub data Shape : Doc → Reading → Type 0 where
  nothing : {code size : ℕ} → Shape null (Fixed code size)
  fixed : {a : Scalar} {code size : ℕ} → Shape (scalar a) (Fixed code size)
  prefixed : {a : Scalar} {code : ℕ} → Shape (scalar a) (Prefixed code)
  short : {a : Scalar} {size : ℕ} → Shape (scalar a) (Short size)
  listed : {ds : Docs} {counted width : ℕ} → Shape (array ds) (ArrayHead counted width)
  fielded : {fs : Fields} {counted id width : ℕ} → Shape (object fs) (ObjectHead counted id width)

-- ---- the shape of what is written

payload_shape : (type : ℕ) (s : List ℕ) → scalar_good (payload type s) ≡ true
    → Shape (scalar (payload type s)) (reading_of (at (cond (eqb type 15) (prefixed_bytes type s) ((4 * type) ∷ s)) 0))
unfolding prefixed_bytes
payload_shape type s good = go (eqb type 15) refl
  where
    go : (b : Bool) → eqb type 15 ≡ b → Shape (scalar (payload type s)) (reading_of (at (cond b (prefixed_bytes type s) ((4 * type) ∷ s)) 0))
    go true e = rw (eqb-true type 15 e, binary_reading) prefixed
    go false e =
        let parts = payload_parts type s good in
        rw (fixed_reading type parts.most (eqb-false type 15 e) parts.no_string) fixed

text_shape : (s : List ℕ) → Shape (scalar (text s)) (reading_of (at (text_bytes s) 0))
unfolding text_bytes prefixed_bytes
text_shape s = go (leb (length s) 63)
  where
    go : (b : Bool) → Shape (scalar (text s)) (reading_of (at (cond b ((4 * length s + 1) ∷ s) (prefixed_bytes 16 s)) 0))
    go true = rw short_reading short
    go false = rw string_reading prefixed

scalar_shape : (a : Scalar) → scalar_good a ≡ true → Shape (scalar a) (reading_of (at (scalar_bytes a) 0))
unfolding scalar_bytes reading_of kind_reading primitive_reading payload_sizes length_prefixed
scalar_shape (boolean true) good = fixed
scalar_shape (boolean false) good = fixed
scalar_shape (payload type s) good = payload_shape type s good
scalar_shape (text s) good = text_shape s

pub value_shape : (names : Dictionary) (depth : ℕ) (d : Doc) → well_formed depth d ≡ true → Shape d (reading_of (at (value_bytes names d) 0))
unfolding well_formed well_formed_by value_bytes reading_of kind_reading primitive_reading payload_sizes length_prefixed
value_shape names zero d good = never (sym good)
value_shape names (suc depth) null good = nothing
value_shape names (suc depth) (scalar a) good = scalar_shape a good
value_shape names (suc depth) (array ds) good = rw array_reads listed
value_shape names (suc depth) (object fs) good = rw object_reads fielded

-- ---- there is a first byte

scalar_there : (a : Scalar) → 0 < length (scalar_bytes a)
unfolding scalar_bytes text_bytes prefixed_bytes
scalar_there (boolean true) = omega arith
scalar_there (boolean false) = omega arith
scalar_there (payload type s) = go (eqb type 15)
  where
    go : (b : Bool) → 0 < length (cond b (prefixed_bytes type s) ((4 * type) ∷ s))
    go true = omega arith
    go false = omega arith
scalar_there (text s) = go (leb (length s) 63)
  where
    go : (b : Bool) → 0 < length (cond b ((4 * length s + 1) ∷ s) (prefixed_bytes 16 s))
    go true = omega arith
    go false = omega arith

pub value_there : (names : Dictionary) (d : Doc) → 0 < length (value_bytes names d)
unfolding value_bytes array_bytes object_bytes
value_there names null = omega arith
value_there names (scalar a) = scalar_there a
value_there names (array ds) = omega arith
value_there names (object fs) = omega arith
