-- "Normal form" (01): the one way to write what a document means.
use Rattle.std.specs.Prelude.{Bool, true, false, cond, List, [], ◌∷◌, ◌++◌, map, ℕ, zero, suc, ◌+◌, ◌-◌, ◌*◌, max, leb, eqb, length}
use Rattle.numbers.specs.Little.{number_bytes, smallest_width}
use Rattle.std.specs.declared.cmp.Ordering.{Ordering}
use Rattle.std.specs.declared.cmp.Ordering.TheVariants.{Less, Equal, Greater}
use Rattle.order.specs.Before.{order_of}
use Rattle.paper.specs.Words.{same, joined}
use Rattle.paper.specs.Metadata.{Dictionary}
use Rattle.paper.specs.FirstBytes.{count_size}
use Rattle.paper.specs.Meaning.{Scalar, boolean, payload, text, Doc, null, scalar, array, object, Docs, no_docs, doc, Fields, no_fields, field}

-- ---- the dictionary: exactly the names used, rising

-- By how a name compares with the first of some rising names: in front of it, already there, or somewhere behind it;
-- `inserted` is what putting it among the names behind gives.
unfoldable pub insert_by : Ordering → (name first : List ℕ) → (more inserted : Dictionary) → Dictionary
insert_by Less name first more inserted = name ∷ first ∷ more
insert_by Equal name first more inserted = first ∷ more
insert_by Greater name first more inserted = first ∷ inserted

-- A name put where it belongs among rising names, once.
unfoldable pub insert_name : List ℕ → Dictionary → Dictionary
insert_name name [] = name ∷ []
insert_name name (first ∷ more) = insert_by (order_of name first) name first more (insert_name name more)

unfoldable mutual
  pub add_names : Doc → Dictionary → Dictionary
  add_names null names = names
  add_names (scalar s) names = names
  add_names (array ds) names = add_names_of_all ds names
  add_names (object fs) names = add_names_of_fields fs names

  pub add_names_of_all : Docs → Dictionary → Dictionary
  add_names_of_all no_docs names = names
  add_names_of_all (doc d ds) names = add_names d (add_names_of_all ds names)

  pub add_names_of_fields : Fields → Dictionary → Dictionary
  add_names_of_fields no_fields names = names
  add_names_of_fields (field name d fs) names = insert_name name (add_names d (add_names_of_fields fs names))

unfoldable pub names_used : Doc → Dictionary
names_used d = add_names d []

-- ---- parts one after another: where each starts, and where the last ends

unfoldable pub offsets_from : ℕ → List (List ℕ) → List ℕ
offsets_from start [] = start ∷ []
offsets_from start (part ∷ more) = start ∷ offsets_from (start + length part) more

unfoldable pub numbers_bytes : ℕ → List ℕ → List ℕ
numbers_bytes width [] = []
numbers_bytes width (n ∷ ns) = number_bytes width n ++ numbers_bytes width ns

-- ---- metadata: flag set (`11`: version 1, sorted), smallest offset size that holds count and total

unfoldable pub metadata_width : Dictionary → ℕ
metadata_width names = smallest_width (max (length names) (length (joined names)))

unfoldable pub metadata_bytes : Dictionary → List ℕ
metadata_bytes names =
    let width = metadata_width names in
    (0x11 + 0x40 * (width - 1)) ∷ number_bytes width (length names) ++ (numbers_bytes width (offsets_from 0 names) ++ joined names)

-- ---- scalars. A first byte has its kind in the low two bits (`00` primitive, `01` short string, `02` object, `03` array) and
-- the rest, four times over, above them.

-- Binary is type 15, a long string type 16: four bytes of length, then the bytes.
unfoldable pub prefixed_bytes : (type : ℕ) → List ℕ → List ℕ
prefixed_bytes type s = (4 * type) ∷ number_bytes 4 (length s) ++ s

-- Strings are short up to 63 bytes.
unfoldable pub text_bytes : List ℕ → List ℕ
text_bytes s = cond (leb (length s) 63) ((4 * length s + 1) ∷ s) (prefixed_bytes 16 s)

unfoldable pub scalar_bytes : Scalar → List ℕ
scalar_bytes (boolean true) = 0x04 ∷ []
scalar_bytes (boolean false) = 0x08 ∷ []
scalar_bytes (payload type s) = cond (eqb type 15) (prefixed_bytes type s) ((4 * type) ∷ s)
scalar_bytes (text s) = text_bytes s

-- ---- containers: large only above 255 members, id size smallest for the largest id used in that object (1 if empty),
-- offset size smallest for the last offset, values in field order

unfoldable pub large_bit : ℕ → ℕ
large_bit members = cond (leb members 255) 0 1

unfoldable pub largest : List ℕ → ℕ
largest [] = 0
largest (n ∷ ns) = max n (largest ns)

unfoldable pub array_bytes : List (List ℕ) → List ℕ
array_bytes parts =
    let large = large_bit (length parts) in
    let width = smallest_width (length (joined parts)) in
    (0x03 + 0x04 * (width - 1) + 0x10 * large)
    ∷ number_bytes (count_size large) (length parts) ++ (numbers_bytes width (offsets_from 0 parts) ++ joined parts)

unfoldable pub object_bytes : List ℕ → List (List ℕ) → List ℕ
object_bytes ids parts =
    let large = large_bit (length parts) in
    let id_width = smallest_width (largest ids) in
    let width = smallest_width (length (joined parts)) in
    (0x02 + 0x04 * (width - 1) + 0x10 * (id_width - 1) + 0x40 * large)
    ∷ number_bytes (count_size large) (length parts)
    ++ (numbers_bytes id_width ids ++ (numbers_bytes width (offsets_from 0 parts) ++ joined parts))

-- A name's id: its place in the dictionary.
unfoldable pub id_of : Dictionary → List ℕ → ℕ
id_of [] name = 0
id_of (first ∷ more) name = cond (same first name) 0 (suc (id_of more name))

unfoldable pub field_names : Fields → List (List ℕ)
field_names no_fields = []
field_names (field name d fs) = name ∷ field_names fs

-- ---- the value under a dictionary

unfoldable mutual
  pub value_bytes : Dictionary → Doc → List ℕ
  value_bytes names null = 0x00 ∷ []
  value_bytes names (scalar s) = scalar_bytes s
  value_bytes names (array ds) = array_bytes (element_bytes names ds)
  value_bytes names (object fs) = object_bytes (map (id_of names) (field_names fs)) (member_bytes names fs)

  pub element_bytes : Dictionary → Docs → List (List ℕ)
  element_bytes names no_docs = []
  element_bytes names (doc d ds) = value_bytes names d ∷ element_bytes names ds

  pub member_bytes : Dictionary → Fields → List (List ℕ)
  member_bytes names no_fields = []
  member_bytes names (field name d fs) = value_bytes names d ∷ member_bytes names fs

-- A document written out: its metadata and its value.
pub record Document : Type 0 where
  pub metadata : List ℕ
  pub value : List ℕ

unfoldable pub normal_form : Doc → Document
normal_form d = record { metadata = metadata_bytes (names_used d); value = value_bytes (names_used d) d }
