-- A document that some bytes could mean: scalars of their types and sizes, names that rise, so many levels at most.
use Rattle.std.specs.Prelude.{Bool, true, false, not, ◌&&◌, ◌||◌, ℕ, zero, suc, leb, eqb, length, get_or}
use Rattle.paper.specs.FirstBytes.{payload_sizes}
use Rattle.paper.specs.Meaning.{Scalar, boolean, payload, text, Doc, null, scalar, array, object, Docs, no_docs, doc, Fields, no_fields, field}
use Rattle.paper.specs.Metadata.{Dictionary, rising}
use Rattle.paper.specs.Normal.{field_names}
use Rattle.paper.specs.Words.{at, among}

-- A payload's type is 3 to 20 and not a string's; its size is its type's, unless it is binary; a decimal's scale byte is
-- at most 38.
unfoldable pub scalar_good : Scalar → Bool
scalar_good (boolean b) = true
scalar_good (payload type s) =
    leb 3 type && (leb type 20 && (not (eqb type 16)
    && ((eqb type 15 || eqb (length s) (get_or payload_sizes type 0)) && (not (leb 8 type && leb type 10) || leb (at s 0) 38))))
scalar_good (text s) = true

-- Each of some documents, and each member of some fields, passes a test.
unfoldable pub all_docs : (Doc → Bool) → Docs → Bool
all_docs good no_docs = true
all_docs good (doc d ds) = good d && all_docs good ds

unfoldable pub all_members : (Doc → Bool) → Fields → Bool
all_members good no_fields = true
all_members good (field name d fs) = good d && all_members good fs

-- A document by its kind, what is inside by a test of it.
unfoldable pub well_formed_by : (Doc → Bool) → Doc → Bool
well_formed_by inner null = true
well_formed_by inner (scalar s) = scalar_good s
well_formed_by inner (array ds) = all_docs inner ds
well_formed_by inner (object fs) = rising (field_names fs) && all_members inner fs

-- Within so many levels.
unfoldable pub well_formed : (levels : ℕ) → Doc → Bool
well_formed zero d = false
well_formed (suc levels) d = well_formed_by (well_formed levels) d

-- A dictionary has every name of a document.
unfoldable mutual
  pub names_there : Dictionary → Doc → Bool
  names_there names null = true
  names_there names (scalar s) = true
  names_there names (array ds) = all_names_there names ds
  names_there names (object fs) = field_names_there names fs

  pub all_names_there : Dictionary → Docs → Bool
  all_names_there names no_docs = true
  all_names_there names (doc d ds) = names_there names d && all_names_there names ds

  pub field_names_there : Dictionary → Fields → Bool
  field_names_there names no_fields = true
  field_names_there names (field name d fs) = among name names && (names_there names d && field_names_there names fs)
