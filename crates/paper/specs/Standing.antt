-- What stands in a document, and where: the field of a name, the element of an index, and what stands at a path.
use Rattle.std.specs.Prelude.{cond, List, [], ◌∷◌, ℕ, zero, suc, Option, None, Some}
use Rattle.paper.specs.Words.{and_then, same}
use Rattle.paper.specs.Meaning.{Doc, null, scalar, array, object, Docs, no_docs, doc, Fields, no_fields, field}

-- A step of a path: into an object by a name, or into an array by an index.
pub data Step : Type 0 where
  by_name : List ℕ → Step
  by_index : ℕ → Step

-- The field of a name.
unfoldable pub field_at : (name : List ℕ) → Fields → Option Doc
field_at name no_fields = None
field_at name (field first d fs) = cond (same first name) (Some d) (field_at name fs)

-- The element of an index, counted from 0.
unfoldable pub element_at : (index : ℕ) → Docs → Option Doc
element_at index no_docs = None
element_at zero (doc d ds) = Some d
element_at (suc index) (doc d ds) = element_at index ds

-- Where one step leads: nowhere from a wrong kind, for a name that is not there, or past the end.
unfoldable pub step_from : Doc → Step → Option Doc
step_from (object fs) (by_name name) = field_at name fs
step_from (array ds) (by_index index) = element_at index ds
step_from (object fs) (by_index index) = None
step_from (array ds) (by_name name) = None
step_from null step = None
step_from (scalar s) step = None

-- What stands at a path of a document. The empty path is the whole.
unfoldable pub stands_at : Doc → List Step → Option Doc
stands_at d [] = Some d
stands_at d (step ∷ more) = and_then (step_from d step) λ inner. stands_at inner more
