-- The ids that a place uses and what it means, by its parts: from its leftover and from what is typed in it.
use mathlib.Core.List.{List, [], ◌++◌}
use mathlib.Core.Path.{◌≡◌, refl}
use Prim.Native.Nat.{ℕ}
use Rattle.marking.specs.Ids.{ids_in}
use Rattle.paper.specs.Meaning.{Doc, array, object}
use Rattle.paper.specs.Rebuilding.{place_meaning_by, cell_doc, inner_doc, list_meaning, place_meaning, fields_meaning}
use Rattle.paper.specs.Rows.{Typed}
use Rattle.paper.specs.Schemas.{Schema, leftover_only, column, list, fields}
use Rattle.places.specs.Parts.{parts_of}
use Rattle.rebuilt.proofs.PartwiseLaws.{ids_are-typed}
use Rattle.rebuilt.specs.Rebuilt.{rebuilt_by}
use Rattle.rebuilt.specs.Using.{place_ids, typed_ids}

-- ---- the ids

unfoldable pub inside_ids : Schema → (levels : ℕ) → (schema table : List ℕ) → (node : ℕ) → (left typed : List ℕ) → List ℕ
inside_ids under levels schema table node left typed = ids_in levels left ++ typed_ids under levels schema table node typed

pub ids_parts : (under : Schema) (levels : ℕ) (schema table : List ℕ) (node : ℕ) (body : List ℕ)
    → place_ids under levels schema table node body ≡ rebuilt_by [] [] (ids_in levels) (inside_ids under levels schema table node) (parts_of body) body
unfolding inside_ids
ids_parts under levels schema table node body = ids_are-typed under levels schema table node body

-- ---- the meaning

unfoldable pub typed_meaning : Schema → Typed → Doc
typed_meaning leftover_only = cell_doc
typed_meaning (column said) = cell_doc
typed_meaning (list element) = inner_doc (λ ps. array (list_meaning (place_meaning element) ps))
typed_meaning (fields columns) = inner_doc (λ ps. object (fields_meaning columns ps))

pub meaning_parts : (under : Schema) → place_meaning under ≡ place_meaning_by (typed_meaning under)
unfolding place_meaning typed_meaning
meaning_parts leftover_only = refl
meaning_parts (column said) = refl
meaning_parts (list element) = refl
meaning_parts (fields columns) = refl
