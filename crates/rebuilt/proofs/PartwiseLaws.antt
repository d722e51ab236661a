-- What a place is rebuilt to and which ids it uses, by its parts and by what is typed in it.
use mathlib.Core.List.{List, [], ◌∷◌, ◌++◌, append-nil}
use mathlib.Core.Path.{◌≡◌, refl, sym}
use Prim.Native.Nat.{ℕ, zero, suc}
use Rattle.marking.specs.Ids.{ids_of_all, ids_inside, ids_by, ids_in}
use Rattle.numbers.specs.Little.{number, number_at}
use Rattle.paper.specs.FirstBytes.{count_size, kind_reading, reading_of}
use Rattle.paper.specs.Schemas.{Schema, leftover_only, column, list, fields}
use Rattle.paper.specs.Values.{children_at, starts_of, ids_of}
use Rattle.paper.specs.Words.{numbers}
use Rattle.places.specs.Parts.{parts_of}
use Rattle.places.specs.declared.parts.Parts.TheVariants.{Empty, Leftover, Typed, Both, Unframed}
use Rattle.places.specs.declared.parts.Parts.{Parts}
use Rattle.writing.specs.Rewritten.{rewritten}
use Rattle.rebuilt.specs.Members.{no_left}
use Rattle.rebuilt.specs.Rebuilt.{rebuilt_by, place_rebuilt, typed_rebuilt}
use Rattle.rebuilt.specs.Using.{place_ids, element_ids, typed_ids}

pub place_is-typed : (under : Schema) (levels : ℕ) (ranks schema table : List ℕ) (node : ℕ) (body : List ℕ)
    → place_rebuilt under levels ranks schema table node body
    ≡ rebuilt_by [] (0x00 ∷ []) (rewritten levels ranks) (typed_rebuilt under levels ranks schema table node) (parts_of body) body
unfolding place_rebuilt typed_rebuilt
place_is-typed leftover_only levels ranks schema table node body = refl
place_is-typed (column said) levels ranks schema table node body = refl
place_is-typed (list element) levels ranks schema table node body = refl
place_is-typed (fields columns) levels ranks schema table node body = refl

-- The leftover that is not there uses none.
pub no_left-ids : (levels : ℕ) → ids_in levels no_left ≡ []
unfolding ids_in ids_by reading_of kind_reading count_size ids_of starts_of number_at number numbers children_at ids_inside ids_of_all
no_left-ids zero = refl
no_left-ids (suc levels) = refl

-- Where what is typed uses no id.
no_typed : (levels : ℕ) (p : Parts) (body : List ℕ)
    → rebuilt_by [] [] (ids_in levels) (λ left typed. ids_in levels left) p body ≡ rebuilt_by [] [] (ids_in levels) (λ left typed. ids_in levels left ++ []) p body
unfolding rebuilt_by
no_typed levels Empty body = refl
no_typed levels Leftover body = refl
no_typed levels Typed body = sym (append-nil _)
no_typed levels (Both middle) body = sym (append-nil _)
no_typed levels Unframed body = refl

pub ids_are-typed : (under : Schema) (levels : ℕ) (schema table : List ℕ) (node : ℕ) (body : List ℕ)
    → place_ids under levels schema table node body
    ≡ rebuilt_by [] [] (ids_in levels) (λ left typed. ids_in levels left ++ typed_ids under levels schema table node typed) (parts_of body) body
unfolding place_ids typed_ids element_ids
ids_are-typed leftover_only levels schema table node body = no_typed levels (parts_of body) body
ids_are-typed (column said) levels schema table node body = no_typed levels (parts_of body) body
ids_are-typed (list element) levels schema table node body = refl
ids_are-typed (fields columns) levels schema table node body = refl
