-- What was put for the parts of a place, or for what is typed by the kind of its node, was put for the whole.
use Rattle.std.specs.Prelude.{Option}
use mathlib.Core.List.{List, [], ◌∷◌}
use mathlib.Core.Path.{◌≡◌, ◌∙◌}
use Prim.Native.Nat.{ℕ, ◌+◌, ◌-◌}
use lib.ListN.{length}
use Rattle.paper.specs.Normal.{array_bytes}
use Rattle.paper.specs.Schemas.{Schema, SchemaFields}
use Rattle.paper.specs.Words.{part}
use Rattle.places.specs.Parts.{parts_of}
use Rattle.places.specs.declared.parts.Parts.TheVariants.{Empty, Leftover, Typed, Both}
use Rattle.places.specs.declared.parts.Parts.{Parts}
use Rattle.putting.specs.Put.{PutAs}
use Rattle.rebuilt.proofs.PartwiseLaws.{place_is-typed}
use Rattle.rebuilt.specs.Members.{no_left, object_of}
use Rattle.rebuilt.specs.Rebuilt.{cell_value, rebuilt_by, place_rebuilt, typed_rebuilt}
use Rattle.schemas.proofs.KindLaws.{column_here_lem, list_here_lem, object_here}
use Rattle.schemas.specs.Frames.{frame_end}
use Rattle.schemas.specs.Kinds.{kind_at}
use Rattle.schemas.specs.Positions.{Stands, FieldsStand}
use Rattle.schemas.specs.declared.readers.Kind.TheVariants.{Column as ColumnKind, List as ListKind, Fields as FieldsKind}
use Rattle.schemas.specs.declared.readers.Kind.{Kind}
use Rattle.writing.specs.Rewritten.{rewritten}
use Rattle.building.specs.Building.{elements_rebuilt, members_rebuilt}

module _ (levels : ℕ) (ranks schema table : List ℕ) (node : ℕ) (body : List ℕ) where
  module _ {p : Parts} (is : p ≡ parts_of body) where
    by_parts : {q : Parts} → p ≡ q → (under : Schema)
        → place_rebuilt under levels ranks schema table node body
        ≡ rebuilt_by [] (0x00 ∷ []) (rewritten levels ranks) (typed_rebuilt under levels ranks schema table node) q body
    by_parts e under = place_is-typed under levels ranks schema table node body ∙ rw (← is, e)

    module _ {before after : List ℕ} {floor end : ℕ} {r : Option ℕ} where
      pub placed_empty : p ≡ Empty → PutAs (0x00 ∷ []) before after floor end r
          → (under : Schema) → Stands levels schema node under → PutAs (place_rebuilt under levels ranks schema table node body) before after floor end r
      unfolding rebuilt_by
      placed_empty e done under stands = rw (by_parts e under) done

      pub placed_left : p ≡ Leftover → PutAs (rewritten levels ranks (part body 3 (length body))) before after floor end r
          → (under : Schema) → Stands levels schema node under → PutAs (place_rebuilt under levels ranks schema table node body) before after floor end r
      unfolding rebuilt_by
      placed_left e done under stands = rw (by_parts e under) done

      pub placed_typed : p ≡ Typed
          → ((under : Schema) → Stands levels schema node under → PutAs (typed_rebuilt under levels ranks schema table node no_left (part body 3 (length body))) before after floor end r)
          → (under : Schema) → Stands levels schema node under → PutAs (place_rebuilt under levels ranks schema table node body) before after floor end r
      unfolding rebuilt_by
      placed_typed e put under stands = rw (by_parts e under) (put under stands)

      pub placed_both : {middle : ℕ} → p ≡ Both middle
          → ((under : Schema) → Stands levels schema node under
          → PutAs (typed_rebuilt under levels ranks schema table node (part body 3 middle) (part body (middle + 3) (length body))) before after floor end r)
          → (under : Schema) → Stands levels schema node under → PutAs (place_rebuilt under levels ranks schema table node body) before after floor end r
      unfolding rebuilt_by
      placed_both e put under stands = rw (by_parts e under) (put under stands)

module _ (levels : ℕ) (ranks schema table : List ℕ) (node : ℕ) (left body : List ℕ) {k : Kind} (is : k ≡ kind_at schema node) {before after : List ℕ} {floor end : ℕ} {r : Option ℕ} where
  pub put_cell : {code : ℕ} → k ≡ ColumnKind code → PutAs (cell_value code body) before after floor end r
      → (under : Schema) → Stands levels schema node under → PutAs (typed_rebuilt under levels ranks schema table node left body) before after floor end r
  unfolding typed_rebuilt
  put_cell {code} e done under stands =
      let here = column_here_lem stands is e in
      rw (here.1, here.2) done

  pub put_list : k ≡ ListKind
      → ((element : Schema) → Stands (levels - 1) schema (node + 3) element → PutAs (array_bytes (elements_rebuilt element (levels - 1) ranks schema table (node + 3) body)) before after floor end r)
      → (under : Schema) → Stands levels schema node under → PutAs (typed_rebuilt under levels ranks schema table node left body) before after floor end r
  unfolding typed_rebuilt
  put_list e put under stands =
      let here = list_here_lem stands is e in
      rw here.1 (put here.0 here.2.inside)

  pub put_fields : k ≡ FieldsKind → (to : ℕ) → to ≡ frame_end schema node
      → ((columns : SchemaFields) → FieldsStand (levels - 1) schema (node + 3) to columns
      → PutAs (object_of ranks (members_rebuilt columns (levels - 1) ranks schema table (node + 3) left body)) before after floor end r)
      → (under : Schema) → Stands levels schema node under → PutAs (typed_rebuilt under levels ranks schema table node left body) before after floor end r
  unfolding typed_rebuilt
  put_fields e to ends put under stands =
      let here = object_here stands is e in
      rw here.1 (put here.0 (rw ends here.2.inside))
