-- A place by its parts and what is typed in it by its node's kind: what the calls ask, and that their marks are all of them.
use mathlib.Core.List.{List, [], ◌++◌}
use mathlib.Core.Path.{◌≡◌, sym, ap, ◌∙◌}
use Prim.Native.Nat.{ℕ, ◌+◌, ◌-◌, ◌≤◌}
use native.Mathlib.Omega.{arith}
use lib.ListN.{length, length-take, length-drop}
use Rattle.marking.proofs.MarkLaws.{marked_length, mark_append}
use Rattle.marking.specs.Ids.{ids_in, mark_ids}
use Rattle.marking.specs.Marking.{Markable}
use Rattle.paper.proofs.WordLaws.{some_there}
use Rattle.paper.specs.Schemas.{Schema, SchemaFields}
use Rattle.paper.specs.Values.{meaning_of}
use Rattle.paper.specs.Words.{part}
use Rattle.places.proofs.PlaceLaws.{both_long}
use Rattle.places.specs.Parts.{parts_of}
use Rattle.places.specs.declared.parts.Parts.TheVariants.{Empty, Leftover, Typed, Both, Unframed}
use Rattle.places.specs.declared.parts.Parts.{Parts}
use Rattle.rebuilt.proofs.PartwiseLaws.{ids_are-typed, no_left-ids}
use Rattle.rebuilt.proofs.ThereLaws.{place_leftover, place_only, place_beside, place_behind, typed_elements, typed_members}
use Rattle.rebuilt.specs.Rebuilt.{rebuilt_by, pieces_in}
use Rattle.rebuilt.specs.Using.{place_ids, member_ids, element_ids, typed_ids}
use Rattle.schemas.proofs.KindLaws.{leftover_here_lem, column_here_lem, list_here_lem, object_here}
use Rattle.schemas.specs.Frames.{frame_end}
use Rattle.schemas.specs.Kinds.{kind_at}
use Rattle.schemas.specs.Positions.{Stands, FieldsStand}
use Rattle.schemas.specs.declared.readers.Kind.TheVariants.{Leftover as LeftoverKind, Column as ColumnKind, List as ListKind, Fields as FieldsKind}
use Rattle.schemas.specs.declared.readers.Kind.{Kind}
use Rattle.gathering.specs.Gathering.{PlaceReady, TypedReady, ElementsReady, MembersReady}

-- ---- a place

-- Where both parts stand.
module _ (body : List ℕ) {p : Parts} (is : p ≡ parts_of body) {middle : ℕ} (e : p ≡ Both middle) where
  pub left_begins : 3 ≤ middle
  left_begins = (both_long body is e).0

  pub left_ends : middle ≤ length body
  left_ends = let long = (both_long body is e).1 in omega arith

  pub behind_begins : middle + 3 ≤ length body
  behind_begins = (both_long body is e).1

pub part_small : (body : List ℕ) (from to most : ℕ) → length body ≤ most → length (part body from to) ≤ most
part_small body from to most h = simp (length-take, length-drop) (omega arith)

module _ {levels : ℕ} {schema table : List ℕ} {node : ℕ} {body : List ℕ} {size : ℕ} (ready : PlaceReady levels schema table node body size)
    {p : Parts} (is : p ≡ parts_of body) where
  -- what the calls ask
  pub leftover_asks : p ≡ Leftover → Markable levels (part body 3 (length body)) size
  leftover_asks e =
      record {
        names = ready.names;
        meant = some_there (meaning_of levels ready.names (part body 3 (length body))) (place_leftover ready.there is e).means;
        room = ready.room;
        small = part_small body 3 (length body) _ ready.small;
      }

  pub typed_asks : p ≡ Typed → TypedReady levels schema table node (part body 3 (length body)) size
  typed_asks e =
      record {
        names = ready.names;
        there = place_only ready.there is e;
        room = ready.room;
        small = part_small body 3 (length body) _ ready.small;
      }

  module _ {middle : ℕ} (e : p ≡ Both middle) where
    pub beside_asks : Markable levels (part body 3 middle) size
    beside_asks =
        record {
          names = ready.names;
          meant = some_there (meaning_of levels ready.names (part body 3 middle)) (place_beside ready.there is e).means;
          room = ready.room;
          small = part_small body 3 middle _ ready.small;
        }

    -- the leftover's ids are marked
    pub behind_asks : (used after ids : List ℕ) → length used ≡ size → after ≡ mark_ids used ids → TypedReady levels schema table node (part body (middle + 3) (length body)) (length after)
    behind_asks used after ids long marked =
        record {
          names = ready.names;
          there = place_behind ready.there is e;
          room = (let same : length after ≡ length used = ap length marked ∙ marked_length used ids in omega (arith, ready.room));
          small = part_small body (middle + 3) (length body) _ ready.small;
        }

  -- what was marked
  by_parts : (under : Schema) {q : Parts} → p ≡ q
      → place_ids under levels schema table node body
      ≡ rebuilt_by [] [] (ids_in levels) (λ left typed. ids_in levels left ++ typed_ids under levels schema table node typed) q body
  by_parts under e = ids_are-typed under levels schema table node body ∙ rw (← is, e)

  pub empty_marked : p ≡ Empty → (used : List ℕ) (under : Schema) → Stands levels schema node under → used ≡ mark_ids used (place_ids under levels schema table node body)
  unfolding rebuilt_by mark_ids
  empty_marked e used under stands = sym (ap (mark_ids used) (by_parts under e))

  pub unframed_marked : p ≡ Unframed → (used : List ℕ) (under : Schema) → Stands levels schema node under → used ≡ mark_ids used (place_ids under levels schema table node body)
  unfolding rebuilt_by mark_ids
  unframed_marked e used under stands = sym (ap (mark_ids used) (by_parts under e))

  pub leftover_marked : p ≡ Leftover → (used after : List ℕ) → after ≡ mark_ids used (ids_in levels (part body 3 (length body))) → (under : Schema) → Stands levels schema node under
      → after ≡ mark_ids used (place_ids under levels schema table node body)
  unfolding rebuilt_by
  leftover_marked e used after marked under stands = marked ∙ sym (ap (mark_ids used) (by_parts under e))

  pub only_marked : p ≡ Typed → (used after : List ℕ)
      → ((under : Schema) → Stands levels schema node under → after ≡ mark_ids used (typed_ids under levels schema table node (part body 3 (length body))))
      → (under : Schema) → Stands levels schema node under → after ≡ mark_ids used (place_ids under levels schema table node body)
  unfolding rebuilt_by
  only_marked e used after marked under stands =
      marked under stands
      ∙ sym (ap (mark_ids used) (by_parts under e ∙ ap (λ (ids : List ℕ). ids ++ typed_ids under levels schema table node (part body 3 (length body))) (no_left-ids levels)))

  pub both_marked : {middle : ℕ} → p ≡ Both middle → (used between after : List ℕ) → between ≡ mark_ids used (ids_in levels (part body 3 middle))
      → ((under : Schema) → Stands levels schema node under → after ≡ mark_ids between (typed_ids under levels schema table node (part body (middle + 3) (length body))))
      → (under : Schema) → Stands levels schema node under → after ≡ mark_ids used (place_ids under levels schema table node body)
  unfolding rebuilt_by
  both_marked {middle} e used between after left marked under stands =
      let ids : List ℕ = typed_ids under levels schema table node (part body (middle + 3) (length body)) in
      marked under stands ∙ ap (λ (l : List ℕ). mark_ids l ids) left ∙ sym (ap (mark_ids used) (by_parts under e) ∙ mark_append used (ids_in levels (part body 3 middle)) ids)

-- ---- what is typed

module _ {levels : ℕ} {schema table : List ℕ} {node : ℕ} {body : List ℕ} {size : ℕ} (ready : TypedReady levels schema table node body size)
    {k : Kind} (is : k ≡ kind_at schema node) where
  pub elements_asks : k ≡ ListKind → ElementsReady (levels - 1) schema table (node + 3) body size
  elements_asks e = record { names = ready.names; there = typed_elements ready.there is e; room = ready.room; small = ready.small }

  pub members_asks : k ≡ FieldsKind → (to : ℕ) → to ≡ frame_end schema node → MembersReady (levels - 1) schema table (node + 3) to body size
  members_asks e to ends = record { names = ready.names; there = typed_members ready.there is e to ends; room = ready.room; small = ready.small }

  pub none_marked : k ≡ LeftoverKind → (used : List ℕ) (under : Schema) → Stands levels schema node under → used ≡ mark_ids used (typed_ids under levels schema table node body)
  unfolding typed_ids mark_ids
  none_marked e used under stands = rw (leftover_here_lem stands is e)

  pub cell_marked : {code : ℕ} → k ≡ ColumnKind code → (used : List ℕ) (under : Schema) → Stands levels schema node under
      → used ≡ mark_ids used (typed_ids under levels schema table node body)
  unfolding typed_ids mark_ids
  cell_marked e used under stands = rw (column_here_lem stands is e).1

  pub elements_marked : k ≡ ListKind → (used after : List ℕ)
      → ((element : Schema) → Stands (levels - 1) schema (node + 3) element → after ≡ mark_ids used (element_ids element (levels - 1) schema table (node + 3) (pieces_in body)))
      → (under : Schema) → Stands levels schema node under → after ≡ mark_ids used (typed_ids under levels schema table node body)
  unfolding typed_ids
  elements_marked e used after marked under stands =
      let here = list_here_lem stands is e in
      marked here.0 here.2.inside ∙ sym (ap (λ (n : Schema). mark_ids used (typed_ids n levels schema table node body)) here.1)

  pub members_marked : k ≡ FieldsKind → (to : ℕ) → to ≡ frame_end schema node → (used after : List ℕ)
      → ((columns : SchemaFields) → FieldsStand (levels - 1) schema (node + 3) to columns → after ≡ mark_ids used (member_ids columns (levels - 1) schema table (node + 3) (pieces_in body)))
      → (under : Schema) → Stands levels schema node under → after ≡ mark_ids used (typed_ids under levels schema table node body)
  unfolding typed_ids
  members_marked e to ends used after marked under stands =
      let here = object_here stands is e in
      marked here.0 (rw ends here.2.inside) ∙ sym (ap (λ (n : Schema). mark_ids used (typed_ids n levels schema table node body)) here.1)
