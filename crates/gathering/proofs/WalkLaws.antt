-- The two loops over inner places: what is left of them is to be marked on what is marked.
use Rattle.std.specs.Prelude.{Some, None, Option}
use mathlib.Core.List.{List, [], ◌++◌}
use mathlib.Core.Path.{◌≡◌, refl, sym, ap, ◌∙◌}
use Prim.Native.Nat.{ℕ, ◌+◌, ◌≤◌, ◌<◌}
use native.Mathlib.Omega.{arith}
use lib.ListN.{length, drop}
use Rattle.dictionary.specs.declared.ids.InputId.{InputId}
use Rattle.fields.specs.Telling.{entry_place, looked_at}
use Rattle.marking.proofs.MarkLaws.{marked_length, mark_append}
use Rattle.marking.specs.Ids.{mark_ids}
use Rattle.paper.specs.Bounds.{most_walked}
use Rattle.paper.specs.Framing.{Piece}
use Rattle.paper.specs.Metadata.{Dictionary}
use Rattle.paper.specs.Schemas.{Schema, SchemaFields, named}
use Rattle.paper.specs.Words.{part, joined}
use Rattle.places.specs.Frames.{place_end}
use Rattle.rebuilt.proofs.InnerLaws.{pieces_none, element_whole, element_fits, element_place, elements_behind, element_pieces, members_none, member_first, member_has, member-node_in, member_frame_in, member_entry, member_below, member_whole, member_fits, member_place, members_behind, members_behind_are, member_pieces}
use Rattle.rebuilt.specs.Rebuilt.{pieces_in}
use Rattle.rebuilt.specs.There.{ElementsThere, MembersThere}
use Rattle.rebuilt.specs.Using.{add_id, place_ids, member_ids, element_ids}
use Rattle.schemas.proofs.FieldsStandLaws.{FirstField, one_list}
use Rattle.schemas.specs.Frames.{frame_end}
use Rattle.schemas.specs.Positions.{Stands, FieldsStand, field_node}
use Rattle.gathering.proofs.PlaceLaws.{part_small}
use Rattle.gathering.proofs.PresentLaws.{add_first}
use Rattle.gathering.specs.Gathering.{PlaceReady, ElementsReady, MembersReady}

-- ---- a list's places

pub record ListSeen (levels : ℕ) (schema table : List ℕ) (node : ℕ) (body used₀ used : List ℕ) (at : ℕ) : Type 0 where
  pub within : at ≤ length body
  pub small : length body ≤ most_walked
  pub names : Dictionary
  pub room : length names ≤ length used
  pub there : ElementsThere levels names schema table node (drop at body)
  pub same_size : length used ≡ length used₀
  pub whole : (element : Schema) → Stands levels schema node element
      → mark_ids used₀ (element_ids element levels schema table node (pieces_in body)) ≡ mark_ids used (element_ids element levels schema table node (pieces_in (drop at body)))

module _ {levels : ℕ} {schema table : List ℕ} {node : ℕ} {body used₀ : List ℕ} where
  pub list_start : ElementsReady levels schema table node body (length used₀) → ListSeen levels schema table node body used₀ used₀ 0
  list_start ready =
      record {
        within = omega arith;
        small = ready.small;
        names = ready.names;
        room = ready.room;
        there = ready.there;
        same_size = refl;
        whole = λ element stands. refl;
      }

  module _ {used : List ℕ} {at : ℕ} (seen : ListSeen levels schema table node body used₀ used at) where
    pub list_done : length body ≤ at → (element : Schema) → Stands levels schema node element
        → used ≡ mark_ids used₀ (element_ids element levels schema table node (pieces_in body))
    unfolding element_ids joined mark_ids
    list_done over element stands =
        sym (seen.whole element stands
        ∙ ap (λ (pieces : List Piece). mark_ids used (element_ids element levels schema table node pieces)) (pieces_none body at over))

    module _ (h : at < length body) {r : Option ℕ} (told : r ≡ place_end body at) where
      pub list_whole : r ≡ None → (element : Schema) → Stands levels schema node element → used ≡ mark_ids used₀ (element_ids element levels schema table node (pieces_in body))
      list_whole e = absurd (element_whole body at seen.there h told e)

      module _ {end : ℕ} (e : r ≡ Some end) where
        pub list_inner : at + 3 ≤ end
        list_inner = let fits = (element_fits body at seen.there h told e).0 in omega arith

        pub list_end : end ≤ length body
        list_end = (element_fits body at seen.there h told e).1

        pub list_asks : PlaceReady levels schema table node (part body (at + 3) end) (length used)
        list_asks =
            record {
              names = seen.names;
              there = element_place body at seen.there h told e;
              room = seen.room;
              small = part_small body (at + 3) end _ seen.small;
            }

        pub list_next : (after : List ℕ)
            → ((under : Schema) → Stands levels schema node under → after ≡ mark_ids used (place_ids under levels schema table node (part body (at + 3) end)))
            → ListSeen levels schema table node body used₀ after end
        unfolding element_ids joined
        list_next after marked =
            let ids : Schema → List ℕ = λ element. place_ids element levels schema table node (part body (at + 3) end) in
            let own = marked seen.there.element seen.there.stands in
            let same : length after ≡ length used = ap length own ∙ marked_length used (ids seen.there.element) in
            record {
              within = list_end;
              small = seen.small;
              names = seen.names;
              room = omega (arith, seen.room);
              there = elements_behind body at seen.there h told e;
              same_size = same ∙ seen.same_size;
              whole =
                  λ element stands.
                  seen.whole element stands
                  ∙ ap (λ (pieces : List Piece). mark_ids used (element_ids element levels schema table node pieces)) (element_pieces body at seen.there h told e)
                  ∙ mark_append used (ids element) (element_ids element levels schema table node (pieces_in (drop end body)))
                  ∙ ap (λ (l : List ℕ). mark_ids l (element_ids element levels schema table node (pieces_in (drop end body)))) (sym (marked element stands));
            }

-- ---- an object's places

pub record FieldsSeen (levels : ℕ) (schema table : List ℕ) (from to : ℕ) (body used₀ used : List ℕ) (field at : ℕ) : Type 0 where
  pub small : length body ≤ most_walked
  pub names : Dictionary
  pub room : length names ≤ length used
  pub there : MembersThere levels names schema table field to (drop at body)
  pub same_size : length used ≡ length used₀
  pub whole : (columns : SchemaFields) → FieldsStand levels schema from to columns
      → mark_ids used₀ (member_ids columns levels schema table from (pieces_in body)) ≡ mark_ids used (member_ids there.columns levels schema table field (pieces_in (drop at body)))

module _ {levels : ℕ} {schema table : List ℕ} {from to : ℕ} {body used₀ : List ℕ} where
  pub fields_start : MembersReady levels schema table from to body (length used₀) → FieldsSeen levels schema table from to body used₀ used₀ from 0
  fields_start ready =
      record {
        small = ready.small;
        names = ready.names;
        room = ready.room;
        there = ready.there;
        same_size = refl;
        whole = λ columns stand. ap (λ (c : SchemaFields). mark_ids used₀ (member_ids c levels schema table from (pieces_in body))) (one_list stand ready.there.stand);
      }

  module _ {used : List ℕ} {field at : ℕ} (seen : FieldsSeen levels schema table from to body used₀ used field at) where
    pub fields_done : to ≤ field → (columns : SchemaFields) → FieldsStand levels schema from to columns
        → used ≡ mark_ids used₀ (member_ids columns levels schema table from (pieces_in body))
    unfolding member_ids mark_ids
    fields_done over columns stand =
        sym (seen.whole columns stand
        ∙ ap (λ (c : SchemaFields). mark_ids used (member_ids c levels schema table field (pieces_in (drop at body)))) (members_none body at seen.there over))

    module _ (left : field < to) where
      pub field_has : at < length body
      field_has = member_has body at seen.there left

      pub field_node-in : field_node schema field ≤ length schema
      field_node-in = member-node_in body at seen.there left

      pub field_frame_in : frame_end schema field ≤ length schema
      field_frame_in = member_frame_in body at seen.there left

      -- what `mark_field` asks
      pub field_asks : (entry_place field < length table) × ((id : InputId) → looked_at table field ≡ Some id → id.0 < length used)
      field_asks =
          (member_entry body at seen.there left, λ id is. let below = member_below body at seen.there left id is in omega (arith, seen.room))

      module _ {r : Option ℕ} (told : r ≡ place_end body at) where
        pub field_whole : r ≡ None → (columns : SchemaFields) → FieldsStand levels schema from to columns
            → used ≡ mark_ids used₀ (member_ids columns levels schema table from (pieces_in body))
        field_whole e = absurd (member_whole body at seen.there left told e)

        module _ {end : ℕ} (e : r ≡ Some end) where
          pub field_inner : at + 3 ≤ end
          field_inner = (member_fits body at seen.there left told e).0

          pub field_end : end ≤ length body
          field_end = (member_fits body at seen.there left told e).1

          -- what `place` asks, when the field's id is marked
          pub field_inside : (node : ℕ) → node ≡ field_node schema field → (between ids : List ℕ) → between ≡ mark_ids used ids
              → PlaceReady levels schema table node (part body (at + 3) end) (length between)
          field_inside node is between ids marked =
              record {
                names = seen.names;
                there = member_place body at seen.there left told e node is;
                room = (let same : length between ≡ length used = ap length marked ∙ marked_length used ids in omega (arith, seen.room));
                small = part_small body (at + 3) end _ seen.small;
              }

          abbrev held : List ℕ
          held = part body (at + 3) end

          abbrev first : FirstField levels schema field to seen.there.columns
          first = member_first body at seen.there left

          left_are : member_ids seen.there.columns levels schema table field (pieces_in (drop at body))
              ≡ add_id held (looked_at table field) []
              ++ (place_ids first.node levels schema table (field_node schema field) held ++ member_ids first.more levels schema table (frame_end schema field) (pieces_in (drop end body)))
          unfolding member_ids
          left_are =
              ap (λ (c : SchemaFields). member_ids c levels schema table field (pieces_in (drop at body))) first.are
              ∙ ap (member_ids (named first.name first.node first.more) levels schema table field) (member_pieces body at seen.there left told e)
              ∙ add_first held (looked_at table field) _

          pub fields_next : (node : ℕ) → node ≡ field_node schema field → (between : List ℕ)
              → between ≡ mark_ids used (add_id (part body (at + 3) end) (looked_at table field) []) → (after : List ℕ)
              → ((under : Schema) → Stands levels schema node under → after ≡ mark_ids between (place_ids under levels schema table node (part body (at + 3) end)))
              → (next : ℕ) → next ≡ frame_end schema field → FieldsSeen levels schema table from to body used₀ after next end
          fields_next node is between first-marked after marked next next_is =
              let inside : List ℕ = place_ids first.node levels schema table (field_node schema field) held in
              let own = marked first.node (rw is first.stands.inside) ∙ ap (λ (n : ℕ). mark_ids between (place_ids first.node levels schema table n held)) is in
              let same : length after ≡ length used = ap length own ∙ marked_length between inside ∙ ap length first-marked ∙ marked_length used (add_id held (looked_at table field) []) in
              let rest : List ℕ = member_ids first.more levels schema table (frame_end schema field) (pieces_in (drop end body)) in
              record {
                small = seen.small;
                names = seen.names;
                room = omega (arith, seen.room);
                there = members_behind body at seen.there left told e next next_is;
                same_size = same ∙ seen.same_size;
                whole =
                    λ columns stand.
                    seen.whole columns stand ∙ ap (mark_ids used) left_are
                    ∙ mark_append used (add_id held (looked_at table field) []) (inside ++ rest)
                    ∙ ap (λ (l : List ℕ). mark_ids l (inside ++ rest)) (sym first-marked)
                    ∙ mark_append between inside rest
                    ∙ ap (λ (l : List ℕ). mark_ids l rest) (sym own)
                    ∙ rw (members_behind_are body at seen.there left told e next next_is, next_is);
              }
