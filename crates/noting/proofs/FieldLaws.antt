-- An object's members noted: what is left of its places and of its leftover's members is merged behind what stands there.
use Rattle.std.specs.Prelude.{Some, None, Option}
use mathlib.Core.List.{List, [], ◌∷◌, ◌++◌, append_assoc}
use mathlib.Core.Path.{◌≡◌, refl, sym, ap, ◌∙◌}
use Prim.Native.Nat.{ℕ, ◌+◌, ◌-◌, ◌*◌, ◌^◌, ◌≤◌, ◌<◌}
use native.Mathlib.Omega.{arith}
use lib.ListN.{length, get_or, drop, length-take, length-drop}
use mir.Syntax.{w64}
use mir.Val.{Fits}
use Rattle.dictionary.specs.declared.ids.InputId.{InputId}
use Rattle.fields.specs.Telling.{entry_place, looked_at}
use Rattle.paper.specs.Bounds.{most_walked}
use Rattle.paper.specs.Schemas.{SchemaFields, named}
use Rattle.paper.specs.Words.{part}
use Rattle.places.specs.Frames.{place_end}
use Rattle.rebuilt.specs.Rebuilt.{pieces_in}
use Rattle.schemas.specs.Frames.{frame_end}
use Rattle.schemas.specs.Positions.{FieldsStand}
use Rattle.containers.proofs.WalkLaws.{below_more}
use Rattle.rebuilt.proofs.InnerLaws.{member_has, member_frame_in, member_entry, member_whole, member_known, member_fits, members_behind, member_pieces, member_named}
use Rattle.schemas.proofs.FieldsStandLaws.{FirstField, first_field, no_field}
use Rattle.noting.proofs.AddedLaws.{none_added, added_behind, all_added}
use Rattle.noting.proofs.ElementLaws.{piece_size}
use Rattle.noting.proofs.LowLaws.{low_all, merged_first, merged_none}
use Rattle.noting.specs.Adding.{SomeMembers, RunRanked, NoteRoom, Added, LeftAdded, FieldAdded, low_notes}
use Rattle.noting.specs.Notes.{Note, note_rank, add_note, field_notes, Noted, member_notes}

-- ---- a field's note

add_none : (s : List ℕ) → length s ≡ 0 → (looked : Option InputId) (place field : ℕ) (notes : List Note) → add_note s looked place field notes ≡ notes
unfolding add_note
add_none [] e looked place field notes = refl
add_none (b ∷ bs) e looked place field notes = absurd (omega arith)

add_some : (s : List ℕ) → 0 < length s → {looked : Option InputId} {id : InputId} → looked ≡ Some id → (place field : ℕ) (notes : List Note)
    → add_note s looked place field notes ≡ record { id = id.0; place = place; field = field } ∷ notes
unfolding add_note
add_some [] h is place field notes = absurd (omega arith)
add_some (b ∷ bs) h is place field notes = rw is

-- ---- the loop

-- What is left of some fields: they stand from a field on, and are merged behind what was noted.
pub record ColumnsLeft (ranks schema table : List ℕ) (from to : ℕ) (lefts : List Note) (body : List ℕ) (past : List Note) (left field place levels : ℕ) (columns : SchemaFields) : Type 0 where
  pub more : SchemaFields
  pub stand : FieldsStand levels schema field to more
  pub whole_is : member_notes ranks (field_notes columns schema table from 0 (pieces_in body)) lefts
      ≡ past ++ member_notes ranks (field_notes more schema table field place (pieces_in (drop place body))) (drop left lefts)

pub record MembersSeen (ranks schema table : List ℕ) (from to : ℕ) (left_ids : List ℕ) (lefts : List Note) (count : ℕ) (body places₀ ids₀ places ids : List ℕ) (n left field place : ℕ) : Type 0 where
  pub within : place ≤ length body
  pub few : 2 * n ≤ 2 * left + place
  pub left_in : left ≤ count
  pub still : SomeMembers ranks schema table field to left_ids (drop place body)
  pub past : List Note
  pub added : Added past places₀ ids₀ 0 places ids n
  pub further : (columns : SchemaFields) (levels : ℕ) → FieldsStand levels schema from to columns
      → ColumnsLeft ranks schema table from to lefts body past left field place levels columns

pub members_start : (ranks schema table : List ℕ) (from to : ℕ) (left_ids : List ℕ) (lefts : List Note) (count : ℕ) (body places ids : List ℕ)
    → SomeMembers ranks schema table from to left_ids body → MembersSeen ranks schema table from to left_ids lefts count body places ids places ids 0 0 from 0
members_start ranks schema table from to left_ids lefts count body places ids all =
    record {
      within = omega arith;
      few = omega arith;
      left_in = omega arith;
      still = all;
      past = [];
      added = none_added places ids 0;
      further = λ columns levels stand. record { more = columns; stand = stand; whole_is = refl };
    }

-- Whose normal ids are asked for, they are there.
pub run_ranked : {ranks schema table : List ℕ} {from to : ℕ} {lefts body : List ℕ} → SomeMembers ranks schema table from to lefts body → RunRanked ranks lefts
run_ranked all =
    record {
      inside = below_more _ _ _ all.ranked all.known;
      low = below_more _ _ _ (omega (arith, all.few)) all.known;
    }

module _ {ranks schema table : List ℕ} {from to : ℕ} {left_ids : List ℕ} {lefts : List Note} {count : ℕ} {body places₀ ids₀ places ids : List ℕ} {n left field place : ℕ}
    (seen : MembersSeen ranks schema table from to left_ids lefts count body places₀ ids₀ places ids n left field place) where
  -- what was noted, so many that they are counted
  pub count_fits : {next : ℕ} → left ≤ next → next ≤ count → 2 * count + length body ≤ length places₀ → length places₀ < 2 ^ 64
      → Fits w64 (n + (next - left)) × Fits w64 (n + (next - left) + 1)
  count_fits forward within room small = (record { fits = omega (arith, seen.few, seen.within) }, record { fits = omega (arith, seen.few, seen.within) })

  -- no field is left
  module _ (over : to ≤ field) where
    pub last_room : 2 * count + length body ≤ length places₀ → 2 * count + length body ≤ length ids₀ → NoteRoom places ids (n + (count - left))
    last_room enough also =
        let added = seen.added in
        record {
          places_room = omega (arith, added.places_size, seen.few, seen.within, seen.left_in);
          ids_room = omega (arith, added.ids_size, seen.few, seen.within, seen.left_in);
        }

    pub members_done : {bound : ℕ} → ((i : ℕ) → get_or ranks i 0 < bound) → {places-after ids-after : List ℕ} {next : ℕ}
        → LeftAdded ranks lefts left count bound places ids n places-after ids-after next → (columns : SchemaFields) (levels : ℕ) → FieldsStand levels schema from to columns
        → Noted (member_notes ranks (field_notes columns schema table from 0 (pieces_in body)) lefts) places-after ids-after (n + (next - left))
    members_done {bound} high lower columns levels stand =
        let rest = seen.further columns levels stand in
        let none : field_notes rest.more schema table field place (pieces_in (drop place body)) ≡ [] =
        ap (λ (c : SchemaFields). field_notes c schema table field place (pieces_in (drop place body))) (no_field rest.stand over) ∙ unfold field_notes in refl in
        let all : member_notes ranks (field_notes columns schema table from 0 (pieces_in body)) lefts ≡ seen.past ++ low_notes ranks bound (drop left lefts) =
        rest.whole_is ∙ ap (λ (l : List Note). seen.past ++ member_notes ranks l (drop left lefts)) none
        ∙ ap (λ (l : List Note). seen.past ++ l) (merged_none ranks (drop left lefts) ∙ sym (low_all ranks bound high (drop left lefts))) in
        rw all (all_added (added_behind seen.added lower.added))

  -- the field here: its frame, its entry, and its place
  module _ (some_left : field < to) where
    pub place_there : place < length body
    place_there = member_has body place seen.still.there some_left

    pub field_frame : frame_end schema field ≤ length schema
    field_frame = member_frame_in body place seen.still.there some_left

    pub field_entry : entry_place field < length table
    field_entry = member_entry body place seen.still.there some_left

    pub place_whole : {r : Option ℕ} → r ≡ place_end body place → r ≡ None → ⊥
    place_whole told e = member_whole body place seen.still.there some_left told e

    pub field_known : {r : Option ℕ} → r ≡ place_end body place → {end : ℕ} → r ≡ Some end → place + 3 < end → {looked : Option InputId} → looked ≡ looked_at table field → looked ≡ None → ⊥
    field_known told e present is nowhere = member_known body place seen.still.there some_left told e present is nowhere

  module _ (some_left : field < to) {r : Option ℕ} (told : r ≡ place_end body place) {end : ℕ} (e : r ≡ Some end) where
    fits : (place + 3 ≤ end) × (end ≤ length body)
    fits = member_fits body place seen.still.there some_left told e

    body_size : length (part body (place + 3) end) ≡ end - (place + 3)
    body_size = let in_Body = fits in rw (length-take, length-drop) (omega arith)

    -- a field that is present has an id, and there is room for it
    module _ (present : place + 3 < end) where
      pub member_room : 2 * count + length body ≤ length places₀ → 2 * count + length body ≤ length ids₀ → NoteRoom places ids (n + (count - left) + 1)
      member_room enough also =
          let added = seen.added in
          record {
            places_room = omega (arith, added.places_size, seen.few, fits.1, seen.left_in);
            ids_room = omega (arith, added.ids_size, seen.few, fits.1, seen.left_in);
          }

      pub found_there : {looked : Option InputId} → looked ≡ looked_at table field → {found : InputId} → looked ≡ Some found → (found.0 < length ranks) × (found.0 < most_walked)
      found_there is {found} at =
          let known = member_named body place seen.still.there some_left told e present in
          let same : found ≡ known.id = (let looked_is = known.looked_is in cc) in
          let below : found.0 < length seen.still.names = rw same known.below in
          (omega (arith, seen.still.ranked), omega (arith, seen.still.few))

    -- behind its frame and its place
    module _ {behind : ℕ} (ends : behind ≡ frame_end schema field) where
      still_behind : SomeMembers ranks schema table behind to left_ids (drop end body)
      still_behind =
          record {
            levels = seen.still.levels;
            names = seen.still.names;
            there = members_behind body place seen.still.there some_left told e behind ends;
            few = seen.still.few;
            ranked = seen.still.ranked;
            known = seen.still.known;
          }

      -- the fields that are left, whatever they are
      module _ {columns : SchemaFields} {levels : ℕ} (stand : FieldsStand levels schema from to columns) where
        abbrev first : FirstField levels schema field to (seen.further columns levels stand).more
        first = first_field (seen.further columns levels stand).stand some_left

        abbrev typed : List Note
        typed = field_notes first.more schema table behind end (pieces_in (drop end body))

        fields_next : field_notes (seen.further columns levels stand).more schema table field place (pieces_in (drop place body))
            ≡ add_note (part body (place + 3) end) (looked_at table field) place field typed
        unfolding field_notes
        fields_next =
            let size : place + 3 + length (part body (place + 3) end) ≡ end = piece_size body place end fits.0 fits.1 in
            ap (λ (c : SchemaFields). field_notes c schema table field place (pieces_in (drop place body))) first.are
            ∙ ap (field_notes (named first.name first.node first.more) schema table field place) (member_pieces body place seen.still.there some_left told e)
            ∙ rw (ends, size)

        -- behind what was noted and what is noted now
        left_behind : {past : List Note} {next : ℕ}
            → member_notes ranks (field_notes columns schema table from 0 (pieces_in body)) lefts ≡ past ++ member_notes ranks typed (drop next lefts)
            → ColumnsLeft ranks schema table from to lefts body past next behind end levels columns
        left_behind whole = record { more = first.more; stand = rw ends first.stands.behind; whole_is = whole }

      pub members_absent : end ≤ place + 3 → MembersSeen ranks schema table from to left_ids lefts count body places₀ ids₀ places ids n left behind end
      members_absent none =
          let size : length (part body (place + 3) end) ≡ 0 = (let all = body_size in omega arith) in
          record {
            within = fits.1;
            few = omega (arith, seen.few, fits.0);
            left_in = seen.left_in;
            still = still_behind;
            past = seen.past;
            added = seen.added;
            further = λ columns levels stand.
                left_behind stand
                ((seen.further columns levels stand).whole_is
                ∙ ap (λ (l : List Note). seen.past ++ member_notes ranks l (drop left lefts)) (fields_next stand ∙ add_none (part body (place + 3) end) size (looked_at table field) place field (typed stand)));
          }

      module _ (present : place + 3 < end) {looked : Option InputId} (is : looked ≡ looked_at table field) {found : InputId} (at : looked ≡ Some found)
          {places-after ids-after : List ℕ} {next : ℕ} (one : FieldAdded ranks lefts (record { id = found.0; place = place; field = field }) left count places ids n places-after ids-after next) where
        abbrev member : Note
        member = record { id = found.0; place = place; field = field }

        abbrev low : List Note
        low = low_notes ranks (note_rank ranks member) (drop left lefts)

        merged_next : {columns : SchemaFields} {levels : ℕ} (stand : FieldsStand levels schema from to columns)
            → member_notes ranks (field_notes (seen.further columns levels stand).more schema table field place (pieces_in (drop place body))) (drop left lefts)
            ≡ (low ++ (member ∷ [])) ++ member_notes ranks (typed stand) (drop next lefts)
        merged_next stand =
            let size : 0 < length (part body (place + 3) end) = (let all = body_size in omega arith) in
            ap (λ (l : List Note). member_notes ranks l (drop left lefts)) (fields_next stand ∙ add_some (part body (place + 3) end) size (sym is ∙ at) place field (typed stand))
            ∙ merged_first ranks member (typed stand) (drop left lefts)
            ∙ ap (λ (l : List Note). low ++ (member ∷ member_notes ranks (typed stand) l)) (sym one.left)
            ∙ sym (append_assoc low (member ∷ []) (member_notes ranks (typed stand) (drop next lefts)))

        pub members_present : MembersSeen ranks schema table from to left_ids lefts count body places₀ ids₀ places-after ids-after (n + (next - left) + 1) next behind end
        members_present =
            record {
              within = fits.1;
              few = omega (arith, seen.few, one.forward);
              left_in = one.within;
              still = still_behind;
              past = seen.past ++ (low ++ (member ∷ []));
              added = added_behind seen.added one.added;
              further = λ columns levels stand.
                  left_behind stand
                  ((seen.further columns levels stand).whole_is ∙ ap (λ (l : List Note). seen.past ++ l) (merged_next stand)
                  ∙ sym (append_assoc seen.past (low ++ (member ∷ [])) (member_notes ranks (typed stand) (drop next lefts))));
            }
