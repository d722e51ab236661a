-- An object's places beside its leftover: what the noting of them asks, and the notes as those of members that can be written.
use Rattle.dictionary.specs.declared.ids.InputId.{InputId}
use Rattle.std.specs.Prelude.{Some, None, Option}
use mathlib.Core.List.{List, [], ◌∷◌}
use mathlib.Core.Path.{◌≡◌, refl, sym, ap, ◌∙◌}
use Prim.Native.Nat.{ℕ, suc, ◌+◌, ◌-◌, ◌*◌, ◌≤◌, ◌<◌}
use native.Mathlib.Nat.{mul-le-mul, le_refl}
use native.Mathlib.Omega.{arith}
use lib.ListN.{length}
use Rattle.containers.proofs.LayoutLaws.{ids_there, ids_same, ids_starts_length}
use Rattle.runs.proofs.NumbersRunLaws.{rest, run_length}
use Rattle.containers.proofs.WalkLaws.{below_more}
use Rattle.containers.specs.Layouts.{HeadThere}
use Rattle.heads.proofs.HeadLaws.{container_some}
use Rattle.marking.proofs.ValueLaws.{value_begins}
use Rattle.numbers.specs.Little.{number_at}
use Rattle.paper.proofs.WordLaws.{some_there}
use Rattle.noting.specs.Adding.{SomeMembers, LeftRun}
use Rattle.noting.specs.Notes.{Note, add_note, left_notes, field_notes, Noted, member_notes, note_rank}
use Rattle.paper.specs.FirstBytes.{reading_of}
use Rattle.paper.specs.Framing.{Piece}
use Rattle.paper.specs.Limits.{most_row, most_schema}
use Rattle.paper.specs.Schemas.{SchemaFields, none_named, named}
use Rattle.paper.specs.Values.{head_size_of, area_of, starts_of, ids_of, meaning_of}
use Rattle.paper.specs.Words.{at}
use Rattle.paper.specs.declared.Reading.TheVariants.{ObjectHead}
use Rattle.putting.specs.Put.{PutAs}
use Rattle.rebuilt.specs.Members.{Member, object_of}
use Rattle.rebuilt.specs.Rebuilt.{pieces_in}
use Rattle.schemas.proofs.FieldsStandLaws.{one_list}
use Rattle.schemas.specs.Frames.{frame_end}
use Rattle.schemas.specs.Positions.{FieldsStand}
use Rattle.building.proofs.LeftLaws.{left_container, left_least, left_low, left_known, left_ready_lem}
use Rattle.building.proofs.MemberLaws.{members_long, places_ready}
use Rattle.building.proofs.NotesLaws.{InStep, merged_ready, merged_length, ready_at, ready_size, ready_ids, ready_below}
use Rattle.building.specs.Building.{Enough, MembersReady, MemberReady, NotesReady, members_rebuilt}

-- Not more fields are noted than there are pieces.
add_few : (b : List ℕ) (looked : Option InputId) (place field : ℕ) (notes : List Note) (n : ℕ) → length notes ≤ n → length (add_note b looked place field notes) ≤ suc n
unfolding add_note
add_few [] looked place field notes n h = omega arith
add_few (b ∷ bs) (Some id) place field notes n h = omega arith
add_few (b ∷ bs) None place field notes n h = omega arith

fields_few : (columns : SchemaFields) (schema table : List ℕ) (field place : ℕ) (pieces : List Piece) → length (field_notes columns schema table field place pieces) ≤ length pieces
unfolding field_notes
fields_few none_named schema table field place pieces = omega arith
fields_few (named name node columns) schema table field place [] = omega arith
fields_few (named name node columns) schema table field place (piece ∷ pieces) =
    add_few piece.body _ place field _ (length pieces) (fields_few columns schema table (frame_end schema field) (place + 3 + length piece.body) pieces)

lefts_few : (ids starts : List ℕ) → length (left_notes ids starts) ≤ length ids
unfolding left_notes
lefts_few [] starts = omega arith
lefts_few (id ∷ ids) [] = omega arith
lefts_few (id ∷ ids) (start ∷ starts) = let more = lefts_few ids starts in omega arith

module _ {levels : ℕ} {ranks schema table : List ℕ} {from to : ℕ} {left body : List ℕ} {room-places room-ids floor : ℕ}
    (ready : MembersReady levels ranks schema table from to left body room-places room-ids floor) (c i w : ℕ) (is : reading_of (at left 0) ≡ ObjectHead c i w) where
  head_there : HeadThere left c i w
  head_there = left_container ready.beside c i w is

  least : 1 ≤ i
  least = left_least ready.beside c i w is

  -- Of its ids and its starts:
  module _ {left_ids starts : List ℕ} (ids_are : left_ids ≡ ids_of c i left) (starts_are : starts ≡ starts_of c i w left) where
    abbrev many : ℕ
    many = number_at left 1 c

    -- as many ids as its count says,
    left_many : length left_ids ≡ many
    left_many =
        ap length (ids_are ∙ sym (ids_same left c i w head_there many refl))
        ∙ run_length i many (rest left (1 + c)) least (ids_there left c i w head_there many refl)

    -- an id and an offset of each member in its head.
    head_long : 2 * length left_ids ≤ length left
    unfolding head_size_of
    head_long =
        let inside = (container_some left c i w head_there.fills).head_there in
        let ids : many * 1 ≤ many * i = mul-le-mul le_refl_many least in
        let offsets : (many + 1) * 1 ≤ (many + 1) * w = mul-le-mul (omega arith) head_there.least in
        omega (arith, left_many)
      where
        le_refl_many : many ≤ many
        le_refl_many = omega arith

    -- what the noting asks
    pub object_some : SomeMembers ranks schema table from to left_ids body × LeftRun left_ids starts
    object_some =
        let short = ready.beside.short in (
          record {
            levels = levels;
            names = ready.names;
            there = ready.there;
            few = ready.ground.few;
            ranked = ready.ground.ranked;
            known = rw ids_are (left_known ready.beside c i w is);
          },
          record {
            as_many = rw (ids_are, starts_are) (sym (ids_starts_length left c i w head_there least));
            starts_low = rw starts_are (below_more (length left) most_row (starts_of c i w left) (omega arith) (left_low ready.beside c i w is));
          },
        )

    pub object_sizes : (length schema ≤ most_schema) × (length body ≤ most_row) × (2 * length left_ids + length body ≤ room-places) × (2 * length left_ids + length body ≤ room-ids)
    object_sizes =
        let small = ready.enough.small in
        let places_room = ready.enough.places_room in
        let ids_room = ready.enough.ids_room in
        let head = head_long in
        (ready.ground.schema_short, omega arith, omega arith, omega arith)

    -- ---- the notes

    module _ {places ids : List ℕ} (count : ℕ) (places-kept : length places ≡ room-places) (ids-kept : length ids ≡ room-ids)
        (told : (columns : SchemaFields) (inner : ℕ) → FieldsStand inner schema from to columns
        → Noted (member_notes ranks (field_notes columns schema table from 0 (pieces_in body)) (left_notes left_ids starts)) places ids count) where
      module _ (columns : SchemaFields) (stand : FieldsStand levels schema from to columns) where
        abbrev typed : List Note
        typed = field_notes columns schema table from 0 (pieces_in body)

        abbrev lefts : List Note
        lefts = left_notes (ids_of c i left) (starts_of c i w left)

        noted : Noted (member_notes ranks typed lefts) places ids count
        noted = rw (ids_are, starts_are) at (told columns levels stand)

        same : ready.there.columns ≡ columns
        same = one_list ready.there.stand stand

        counted : (count ≤ length (pieces_in body) + length left_ids) × (3 * length (pieces_in body) ≤ length body)
        unfolding member_notes
        counted =
            let size = noted.size in
            let all = merged_length (note_rank ranks) typed lefts in
            let some_fields = fields_few columns schema table from 0 (pieces_in body) in
            let some-lefts = lefts_few (ids_of c i left) (starts_of c i w left) in
            let long = members_long body (pieces_in body) from 0 refl ready.there (omega arith) in
            let same_ids : length left_ids ≡ length (ids_of c i left) = ap length ids_are in
            (omega arith, omega arith)

        left_room : (n : ℕ) → 3 * length (pieces_in body) + n ≤ length body → Enough n (length places - 2 * count) (length ids - 2 * count) floor
        left_room n h =
            let few = counted.0 in
            let head = head_long in
            let enough = ready.enough in
            let small = enough.small in
            let places_room = enough.places_room in
            let ids_room = enough.ids_room in
            record { small = omega arith; places_room = omega arith; ids_room = omega arith; high = λ m below short. enough.high m (omega arith) short }

        abbrev Is : ℕ → ℕ → Member → Type 0
        Is at' field m =
            MemberReady levels ranks schema table (area_of c i w left) body (length places - 2 * count) (length ids - 2 * count) floor at' field m × (m.id < length ranks)

        in_step : InStep Is (member_notes ranks typed lefts) (members_rebuilt columns levels ranks schema table from left body)
        unfolding member_notes
        in_step =
            let left-short = ready.beside.short in
            let enough = ready.enough in
            merged_ready Is ranks
            (places_ready levels ready.names ready.normal ranks schema table (area_of c i w left) body to (length places - 2 * count) (length ids - 2 * count) floor (length (pieces_in body))
            ready.ground ready.bytes left_room (pieces_in body) from 0 columns ready.there same refl (rw same at ready.numbered) ready.behind (omega arith))
            (left_ready_lem ready.beside c i w is schema table body (length places - 2 * count) (length ids - 2 * count) floor (λ n h. enough.high n (omega arith) (omega arith)))

        notes : (area : List ℕ) → area ≡ area_of c i w left → NotesReady levels ranks schema table area body places ids count floor
        notes area is-area =
            let few = counted in
            let head = head_long in
            let small = ready.enough.small in
            record {
              all = members_rebuilt columns levels ranks schema table from left body;
              notes = member_notes ranks typed lefts;
              noted = noted;
              size = ready_size in_step ∙ sym noted.size;
              ids_are = ready_ids in_step;
              ranked = rw noted.ids_are (ready_below (length ranks) (λ a f m both. both.1) in_step);
              few = omega arith;
              each =
                  λ k below.
                  rw (is-area, noted.place_is k below, noted.field_is k below)
                  (ready_at in_step k (let size = noted.size in omega arith)).0;
            }

        pub object_put : (area : List ℕ) → area ≡ area_of c i w left → {before after : List ℕ} {end : ℕ} {r : Option ℕ}
            → ((all : NotesReady levels ranks schema table area body places ids count floor) → PutAs (object_of ranks all.all) before after floor end r)
            → PutAs (object_of ranks (members_rebuilt columns levels ranks schema table from left body)) before after floor end r
        unfolding notes
        object_put area is-area put = put (notes area is-area)

      pub object_notes : (area : List ℕ) → area ≡ area_of c i w left → NotesReady levels ranks schema table area body places ids count floor
      object_notes area is-area = notes ready.there.columns ready.there.stand area is-area

-- The leftover has a first byte.
pub left_begins : {levels : ℕ} {ranks schema table : List ℕ} {from to : ℕ} {left body : List ℕ} {places ids floor : ℕ}
    → MembersReady levels ranks schema table from to left body places ids floor → 0 < length left
left_begins {levels} {left = left} ready =
    let short = ready.beside.short in
    value_begins
    (record { names = ready.names; meant = some_there (meaning_of (suc levels) ready.names left) ready.beside.means; room = le_refl (length ready.names); small = omega arith })
