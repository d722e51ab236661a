-- An object's places and the notes of them, in step: each that is present is ready to be written with what the tables have left.
use Rattle.dictionary.specs.declared.ids.InputId.{InputId}
use Rattle.std.specs.Prelude.{Some, None, Option}
use mathlib.Core.Bool.{Bool, true, false}
use mathlib.Core.List.{List, [], ◌∷◌, ◌++◌}
use mathlib.Core.Path.{◌≡◌, refl, sym, ap, subst, ◌∙◌}
use Prim.Native.Nat.{ℕ, suc, ◌+◌, ◌-◌, ◌*◌, ◌≤◌, ◌<◌}
use native.Mathlib.Omega.{arith}
use borrow.Author.Tests.{leb-true, leb-false}
use lib.Dec.{leb}
use lib.ListN.{length, drop, length-take, length-drop}
use Rattle.fields.specs.Telling.{looked_at}
use Rattle.forms.proofs.LieLaws.{bytes_take, bytes_drop}
use Rattle.frames.specs.Frames.{piece_in}
use Rattle.noting.specs.Notes.{Note, add_note, field_notes}
use Rattle.paper.specs.Framing.{Piece}
use Rattle.paper.specs.Metadata.{Dictionary}
use Rattle.paper.specs.Schemas.{Schema, SchemaFields, none_named, named}
use Rattle.paper.specs.Words.{part}
use Rattle.places.proofs.StepLaws.{place_ends}
use Rattle.places.specs.Frames.{place_end}
use Rattle.ranking.proofs.HeldLaws.{held_first, below_held}
use Rattle.rebuilt.proofs.InnerLaws.{NamedBy, pieces_none, members_over, member_first, member_whole, member_fits, member_place, members_behind, member_pieces, member_named}
use Rattle.rebuilt.proofs.NumberedLaws.{numbered_front, numbered_behind, numbered_more}
use Rattle.rebuilt.specs.Members.{Member}
use Rattle.rebuilt.specs.Rebuilt.{pieces_in, place_rebuilt, add_member, member_places}
use Rattle.rebuilt.specs.There.{PlaceThere, MembersThere, Numbered}
use Rattle.rebuilt.specs.Using.{place_ids, add_id, member_ids}
use Rattle.schemas.proofs.FieldsStandLaws.{FirstField, one_list}
use Rattle.schemas.proofs.StandingLaws.{one_stands}
use Rattle.schemas.specs.Frames.{frame_end}
use Rattle.schemas.specs.Positions.{field_node}
use Rattle.building.proofs.ElementLaws.{cons_first, cons_rest, no_piece}
use Rattle.building.proofs.NotesLaws.{InStep, none_ready, one_ready}
use Rattle.building.specs.Building.{Ground, Bytes, Enough, PlaceReady, MemberReady, place_ready}

-- ---- without pieces nothing is noted

no_notes : (columns : SchemaFields) (schema table : List ℕ) (field place : ℕ) → field_notes columns schema table field place [] ≡ []
unfolding field_notes
no_notes none_named schema table field place = refl
no_notes (named name node more) schema table field place = refl

no_members : (columns : SchemaFields) (levels : ℕ) (ranks schema table : List ℕ) (field : ℕ) → member_places columns levels ranks schema table field [] ≡ []
unfolding member_places
no_members none_named levels ranks schema table field = refl
no_members (named name node more) levels ranks schema table field = refl

-- ---- the first of the places from a place on

pub record FirstMember (levels : ℕ) (names : Dictionary) (schema table : List ℕ) (field to : ℕ) (body : List ℕ) (place : ℕ) (columns : SchemaFields) (piece : Piece) (more : List Piece) : Type 0 where
  pub some_left : field < to
  pub name : List ℕ
  pub node : Schema
  pub rest : SchemaFields
  pub are : columns ≡ named name node rest
  pub end : ℕ
  pub ends : place_end body place ≡ Some end
  pub fits : (place + 3 ≤ end) × (end ≤ length body)
  pub here : PlaceThere levels names schema table (field_node schema field) (part body (place + 3) end)
  pub here_is : here.under ≡ node
  pub known : place + 3 < end → NamedBy names name (looked_at table field)
  pub behind : MembersThere levels names schema table (frame_end schema field) to (drop end body)
  pub behind_is : behind.columns ≡ rest
  pub piece_is : piece.body ≡ part body (place + 3) end
  pub more_is : pieces_in (drop end body) ≡ more
  pub next_is : place + 3 + length piece.body ≡ end

module _ {levels : ℕ} {names : Dictionary} {schema table : List ℕ} {field to : ℕ} (body : List ℕ) (place : ℕ)
    (there : MembersThere levels names schema table field to (drop place body)) {piece : Piece} {more : List Piece} (are : pieces_in (drop place body) ≡ piece ∷ more) where
  some_field_lem : field < to
  some_field_lem = go (leb to field) refl
    where
      go : (b : Bool) → leb to field ≡ b → field < to
      go true e = no_piece (sym (pieces_none body place (members_over body place there (leb-true to field e))) ∙ are)
      go false e = leb-false to field e

  first : FirstField levels schema field to there.columns
  first = member_first body place there some_field_lem

  pub first_member : FirstMember levels names schema table field to body place there.columns piece more
  unfolding first
  first_member = go (place_end body place) refl
    where
      go : (r : Option ℕ) → r ≡ place_end body place → FirstMember levels names schema table field to body place there.columns piece more
      go None told = absurd (member_whole body place there some_field_lem told refl)
      go (Some end) told =
          let fits = member_fits body place there some_field_lem told refl in
          let both : piece ∷ more ≡ piece_in body place end ∷ pieces_in (drop end body) = sym are ∙ member_pieces body place there some_field_lem told refl in
          let is : piece.body ≡ part body (place + 3) end = ap (λ (p : Piece). p.body) (cons_first both) in
          let here = member_place body place there some_field_lem told refl (field_node schema field) refl in
          let behind = members_behind body place there some_field_lem told refl (frame_end schema field) refl in
          record {
            some_left = some_field_lem;
            name = first.name;
            node = first.node;
            rest = first.more;
            are = first.are;
            end = end;
            ends = place_ends body place end _ told refl;
            fits = fits;
            here = here;
            here_is = one_stands here.stands first.stands.inside;
            known = λ present. member_named body place there some_field_lem told refl present;
            behind = behind;
            behind_is = one_list behind.stand first.stands.behind;
            piece_is = is;
            more_is = sym (cons_rest both);
            next_is = rw (is, length-take, length-drop) (omega arith);
          }

-- Pieces that stand from a place on take three bytes each at least.
pub members_long : {levels : ℕ} {names : Dictionary} {schema table : List ℕ} {to : ℕ} (body : List ℕ) (pieces : List Piece) (field place : ℕ)
    → pieces_in (drop place body) ≡ pieces → MembersThere levels names schema table field to (drop place body) → place ≤ length body → 3 * length pieces + place ≤ length body
members_long body [] field place are there h = omega arith
members_long {schema = schema} body (piece ∷ more) field place are there h =
    let one = first_member body place there are in
    let rest = members_long body more (frame_end schema field) one.end one.more_is one.behind one.fits.1 in
    let fits = one.fits.0 in
    omega arith

-- ---- the places that are present, in step with their notes

-- Bytes of a part are bytes.
pub part_bytes : (s : List ℕ) → Bytes s → (from to : ℕ) → Bytes (part s from to)
part_bytes s bytes from to = bytes_take (to - from) (drop from s) (bytes_drop from s bytes)

module _ (levels : ℕ) (names normal : Dictionary) (ranks schema table area body : List ℕ) (to places ids floor total : ℕ)
    (ground : Ground names ranks schema) (bytes : Bytes body) (enough : (n : ℕ) → 3 * total + n ≤ length body → Enough n places ids floor) where
  abbrev Is : ℕ → ℕ → Member → Type 0
  Is at field m = MemberReady levels ranks schema table area body places ids floor at field m × (m.id < length ranks)

  module _ (piece : Piece) (more : List Piece) (field place : ℕ) (there : MembersThere levels names schema table field to (drop place body))
      (are : pieces_in (drop place body) ≡ piece ∷ more) (all : 3 * total ≤ 3 * length (piece ∷ more) + place) where
    one : FirstMember levels names schema table field to body place there.columns piece more
    one = first_member body place there are

    place_ready_lem : Numbered names normal ranks (place_ids one.node levels schema table (field_node schema field) piece.body)
        → PlaceReady levels ranks schema table (field_node schema field) (part body (place + 3) one.end) places ids floor
    place_ready_lem numbered =
        let rest = members_long body more (frame_end schema field) one.end one.more_is one.behind one.fits.1 in
        let fits = one.fits.0 in
        record {
          names = names;
          normal = normal;
          ground = ground;
          there = one.here;
          numbered = rw (one.here_is, ← one.piece_is) numbered;
          bytes = part_bytes body bytes (place + 3) one.end;
          enough = enough _ (rw (length-take, length-drop) (omega arith));
        }

    abbrev Later : (n : ℕ) → Type 0
    Later n =
        InStep Is (field_notes one.rest schema table (frame_end schema field) n more)
        (member_places one.rest levels ranks schema table (frame_end schema field) more)

    abbrev LaterIds : List ℕ
    LaterIds = member_ids one.rest levels schema table (frame_end schema field) more

    abbrev HereIds : List ℕ
    HereIds = place_ids one.node levels schema table (field_node schema field) piece.body

    abbrev HereBytes : List ℕ
    HereBytes = place_rebuilt one.node levels ranks schema table (field_node schema field) piece.body

    ready_here : (id : ℕ) → Numbered names normal ranks HereIds → 0 < field
        → MemberReady levels ranks schema table area body places ids floor place field (record { id = id; bytes = HereBytes })
    unfolding place_ready_lem
    ready_here id numbered h =
        let same : place_rebuilt one.here.under levels ranks schema table (field_node schema field) (part body (place + 3) one.end) ≡ HereBytes =
        ap (λ (u : Schema). place_rebuilt u levels ranks schema table (field_node schema field) (part body (place + 3) one.end)) one.here_is
        ∙ ap (place_rebuilt one.node levels ranks schema table (field_node schema field)) (sym one.piece_is) in
        subst (λ (s : List ℕ). MemberReady levels ranks schema table area body places ids floor place field (record { id = id; bytes = s })) same (place_ready place field one.end id (place_ready_lem numbered) h one.ends)

    -- the place is present: an id has its name
    present : (b : ℕ) (bs : List ℕ) (looked : Option InputId) → NamedBy names one.name looked → Numbered names normal ranks (add_id (b ∷ bs) looked (HereIds ++ LaterIds))
        → 0 < field → {notes : List Note} {ms : List Member} → InStep Is notes ms
        → InStep Is (add_note (b ∷ bs) looked place field notes) (add_member (b ∷ bs) looked HereBytes ms)
    unfolding add_note add_member add_id
    present b bs (Some id) known numbered h later =
        one_ready refl (
          ready_here id.0 (numbered_front HereIds LaterIds (numbered_more id.0 (HereIds ++ LaterIds) numbered)) h,
          below_held (length ranks) (id.0 ∷ (HereIds ++ LaterIds)) numbered.below id.0 (held_first id.0 (HereIds ++ LaterIds)),
        )
        later
    present b bs None known numbered h later = let is = known.looked_is in let z : ◌≡◌ {A = ℕ} 0 1 = cc in absurd (omega arith)

    later_numbered : (b : List ℕ) (looked : Option InputId) → Numbered names normal ranks (add_id b looked (HereIds ++ LaterIds)) → Numbered names normal ranks LaterIds
    unfolding add_id
    later_numbered [] looked numbered = numbered_behind HereIds LaterIds numbered
    later_numbered (b ∷ bs) (Some id) numbered = numbered_behind HereIds LaterIds (numbered_more id.0 (HereIds ++ LaterIds) numbered)
    later_numbered (b ∷ bs) None numbered = numbered_behind HereIds LaterIds numbered

    -- the place is present, or it is not
    step_by : (b : List ℕ) → piece.body ≡ b → Numbered names normal ranks (add_id b (looked_at table field) (HereIds ++ LaterIds)) → 0 < field
        → {notes : List Note} {ms : List Member} → InStep Is notes ms
        → InStep Is (add_note b (looked_at table field) place field notes) (add_member b (looked_at table field) HereBytes ms)
    unfolding add_note add_member
    step_by [] is numbered h later = later
    step_by (b ∷ bs) is numbered h later =
        let long : length piece.body ≡ suc (length bs) = ap length is in
        let next = one.next_is in
        present b bs (looked_at table field) (one.known (omega arith)) numbered h later

    module _ (columns : SchemaFields) (is : there.columns ≡ columns) (numbered : Numbered names normal ranks (member_ids columns levels schema table field (piece ∷ more))) where
      same : columns ≡ named one.name one.node one.rest
      same = sym is ∙ one.are

      first_numbered : Numbered names normal ranks (add_id piece.body (looked_at table field) (HereIds ++ LaterIds))
      unfolding member_ids
      first_numbered = rw same at numbered

      rest_numbered : Numbered names normal ranks LaterIds
      rest_numbered = later_numbered piece.body (looked_at table field) first_numbered

      stepped : 0 < field → Later one.end → InStep Is (field_notes columns schema table field place (piece ∷ more)) (member_places columns levels ranks schema table field (piece ∷ more))
      unfolding field_notes member_places
      stepped h later = rw same (step_by piece.body refl first_numbered h (subst Later (sym one.next_is) later))

  pub places_ready : (pieces : List Piece) (field place : ℕ) (columns : SchemaFields) (there : MembersThere levels names schema table field to (drop place body))
      → there.columns ≡ columns → pieces_in (drop place body) ≡ pieces → Numbered names normal ranks (member_ids columns levels schema table field pieces) → 0 < field
      → 3 * total ≤ 3 * length pieces + place → InStep Is (field_notes columns schema table field place pieces) (member_places columns levels ranks schema table field pieces)
  places_ready [] field place columns there is are numbered h all = rw (no_notes columns schema table field place, no_members columns levels ranks schema table field) none_ready
  places_ready (piece ∷ more) field place columns there is are numbered h all =
      let first = one piece more field place there are all in
      let fits = first.fits.0 in
      stepped piece more field place there are all columns is numbered h
      (places_ready more (frame_end schema field) first.end first.rest first.behind first.behind_is first.more_is
      (rest_numbered piece more field place there are all columns is numbered) (omega arith) (omega arith))
