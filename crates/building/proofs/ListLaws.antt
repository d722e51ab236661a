-- A list's places written, last to first: those from one on stand up to the end.
use Rattle.std.specs.Prelude.{Some, None, Option}
use mathlib.Core.List.{List, [], ◌∷◌, map}
use mathlib.Core.Path.{◌≡◌, refl, sym, ap, subst, ◌∙◌}
use Prim.Native.Nat.{ℕ, zero, suc, ◌+◌, ◌-◌, ◌*◌, ◌^◌, ◌≤◌, ◌<◌}
use native.Mathlib.Omega.{arith}
use lib.ListN.{length, get_or, take, drop, length-map}
use lib.Seq.{get_or-take}
use borrow.Rule.Slice.PartMut.{put_mid, same_len_mid, take_put}
use Rattle.forms.proofs.ContainerLaws.{array_fit}
use Rattle.forms.proofs.PartLaws.{AllFilled}
use Rattle.forms.proofs.ScalarLaws.{Filled}
use Rattle.noting.specs.Adding.{SomeElements}
use Rattle.noting.specs.Notes.{piece_places, Spotted}
use Rattle.paper.specs.Bounds.{most_walked}
use Rattle.paper.specs.Framing.{Piece}
use Rattle.paper.specs.Limits.{most_row}
use Rattle.paper.specs.Normal.{array_bytes}
use Rattle.paper.specs.Schemas.{Schema}
use Rattle.paper.specs.Words.{part, joined}
use Rattle.places.proofs.StepLaws.{place_cut, place_ends, place_fits}
use Rattle.places.specs.Frames.{place_end}
use Rattle.putting.proofs.PutLaws.{told_length, told_room, ends_lie, put_array}
use Rattle.putting.specs.Put.{Room, PutAs, full}
use Rattle.rebuilt.specs.Rebuilt.{place_rebuilt, pieces_in}
use Rattle.schemas.specs.Positions.{Stands}
use Rattle.schemas.proofs.StandingLaws.{one_stands}
use Rattle.writing.specs.Ends.{EndsAt, Lies, Lying}
use Rattle.writing.specs.Heads.{array_head}
use Rattle.building.proofs.ElementLaws.{PlaceAt, pieces_long, element_at}
use Rattle.building.proofs.FilledLaws.{place_filled}
use Rattle.building.proofs.LoopLaws.{PartsSeen, parts_start, parts_next, parts_full, parts_done}
use Rattle.building.proofs.MemberLaws.{part_bytes}
use Rattle.building.specs.Building.{PlaceReady, ElementsReady, elements_rebuilt}
use Rattle.std.proofs.lemmas.Option.{same_Some}

pub record ListSeen (levels : ℕ) (ranks schema table : List ℕ) (node : ℕ) (body places₀ ids₀ out₀ : List ℕ) (floor end count : ℕ) (places ids out : List ℕ) (start i : ℕ) : Type 0 where
  pub room : Room out floor start
  pub within : i ≤ count
  pub spotted : Spotted (piece_places 0 (pieces_in body)) places₀ count
  pub front : take count places ≡ take count places₀
  pub places_size : length places ≡ length places₀
  pub ids_size : length ids ≡ length ids₀
  pub out_size : length out ≡ length out₀
  pub parts : (element : Schema) → Stands levels schema node element → PartsSeen (elements_rebuilt element levels ranks schema table node body) out₀ out floor end start i

places_length : (place : ℕ) (pieces : List Piece) → length (piece_places place pieces) ≡ length pieces
unfolding piece_places
places_length place [] = refl
places_length place (piece ∷ more) = ap suc (places_length (place + 3 + length piece.body) more)

-- The k-th of mapped things.
pub map_at : {A B : Type 0} (f : A → B) (l : List A) (k : ℕ) (d : A) (e : B) → k < length l → get_or (map f l) k e ≡ f (get_or l k d)
map_at f [] k d e h = absurd (omega arith)
map_at f (x ∷ xs) zero d e h = refl
map_at f (x ∷ xs) (suc k) d e h = map_at f xs k d e (omega arith)

module _ {levels : ℕ} {ranks schema table : List ℕ} {node : ℕ} {body : List ℕ} {room-places room-ids floor : ℕ}
    (ready : ElementsReady levels ranks schema table node body room-places room-ids floor) where
  -- what the noting asks
  pub list_noting : SomeElements body × (length body ≤ most_row) × (length body ≤ room-places)
  list_noting =
      let there = ready.there in
      (record { levels = levels; names = ready.names; schema = schema; table = table; node = node; there = there }, ready.enough.small, ready.enough.places_room)

  abbrev elements : Schema → List (List ℕ)
  elements element = elements_rebuilt element levels ranks schema table node body

  pub list_start : {places ids out : List ℕ} {end count : ℕ} → Room out floor end → Spotted (piece_places 0 (pieces_in body)) places count
      → ListSeen levels ranks schema table node body places ids out floor end count places ids out end count
  list_start {places} {ids} {out} {end} {count} room spotted =
      let size : count ≡ length (pieces_in body) = spotted.size ∙ places_length 0 (pieces_in body) in
      record {
        room = room;
        within = omega arith;
        spotted = spotted;
        front = refl;
        places_size = refl;
        ids_size = refl;
        out_size = refl;
        parts = λ element stands. parts_start (elements element) room count (size ∙ sym (length-map (pieces_in body) (λ (piece : Piece). place_rebuilt element levels ranks schema table node piece.body)));
      }

  module _ {places₀ ids₀ out₀ places ids out : List ℕ} {end count start i : ℕ}
      (seen : ListSeen levels ranks schema table node body places₀ ids₀ out₀ floor end count places ids out start i) where
    few : count ≡ length (pieces_in body)
    few = seen.spotted.size ∙ places_length 0 (pieces_in body)

    pub list_done : i ≡ 0 → (element : Schema) → Stands levels schema node element → (EndsAt (joined (elements element)) out₀ out end start) × AllFilled (elements element)
    list_done e element stands = parts_done (seen.parts element stands) e

    -- the place that comes next, k
    module _ (some_left : 0 < i) (at : ℕ) (told : at ≡ get_or places (i - 1) 0) where
      spot_is : at ≡ get_or (piece_places 0 (pieces_in body)) (i - 1) 0
      spot_is =
          let short = seen.within in
          let below : i - 1 < count = omega arith in
          told ∙ sym (get_or-take count places (i - 1) 0 below) ∙ ap (λ (l : List ℕ). get_or l (i - 1) 0) seen.front
          ∙ get_or-take count places₀ (i - 1) 0 below ∙ seen.spotted.each (i - 1) below

      pub list_at : PlaceAt levels ready.names ready.normal ranks schema table node ready.there.element body at (3 * length (pieces_in body) + 0)
          (get_or (pieces_in body) (i - 1) (record { tag = 0; body = [] }))
      list_at =
          let short = seen.within in
          let size = few in
          rw spot_is
          (element_at levels ready.names ready.normal ranks schema table node ready.there.element ready.there.stands body (pieces_in body) 0 refl ready.there ready.numbered
          (i - 1) (omega arith))

      pub list_in : i - 1 < length places
      list_in =
          let short = seen.within in
          let room = seen.spotted.room in
          let same = seen.places_size in
          omega arith

      pub list_frame_in : at < length body
      list_frame_in = let fits = place_fits body at list_at.end list_at.ends in omega arith

      module _ {r : Option ℕ} (framed : r ≡ place_end body at) where
        pub list_whole : r ≡ None → ⊥
        list_whole e = let ends = list_at.ends in let cut = place_cut body at r framed e in let z : ◌≡◌ {A = ℕ} 0 1 = cc in omega arith

        module _ {to : ℕ} (e : r ≡ Some to) where
          same_end : to ≡ list_at.end
          same_end = same_Some to list_at.end (sym (place_ends body at to r framed e) ∙ list_at.ends)

          pub list_fits : (at + 3 ≤ to) × (to ≤ length body)
          list_fits = rw same_end (place_fits body at list_at.end list_at.ends)

          -- the call on it, with what the tables have behind the notes
          pub list-place_ready : length places₀ ≡ room-places → length ids₀ ≡ room-ids → (left-places left_ids : ℕ) → left-places ≡ length places - count → left_ids ≡ length ids
              → PlaceReady levels ranks schema table node (part body (at + 3) to) left-places left_ids floor
          list-place_ready places-kept ids-kept left-places left_ids is-places is-ids =
              let one = list_at in
              let spare = one.spare in
              let size = few in
              let enough = ready.enough in
              let small = enough.small in
              let places_room = enough.places_room in
              let ids_room = enough.ids_room in
              let same_places = seen.places_size in
              let same_ids = seen.ids_size in
              rw same_end
              record {
                names = ready.names;
                normal = ready.normal;
                ground = ready.ground;
                there = one.there;
                numbered = rw one.under_is one.numbered;
                bytes = part_bytes body ready.bytes (at + 3) one.end;
                enough = record { small = omega arith; places_room = omega arith; ids_room = omega arith; high = λ n below short. enough.high n (omega arith) short };
              }

          module _ {after : List ℕ} {r2 : Option ℕ}
              (put : (under : Schema) → Stands levels schema node under → PutAs (place_rebuilt under levels ranks schema table node (part body (at + 3) to)) out after floor start r2) where
            own_part : (element : Schema) → get_or (elements element) (i - 1) [] ≡ place_rebuilt element levels ranks schema table node (part body (at + 3) to)
            own_part element =
                let short = seen.within in
                let size = few in
                map_at (λ (piece : Piece). place_rebuilt element levels ranks schema table node piece.body) (pieces_in body) (i - 1) (record { tag = 0; body = [] }) [] (omega arith)
                ∙ ap (place_rebuilt element levels ranks schema table node) (list_at.body_is ∙ ap (part body (at + 3)) (sym same_end))

            own_put : (element : Schema) → Stands levels schema node element → PutAs (get_or (elements element) (i - 1) []) out after floor start r2
            own_put element stands = rw (own_part element) (put element stands)

            own_filled : (element : Schema) → Stands levels schema node element → length (get_or (elements element) (i - 1) []) < 2 ^ 32 → Filled (get_or (elements element) (i - 1) [])
            own_filled element stands short =
                let one = list_at in
                let spare = one.spare in
                let small = ready.enough.small in
                let same : one.there.under ≡ element = one_stands one.there.stands stands in
                let is : get_or (elements element) (i - 1) [] ≡ place_rebuilt one.there.under levels ranks schema table node (part body (at + 3) one.end) =
                own_part element ∙ rw (same, same_end) in
                subst (λ (l : List ℕ). Filled l) (sym is) (place_filled ranks one.there (omega arith) (rw is at short))

            pub list_full : r2 ≡ None → (last : List ℕ) → (element : Schema) → Stands levels schema node element → PutAs (array_bytes (elements element)) out₀ last floor end None
            list_full e2 last element stands =
                let before = parts_full (seen.parts element stands) (i - 1) (omega arith) (own_put element stands) e2 in
                let long = array_fit (elements element) in
                full (omega arith)

            pub list_next : {next : ℕ} → r2 ≡ Some next → length ids₀ ≡ room-ids → {left_ids : List ℕ} → length left_ids ≡ length ids → (back : List ℕ)
                → length back ≡ length (take (length places - count) (drop count places))
                → ListSeen levels ranks schema table node body places₀ ids₀ out₀ floor end count (put_mid count (length places - count) places back) left_ids after next (i - 1)
            list_next {next} e2 ids-kept {left_ids} ids_back back places_back =
                let short = seen.within in
                let room_for = seen.spotted.room in
                let same_places = seen.places_size in
                let same_ids = seen.ids_size in
                let same_out = seen.out_size in
                let element = ready.there.element in
                let one = put element ready.there.stands in
                let put_length = told_length one seen.room.within e2 in
                record {
                  room = told_room one seen.room e2;
                  within = omega arith;
                  spotted = seen.spotted;
                  front = take_put count (length places - count) places back (omega arith) ∙ seen.front;
                  places_size = same_len_mid count (length places - count) places back places_back ∙ same_places;
                  ids_size = ids_back ∙ same_ids;
                  out_size = put_length ∙ same_out;
                  parts = λ each stands. parts_next (seen.parts each stands) (i - 1) (omega arith) (own_put each stands) e2 (own_filled each stands);
                }

    -- ---- the head

    pub list_lying : i ≡ 0 → Lying out start end count
    list_lying e =
        let done = list_done e ready.there.element ready.there.stands in
        let fits = (seen.parts ready.there.element ready.there.stands).fits in
        record {
          parts = elements ready.there.element;
          lie = ends_lie (elements ready.there.element) done.1 fits done.0;
          count_is = length-map (pieces_in body) (λ (piece : Piece). place_rebuilt ready.there.element levels ranks schema table node piece.body) ∙ sym few;
        }

    pub list_few : count ≤ most_walked
    list_few = let size = few in let long = pieces_long body (pieces_in body) 0 refl ready.there (omega arith) in let short = ready.enough.small in omega arith

    pub list_put : i ≡ 0 → {last : List ℕ} {r2 : Option ℕ}
        → ((parts : List (List ℕ)) → Lies out start end parts → length parts ≡ count → PutAs (array_head parts) out last floor start r2)
        → (element : Schema) → Stands levels schema node element → PutAs (array_bytes (elements element)) out₀ last floor end r2
    list_put e head element stands =
        let done = list_done e element stands in
        let fits = (seen.parts element stands).fits in
        put_array (elements element) fits done.0
        (head (elements element) (ends_lie (elements element) done.1 fits done.0)
        (length-map (pieces_in body) (λ (piece : Piece). place_rebuilt element levels ranks schema table node piece.body) ∙ sym few))
