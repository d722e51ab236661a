-- An object's members written, last to first: those from one on stand up to the end.
use Rattle.std.specs.Prelude.{Some, None, Option}
use mathlib.Core.Bool.{true}
use mathlib.Core.List.{List, [], map}
use mathlib.Core.Path.{◌≡◌, refl, sym, ap, subst, ◌∙◌}
use Prim.Native.Nat.{ℕ, ◌+◌, ◌-◌, ◌*◌, ◌^◌, ◌≤◌, ◌<◌}
use native.Mathlib.Omega.{arith}
use borrow.Rule.Slice.PartMut.{put_mid, same_len_mid, take_put}
use lib.ListN.{length, get_or, take, drop, length-map, length-take, take-append-drop}
use lib.Seq.{get_or-take}
use Rattle.forms.proofs.PartLaws.{AllFilled}
use Rattle.forms.proofs.ScalarLaws.{Filled}
use Rattle.forms.proofs.LieLaws.{child_length}
use Rattle.noting.proofs.FrontLaws.{front_same}
use Rattle.paper.proofs.WordLaws.{some_there}
use Rattle.paper.specs.Bounds.{most_walked}
use Rattle.paper.specs.Values.{child_bytes, meaning_of}
use Rattle.paper.specs.Words.{numbers, all_below, joined}
use Rattle.putting.proofs.PutLaws.{told_length, told_room, ends_lie, put_object, object_holds}
use Rattle.runs.proofs.NumbersRunLaws.{run_length}
use Rattle.putting.specs.Put.{Room, PutAs, full}
use Rattle.rebuilt.specs.Members.{Member, object_of}
use Rattle.writing.proofs.RewrittenLaws.{rewritten_filled}
use Rattle.writing.specs.Ends.{EndsAt, Lies, Lying}
use Rattle.writing.specs.Heads.{object_head}
use Rattle.writing.specs.Rewritten.{ranks_at}
use Rattle.building.proofs.FilledLaws.{place_filled}
use Rattle.building.proofs.ListLaws.{map_at}
use Rattle.building.proofs.LoopLaws.{PartsSeen, parts_start, parts_next, parts_full, parts_done}
use Rattle.building.specs.Building.{MemberReady, left_ready, place_ready, SomeMember, NotesReady, member_in}

abbrev pub bytes_of : List Member → List (List ℕ)
bytes_of all = map (λ (m : Member). m.bytes) all

-- What a member is written as is one value.
pub member_filled : {levels : ℕ} {ranks schema table area body : List ℕ} {places ids floor at field : ℕ} {one : Member}
    → MemberReady levels ranks schema table area body places ids floor at field one → length one.bytes < 2 ^ 32 → Filled one.bytes
member_filled {levels} {ranks} {area = area} (left_ready at size id names normal d long means numbered bytes high short small) fits =
    let own : List ℕ = child_bytes area (record { start = at; size = size }) in
    let few = child_length area (record { start = at; size = size }) long in
    rewritten_filled levels names ranks own (some_there (meaning_of levels names own) means) (omega arith) fits
member_filled {ranks = ranks} (place_ready at field end id ready h ends) fits = let small = ready.enough.small in place_filled ranks ready.there (omega arith) fits

pub record NotedSeen (levels : ℕ) (ranks schema table area body places₀ ids₀ out₀ : List ℕ) (floor end count : ℕ) (places ids out : List ℕ) (start i : ℕ) : Type 0 where
  pub room : Room out floor start
  pub within : i ≤ count
  pub places_front : take (2 * count) places ≡ take (2 * count) places₀
  pub ids_front : take (2 * count) ids ≡ take (2 * count) ids₀
  pub places_size : length places ≡ length places₀
  pub ids_size : length ids ≡ length ids₀
  pub out_size : length out ≡ length out₀
  pub parts : (ready : NotesReady levels ranks schema table area body places₀ ids₀ count floor) → PartsSeen (bytes_of ready.all) out₀ out floor end start i

-- Numbers go by the bytes that they take.
front_numbers : (count : ℕ) (s : List ℕ) → 2 * count ≤ length s → numbers 2 count s ≡ numbers 2 count (take (2 * count) s)
front_numbers count s room =
    ap (numbers 2 count) (sym (take-append-drop (2 * count) s))
    ∙ front_same 2 count (take (2 * count) s) (drop (2 * count) s) (omega arith) (rw length-take (omega arith))

numbers_front : (count : ℕ) (s t : List ℕ) → 2 * count ≤ length s → 2 * count ≤ length t → take (2 * count) s ≡ take (2 * count) t → numbers 2 count s ≡ numbers 2 count t
numbers_front count s t room also same = front_numbers count s room ∙ ap (numbers 2 count) same ∙ sym (front_numbers count t also)

module _ {levels : ℕ} {ranks schema table area body places₀ ids₀ : List ℕ} {floor count : ℕ} where
  pub noted_start : {out : List ℕ} {end : ℕ} → Room out floor end
      → NotedSeen levels ranks schema table area body places₀ ids₀ out floor end count places₀ ids₀ out end count
  noted_start {out} {end} room =
      record {
        room = room;
        within = omega arith;
        places_front = refl;
        ids_front = refl;
        places_size = refl;
        ids_size = refl;
        out_size = refl;
        parts = λ ready. parts_start (bytes_of ready.all) room count (sym ready.size ∙ sym (length-map ready.all (λ (m : Member). m.bytes)));
      }

  module _ (ready : NotesReady levels ranks schema table area body places₀ ids₀ count floor) {out₀ places ids out : List ℕ} {end start i : ℕ}
      (seen : NotedSeen levels ranks schema table area body places₀ ids₀ out₀ floor end count places ids out start i) where
    module _ (some_left : 0 < i) where
      pub noted_in : 2 * (i - 1) + 1 < length places
      noted_in =
          let short = seen.within in
          let room = ready.noted.places_room in
          let same = seen.places_size in
          omega arith

      front_at : (k : ℕ) → k < 2 * count → get_or places k 0 ≡ get_or places₀ k 0
      front_at k below =
          sym (get_or-take (2 * count) places k 0 below) ∙ ap (λ (l : List ℕ). get_or l k 0) seen.places_front ∙ get_or-take (2 * count) places₀ k 0 below

      module _ (at field : ℕ) (at-is : at ≡ get_or places (2 * (i - 1)) 0) (field_is : field ≡ get_or places (2 * (i - 1) + 1) 0) where
        own : (left-places left_ids : ℕ) → left-places ≡ length places - 2 * count → left_ids ≡ length ids - 2 * count
            → MemberReady levels ranks schema table area body left-places left_ids floor at field (member_in ready.all (i - 1))
        own left-places left_ids is-places is-ids =
            let short = seen.within in
            let here : at ≡ get_or places₀ (2 * (i - 1)) 0 = at-is ∙ front_at (2 * (i - 1)) (omega arith) in
            let there : field ≡ get_or places₀ (2 * (i - 1) + 1) 0 = field_is ∙ front_at (2 * (i - 1) + 1) (omega arith) in
            let same_places : left-places ≡ length places₀ - 2 * count = is-places ∙ ap (λ (n : ℕ). n - 2 * count) seen.places_size in
            let same_ids : left_ids ≡ length ids₀ - 2 * count = is-ids ∙ ap (λ (n : ℕ). n - 2 * count) seen.ids_size in
            rw (here, there, same_places, same_ids) (ready.each (i - 1) (omega arith))

        pub noted_member : (left-places left_ids : ℕ) → left-places ≡ length places - 2 * count → left_ids ≡ length ids - 2 * count
            → SomeMember levels ranks schema table area body left-places left_ids floor at field
        noted_member left-places left_ids is-places is-ids = record { one = member_in ready.all (i - 1); ready = own left-places left_ids is-places is-ids }

        module _ {after : List ℕ} {r : Option ℕ} (left-places left_ids : ℕ) (is-places : left-places ≡ length places - 2 * count) (is-ids : left_ids ≡ length ids - 2 * count)
            (put : (one : Member) → MemberReady levels ranks schema table area body left-places left_ids floor at field one → PutAs one.bytes out after floor start r) where
          one_ready : MemberReady levels ranks schema table area body left-places left_ids floor at field (member_in ready.all (i - 1))
          one_ready = own left-places left_ids is-places is-ids

          same_part : get_or (bytes_of ready.all) (i - 1) [] ≡ (member_in ready.all (i - 1)).bytes
          same_part =
              let short = seen.within in
              let size = ready.size in
              map_at (λ (m : Member). m.bytes) ready.all (i - 1) (record { id = 0; bytes = [] }) [] (omega arith)

          own_put : PutAs (get_or (bytes_of ready.all) (i - 1) []) out after floor start r
          own_put = rw same_part (put (member_in ready.all (i - 1)) one_ready)

          pub noted_full : r ≡ None → (last : List ℕ) → PutAs (object_of ranks ready.all) out₀ last floor end None
          unfolding object_of
          noted_full e last =
              let before = parts_full (seen.parts ready) (i - 1) (omega arith) own_put e in
              let long = object_holds (ranks_at ranks (map (λ (m : Member). m.id) ready.all)) (bytes_of ready.all) in
              full (omega arith)

          own_filled : length (get_or (bytes_of ready.all) (i - 1) []) < 2 ^ 32 → Filled (get_or (bytes_of ready.all) (i - 1) [])
          own_filled short = subst (λ (l : List ℕ). Filled l) (sym same_part) (member_filled one_ready (rw same_part at short))

    -- ---- the head

    noted_done : i ≡ 0 → (EndsAt (joined (bytes_of ready.all)) out₀ out end start) × AllFilled (bytes_of ready.all)
    noted_done e = parts_done (seen.parts ready) e

    many : length (bytes_of ready.all) ≡ count
    many = length-map ready.all (λ (m : Member). m.bytes) ∙ ready.size

    lie : i ≡ 0 → Lies out start end (bytes_of ready.all)
    lie e = ends_lie (bytes_of ready.all) (noted_done e).1 (seen.parts ready).fits (noted_done e).0

    pub noted-ids_in : 2 * count ≤ length ids
    noted-ids_in = let room = ready.noted.ids_room in let same = seen.ids_size in omega arith

    ids_same : numbers 2 count ids ≡ numbers 2 count ids₀
    ids_same = numbers_front count ids ids₀ noted-ids_in ready.noted.ids_room seen.ids_front

    -- the run of its ids
    module _ {run : List ℕ} (run_is : run ≡ numbers 2 count ids) where
      run_many : length run ≡ count
      run_many = ap length run_is ∙ run_length 2 count ids (omega arith) (let room = noted-ids_in in omega arith)

      pub noted_lying : i ≡ 0 → Lying out start end (length run)
      noted_lying e = record { parts = bytes_of ready.all; lie = lie e; count_is = many ∙ sym run_many }

      pub noted_few : length run ≤ most_walked
      noted_few = let few = ready.few in omega (arith, run_many)

      pub noted_ranked : all_below (length ranks) run ≡ true
      noted_ranked = rw (run_is, ids_same) ready.ranked

      pub noted_put : i ≡ 0 → {last : List ℕ} {r : Option ℕ}
          → ((parts : List (List ℕ)) → Lies out start end parts → length parts ≡ length run → PutAs (object_head (ranks_at ranks run) parts) out last floor start r)
          → PutAs (object_of ranks ready.all) out₀ last floor end r
      unfolding object_of
      noted_put e {last} {r} head =
          let ids_are : run ≡ map (λ (m : Member). m.id) ready.all = run_is ∙ ids_same ∙ ready.noted.ids_are ∙ sym ready.ids_are in
          put_object (bytes_of ready.all) (seen.parts ready).fits (noted_done e).0 (ranks_at ranks (map (λ (m : Member). m.id) ready.all))
          (rw ids_are at (head (bytes_of ready.all) (lie e) (many ∙ sym run_many)))

  -- ---- one member more

  pub noted_next : (ready : NotesReady levels ranks schema table area body places₀ ids₀ count floor) {out₀ places ids out : List ℕ} {end start i : ℕ}
      (seen : NotedSeen levels ranks schema table area body places₀ ids₀ out₀ floor end count places ids out start i) → 0 < i
      → (at field : ℕ) → at ≡ get_or places (2 * (i - 1)) 0 → field ≡ get_or places (2 * (i - 1) + 1) 0
      → {after : List ℕ} {r : Option ℕ} (left-places left_ids : ℕ) → left-places ≡ length places - 2 * count → left_ids ≡ length ids - 2 * count
      → ((one : Member) → MemberReady levels ranks schema table area body left-places left_ids floor at field one → PutAs one.bytes out after floor start r)
      → {next : ℕ} → r ≡ Some next
      → (used : ℕ) → used ≡ 2 * count
      → (back-places : List ℕ) → length back-places ≡ length (take (length places - used) (drop used places))
      → (back-ids : List ℕ) → length back-ids ≡ length (take (length ids - used) (drop used ids))
      → NotedSeen levels ranks schema table area body places₀ ids₀ out₀ floor end count (put_mid used (length places - used) places back-places)
      (put_mid used (length ids - used) ids back-ids) after next (i - 1)
  noted_next ready {out₀} {places} {ids} {out} {end} {start} {i} seen some_left at field at-is field_is left-places left_ids is-places is-ids put e used is-used back-places places_back back-ids ids_back =
      let short = seen.within in
      let room_for = ready.noted.places_room in
      let ids-for = ready.noted.ids_room in
      let same_places = seen.places_size in
      let same_ids = seen.ids_size in
      let one = put (member_in ready.all (i - 1)) (one_ready ready seen some_left at field at-is field_is left-places left_ids is-places is-ids put) in
      record {
        room = told_room one seen.room e;
        within = omega arith;
        places_front = rw (← is-used) (take_put used (length places - used) places back-places (omega arith)) ∙ seen.places_front;
        ids_front = rw (← is-used) (take_put used (length ids - used) ids back-ids (omega arith)) ∙ seen.ids_front;
        places_size = same_len_mid used (length places - used) places back-places places_back ∙ same_places;
        ids_size = same_len_mid used (length ids - used) ids back-ids ids_back ∙ same_ids;
        out_size = told_length one seen.room.within e ∙ seen.out_size;
        parts =
            λ each.
            parts_next (seen.parts each) (i - 1) (omega arith) (own_put each seen some_left at field at-is field_is left-places left_ids is-places is-ids put) e
            (own_filled each seen some_left at field at-is field_is left-places left_ids is-places is-ids put);
      }
