-- What a writer stands on gives what each call inside it asks: a place by its parts, and what is typed by the kind of its node.
use Rattle.std.specs.Prelude.{Some}
use mathlib.Core.List.{List, [], ◌++◌}
use mathlib.Core.Path.{◌≡◌, refl}
use Prim.Native.Nat.{ℕ, zero, suc, ◌+◌, ◌-◌, ◌≤◌}
use native.Mathlib.Omega.{arith}
use lib.ListN.{length, length-take, length-drop}
use Rattle.marking.specs.Ids.{ids_in}
use Rattle.paper.specs.Meaning.{object, no_fields}
use Rattle.paper.specs.Metadata.{Dictionary}
use Rattle.paper.specs.Running.{running}
use Rattle.paper.specs.Values.{meaning_of}
use Rattle.paper.specs.Words.{part}
use Rattle.places.proofs.PlaceLaws.{one_long, typed_long, both_long}
use Rattle.places.specs.Parts.{parts_of}
use Rattle.places.specs.declared.parts.Parts.TheVariants.{Leftover as LeftoverPart, Typed as TypedPart, Both}
use Rattle.places.specs.declared.parts.Parts.{Parts}
use Rattle.putting.specs.Put.{Leftover}
use Rattle.rebuilt.proofs.NumberedLaws.{numbered_front, numbered_behind}
use Rattle.rebuilt.proofs.PartwiseLaws.{ids_are-typed}
use Rattle.rebuilt.proofs.ThereLaws.{place_leftover, place_only, place_beside, place_behind, typed_level, typed_elements, typed_members}
use Rattle.rebuilt.specs.Members.{no_left}
use Rattle.rebuilt.specs.Rebuilt.{rebuilt_by}
use Rattle.rebuilt.specs.There.{TypedThere, Numbered}
use Rattle.rebuilt.specs.Using.{typed_ids}
use Rattle.schemas.proofs.KindLaws.{list_here_lem, object_here}
use Rattle.schemas.proofs.FieldsStandLaws.{one_list}
use Rattle.schemas.proofs.StandingLaws.{one_stands}
use Rattle.schemas.specs.Frames.{frame_end}
use Rattle.schemas.specs.Kinds.{kind_at}
use Rattle.schemas.specs.Positions.{FieldsStand}
use Rattle.schemas.specs.declared.readers.Kind.TheVariants.{List as ListKind, Fields as FieldsKind}
use Rattle.schemas.specs.declared.readers.Kind.{Kind}
use Rattle.building.proofs.GrowthLaws.{leftover_ready}
use Rattle.building.proofs.MemberLaws.{part_bytes}
use Rattle.building.specs.Building.{Bytes, Enough, PlaceReady, LeftObject, TypedReady, ElementsReady, MembersReady}

-- Tables and a floor that suffice for so many bytes suffice for fewer.
pub fewer : {size less places ids floor : ℕ} → Enough size places ids floor → less ≤ size → Enough less places ids floor
fewer enough h =
    let small = enough.small in
    let places_room = enough.places_room in
    let ids_room = enough.ids_room in
    record { small = omega arith; places_room = omega arith; ids_room = omega arith; high = λ n below short. enough.high n (omega arith) short }

part_size : (s : List ℕ) (from to : ℕ) → from ≤ to → to ≤ length s → length (part s from to) ≡ to - from
part_size s from to ordered within = rw (length-take, length-drop) (omega arith)

-- The leftover that is not there is an object without members.
no_left-means : (levels : ℕ) (names : Dictionary) → 1 ≤ levels → meaning_of levels names no_left ≡ Some (object no_fields)
unfolding running
no_left-means zero names h = absurd (omega arith)
no_left-means (suc levels) names h = refl

no_left-bytes : Bytes no_left
no_left-bytes zero = omega arith
no_left-bytes (suc zero) = omega arith
no_left-bytes (suc (suc zero)) = omega arith
no_left-bytes (suc (suc (suc i))) = omega arith

no_left-object : {levels : ℕ} {names normal : Dictionary} {ranks : List ℕ} → 1 ≤ levels → Numbered names normal ranks (ids_in levels no_left)
    → LeftObject levels names normal ranks no_left
no_left-object {levels} {names} level numbered =
    record { members = no_fields; means = no_left-means levels names level; short = omega arith; numbered = numbered; bytes = no_left-bytes }

-- ---- a place by its parts

module _ {levels : ℕ} {ranks schema table : List ℕ} {node : ℕ} {body : List ℕ} {places ids floor : ℕ}
    (ready : PlaceReady levels ranks schema table node body places ids floor) {p : Parts} (is : p ≡ parts_of body) where
  pub alone_ready : p ≡ LeftoverPart → Leftover levels (part body 3 (length body)) ranks floor
  unfolding rebuilt_by
  alone_ready e =
      let left = place_leftover ready.there is e in
      let long = one_long body is e in
      let size = part_size body 3 (length body) long (omega arith) in
      let few = left.few in
      let numbered : Numbered ready.names ready.normal ranks (ids_in levels (part body 3 (length body))) =
      rw (ids_are-typed ready.there.under levels schema table node body, ← is, e) at ready.numbered in
      leftover_ready levels (part body 3 (length body)) left.means numbered (part_bytes body ready.bytes 3 (length body)) few
      (ready.enough.high (length (part body 3 (length body))) (omega arith) few)

  -- The ids of what is typed, beside those of a leftover.
  inside_numbered : (left typed : List ℕ) → rebuilt_by [] [] (ids_in levels) (λ l t. ids_in levels l ++ typed_ids ready.there.under levels schema table node t) (parts_of body) body
      ≡ ids_in levels left ++ typed_ids ready.there.under levels schema table node typed
      → Numbered ready.names ready.normal ranks (ids_in levels left ++ typed_ids ready.there.under levels schema table node typed)
  inside_numbered left typed same = rw (ids_are-typed ready.there.under levels schema table node body, same) at ready.numbered

  typed_ready : (left typed : List ℕ) (there : TypedThere levels ready.names schema table node typed) → LeftObject levels ready.names ready.normal ranks left
      → Numbered ready.names ready.normal ranks (typed_ids ready.there.under levels schema table node typed) → Bytes typed
      → length left + length typed ≤ length body → TypedReady levels ranks schema table node left typed places ids floor
  typed_ready left typed there beside numbered bytes shorter =
      record {
        names = ready.names;
        normal = ready.normal;
        ground = ready.ground;
        there = there;
        numbered = rw (one_stands there.stands ready.there.stands) numbered;
        beside = beside;
        bytes = bytes;
        enough = fewer ready.enough shorter;
      }

  module _ (e : p ≡ TypedPart) where
    pub only_ready : TypedReady levels ranks schema table node no_left (part body 3 (length body)) places ids floor
    unfolding rebuilt_by
    only_ready =
        let there = place_only ready.there is e in
        let long = typed_long body is e in
        let size = part_size body 3 (length body) long (omega arith) in
        let all = inside_numbered no_left (part body 3 (length body)) (rw (← is, e)) in
        typed_ready no_left (part body 3 (length body)) there (no_left-object (typed_level there) (numbered_front (ids_in levels no_left) _ all))
        (numbered_behind (ids_in levels no_left) _ all) (part_bytes body ready.bytes 3 (length body)) (omega arith)

  module _ {middle : ℕ} (e : p ≡ Both middle) where
    pub beside_ready : TypedReady levels ranks schema table node (part body 3 middle) (part body (middle + 3) (length body)) places ids floor
    unfolding rebuilt_by
    beside_ready =
        let there = place_behind ready.there is e in
        let beside = place_beside ready.there is e in
        let long = both_long body is e in
        let first = part_size body 3 middle long.0 (omega arith) in
        let second = part_size body (middle + 3) (length body) long.1 (omega arith) in
        let all = inside_numbered (part body 3 middle) (part body (middle + 3) (length body)) (rw (← is, e)) in
        let left : LeftObject levels ready.names ready.normal ranks (part body 3 middle) =
        record {
          members = beside.members;
          means = beside.means;
          short = beside.few;
          numbered = numbered_front (ids_in levels (part body 3 middle)) _ all;
          bytes = part_bytes body ready.bytes 3 middle;
        } in
        typed_ready (part body 3 middle) (part body (middle + 3) (length body)) there left (numbered_behind (ids_in levels (part body 3 middle)) _ all)
        (part_bytes body ready.bytes (middle + 3) (length body)) (omega arith)

-- ---- what is typed, by the kind of its node

module _ {levels : ℕ} {ranks schema table : List ℕ} {node : ℕ} {left body : List ℕ} {places ids floor : ℕ}
    (ready : TypedReady levels ranks schema table node left body places ids floor) {k : Kind} (is : k ≡ kind_at schema node) where
  pub elements_ready : k ≡ ListKind → ElementsReady (levels - 1) ranks schema table (node + 3) body places ids floor
  unfolding typed_ids
  elements_ready e =
      let there = typed_elements ready.there is e in
      let here = list_here_lem ready.there.stands is e in
      record {
        names = ready.names;
        normal = ready.normal;
        ground = ready.ground;
        there = there;
        numbered = rw (one_stands there.stands here.2.inside) (rw here.1 at ready.numbered);
        bytes = ready.bytes;
        enough = fewer ready.enough (omega arith);
      }

  pub members_ready : k ≡ FieldsKind → (to : ℕ) → to ≡ frame_end schema node → MembersReady (levels - 1) ranks schema table (node + 3) to left body places ids floor
  unfolding typed_ids
  members_ready e to ends =
      let there = typed_members ready.there is e to ends in
      let here = object_here ready.there.stands is e in
      let inside : FieldsStand (levels - 1) schema (node + 3) to here.0 = rw ends here.2.inside in
      let level = typed_level ready.there in
      let same : suc (levels - 1) ≡ levels = omega arith in
      record {
        names = ready.names;
        normal = ready.normal;
        ground = ready.ground;
        there = there;
        behind = omega arith;
        numbered = rw (one_list there.stand inside) (rw here.1 at ready.numbered);
        beside = rw same ready.beside;
        bytes = ready.bytes;
        enough = ready.enough;
      }
