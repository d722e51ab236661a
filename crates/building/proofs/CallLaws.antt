-- One member of an object: what the calls on it ask, and what was put is its bytes.
use Rattle.std.specs.Prelude.{Option, None, Some}
use mathlib.Core.List.{List}
use mathlib.Core.Path.{◌≡◌, refl, sym, ap, ◌∙◌}
use Prim.Native.Nat.{ℕ, ◌+◌, ◌-◌, ◌≤◌, ◌<◌}
use native.Mathlib.Omega.{arith}
use lib.ListN.{length}
use Rattle.containers.proofs.ChildLaws.{extent_fits}
use Rattle.forms.proofs.LieLaws.{child_length}
use Rattle.paper.specs.Bounds.{most_walked}
use Rattle.paper.specs.Schemas.{Schema}
use Rattle.paper.specs.Values.{child_extent, child_bytes}
use Rattle.paper.specs.Words.{part}
use Rattle.places.proofs.StepLaws.{place_cut, place_ends, place_fits}
use Rattle.places.specs.Frames.{place_end}
use Rattle.putting.specs.Put.{Leftover, PutAs}
use Rattle.rebuilt.specs.Members.{Member}
use Rattle.rebuilt.specs.Rebuilt.{place_rebuilt}
use Rattle.schemas.specs.Positions.{Stands, field_node}
use Rattle.writing.specs.Rewritten.{rewritten}
use Rattle.building.proofs.GrowthLaws.{leftover_ready}
use Rattle.building.specs.Building.{PlaceReady, MemberReady, left_ready, place_ready, SomeMember}
use Rattle.std.proofs.lemmas.Option.{same_Some}

-- ---- a leftover's member

extent_is : (x : Option ℕ) (r : Option ℕ) → r ≡ x → {size : ℕ} → r ≡ Some size → x ≡ Some size
extent_is None r is e = let z : ◌≡◌ {A = ℕ} 0 1 = cc in absurd (omega arith)
extent_is (Some n) r is e = ap Some (size_same (sym is ∙ e))
  where
    size_same : {a b : ℕ} → Some a ≡ Some b → a ≡ b
    size_same same = cc

record LeftView (levels : ℕ) (ranks area : List ℕ) (floor at : ℕ) (one : Member) : Type 0 where
  pub size : ℕ
  pub long : child_extent area at ≡ Some size
  pub asks : Leftover levels (child_bytes area (record { start = at; size = size })) ranks floor
  pub small : length area ≤ most_walked
  pub bytes_are : one.bytes ≡ rewritten levels ranks (child_bytes area (record { start = at; size = size }))

left_view : {levels : ℕ} {ranks schema table area body : List ℕ} {places ids floor at field : ℕ} {one : Member}
    → MemberReady levels ranks schema table area body places ids floor at field one → field ≡ 0 → LeftView levels ranks area floor at one
left_view {levels} {area = area} (left_ready at size id names normal d long means numbered bytes high short small) e =
    let same = child_length area (record { start = at; size = size }) long in
    record {
      size = size;
      long = long;
      asks = leftover_ready levels (child_bytes area (record { start = at; size = size })) means numbered bytes (omega arith) (omega arith);
      small = small;
      bytes_are = refl;
    }
left_view (place_ready at field end id ready h ends) e = absurd (omega arith)

-- The bytes that are lent are the child's own.
own_bytes : (area : List ℕ) (at size : ℕ) → part area at (at + size) ≡ child_bytes area (record { start = at; size = size })
unfolding child_bytes
own_bytes area at size = let same : at + size - at ≡ size = omega arith in rw same

module _ {levels : ℕ} {ranks schema table area body : List ℕ} {places ids floor at field : ℕ} (e : field ≡ 0) where
  module _ {r : Option ℕ} (told : r ≡ child_extent area at) where
    pub member_known : r ≡ None → (one : Member) → MemberReady levels ranks schema table area body places ids floor at field one → ⊥
    member_known lost one ready =
        let long = (left_view ready e).long in
        let is : r ≡ Some (left_view ready e).size = told ∙ rw long in
        let z : ◌≡◌ {A = ℕ} 0 1 = cc in
        omega arith

    module _ {size : ℕ} (sized : r ≡ Some size) where
      size_is : {one : Member} (ready : MemberReady levels ranks schema table area body places ids floor at field one) → (left_view ready e).size ≡ size
      size_is ready =
          let long = (left_view ready e).long in
          same_Some (left_view ready e).size size (sym long ∙ extent_is (child_extent area at) r told sized)

      pub member_in : SomeMember levels ranks schema table area body places ids floor at field → (at + size ≤ length area) × (length area ≤ most_walked)
      member_in some_one =
          let view = left_view some_one.ready e in
          ((extent_fits area at size (extent_is (child_extent area at) r told sized)).1, view.small)

      pub member_leftover : SomeMember levels ranks schema table area body places ids floor at field → Leftover levels (part area at (at + size)) ranks floor
      member_leftover some_one =
          let view = left_view some_one.ready e in
          let same : view.size ≡ size = size_is some_one.ready in
          rw (own_bytes area at size, ← same) view.asks

      pub member_left : {before after : List ℕ} {end : ℕ} {r2 : Option ℕ} → PutAs (rewritten levels ranks (part area at (at + size))) before after floor end r2
          → (one : Member) → MemberReady levels ranks schema table area body places ids floor at field one → PutAs one.bytes before after floor end r2
      member_left done one ready =
          let view = left_view ready e in
          let same : view.size ≡ size = size_is ready in
          rw (view.bytes_are, same, ← own_bytes area at size) done

-- ---- a place

pub member_fits : (body : List ℕ) (at : ℕ) {r : Option ℕ} → r ≡ place_end body at → {to : ℕ} → r ≡ Some to → (at + 3 ≤ to) × (to ≤ length body)
member_fits body at {r} framed {to} e = place_fits body at to (place_ends body at to r framed e)

record PlaceView (levels : ℕ) (ranks schema table body : List ℕ) (places ids floor at field : ℕ) (one : Member) : Type 0 where
  pub end : ℕ
  pub ends : place_end body at ≡ Some end
  pub ready : PlaceReady levels ranks schema table (field_node schema field) (part body (at + 3) end) places ids floor
  pub bytes_are : one.bytes ≡ place_rebuilt ready.there.under levels ranks schema table (field_node schema field) (part body (at + 3) end)

place_view : {levels : ℕ} {ranks schema table area body : List ℕ} {places ids floor at field : ℕ} {one : Member}
    → MemberReady levels ranks schema table area body places ids floor at field one → (field ≡ 0 → ⊥) → PlaceView levels ranks schema table body places ids floor at field one
place_view (left_ready at size id names normal d long means numbered bytes high short small) other = absurd (other refl)
place_view (place_ready at field end id ready h ends) other = record { end = end; ends = ends; ready = ready; bytes_are = refl }

module _ {levels : ℕ} {ranks schema table area body : List ℕ} {places ids floor at field : ℕ} (other : field ≡ 0 → ⊥) where
  module _ (some_one : SomeMember levels ranks schema table area body places ids floor at field) where
    pub member_framed : at < length body
    member_framed =
        let view = place_view some_one.ready other in
        let fits = place_fits body at view.end view.ends in
        omega arith

    pub member_node : field_node schema field ≤ length schema
    member_node = let view = place_view some_one.ready other in let inside = view.ready.there.stands.within in omega arith

  module _ {r : Option ℕ} (framed : r ≡ place_end body at) where
    pub member_whole : r ≡ None → (one : Member) → MemberReady levels ranks schema table area body places ids floor at field one → ⊥
    member_whole cut one ready =
        let ends = (place_view ready other).ends in
        let none_there = place_cut body at r framed cut in
        let z : ◌≡◌ {A = ℕ} 0 1 = cc in
        omega arith

    module _ {to : ℕ} (e : r ≡ Some to) where
      end_is : {one : Member} (ready : MemberReady levels ranks schema table area body places ids floor at field one) → (place_view ready other).end ≡ to
      end_is ready =
          let ends = (place_view ready other).ends in
          same_Some (place_view ready other).end to (sym ends ∙ place_ends body at to r framed e)

      pub member_place : SomeMember levels ranks schema table area body places ids floor at field → (node : ℕ) → node ≡ field_node schema field
          → PlaceReady levels ranks schema table node (part body (at + 3) to) places ids floor
      member_place some_one node is =
          let view = place_view some_one.ready other in
          let same : view.end ≡ to = end_is some_one.ready in
          rw (is, ← same) view.ready

      pub member_placed : (node : ℕ) → node ≡ field_node schema field → {before after : List ℕ} {end : ℕ} {r2 : Option ℕ}
          → ((under : Schema) → Stands levels schema node under → PutAs (place_rebuilt under levels ranks schema table node (part body (at + 3) to)) before after floor end r2)
          → (one : Member) → MemberReady levels ranks schema table area body places ids floor at field one → PutAs one.bytes before after floor end r2
      member_placed node is done one ready =
          let view = place_view ready other in
          let same : view.end ≡ to = end_is ready in
          let stands : Stands levels schema node view.ready.there.under = rw is view.ready.there.stands in
          rw (view.bytes_are, same, ← is) (done view.ready.there.under stands)
