-- Marking inside one child: what is no container has no ids inside, and a child that is there is marked as its own bytes are.
use Rattle.std.specs.Prelude.{Option, None, Some}
use mathlib.Core.Bool.{Bool, true, false, cond}
use mathlib.Core.List.{List, []}
use mathlib.Core.Path.{◌≡◌, refl, sym, ap, ◌∙◌}
use Prim.Native.Nat.{ℕ, zero, suc, ◌+◌, ◌-◌, ◌/◌, ◌%◌, ◌≤◌, ◌<◌}
use native.Mathlib.Nat.{add-zero}
use native.Mathlib.Omega.{arith}
use lib.Dec.{leb, eqb}
use lib.ListN.{length, get_or, take, drop}
use lib.Seq.{get_or-take, get_or-drop}
use Rattle.marking.specs.Ids.{ids_by, ids_in, mark_ids}
use Rattle.marking.specs.Marking.{Markable, MarkableChild, ids_of_sized, ids_at}
use Rattle.paper.specs.FirstBytes.{length_prefixed, payload_sizes, primitive_reading, kind_reading, reading_of}
use Rattle.paper.specs.Values.{child_extent, child_bytes, meaning_of}
use Rattle.paper.specs.Words.{at, and_then, is_there}
use Rattle.paper.specs.declared.Reading.TheVariants.{Fixed, Prefixed, Nothing}
use Rattle.values.specs.Insides.{child_good}
use Rattle.heads.proofs.HeadLaws.{extent_positive}
use Rattle.paper.proofs.WordLaws.{never, there_some}
use Rattle.containers.proofs.ChildLaws.{extent_fits}
use Rattle.values.proofs.InsideLaws.{child_judged}
use Rattle.containers.proofs.OwnLaws.{child_starts, known, own_is, child_asks as own-asks}

-- ---- no container, no ids

none_by : (inner : List ℕ → List ℕ) (first : ℕ) (s : List ℕ) → first % 4 < 2 → ids_by inner (reading_of first) s ≡ []
unfolding reading_of kind_reading primitive_reading ids_by
none_by inner first s h = go (first % 4) h
  where
    primitive : (code size : ℕ) (small prefixed : Bool) → ids_by inner (cond small (cond prefixed (Prefixed code) (Fixed code size)) Nothing) s ≡ []
    primitive code size true true = refl
    primitive code size true false = refl
    primitive code size false prefixed = refl

    go : (kind : ℕ) → kind < 2 → ids_by inner (kind_reading kind (first / 4)) s ≡ []
    go zero h =
        primitive (first / 4) (get_or payload_sizes (first / 4) 0) (leb (first / 4) 20) (eqb (get_or payload_sizes (first / 4) 0) length_prefixed)
    go (suc zero) h = refl
    go (suc (suc more)) h = absurd (omega arith)

-- A value of this first byte is a primitive or a short string.
pub no_ids : (levels : ℕ) (s : List ℕ) → at s 0 % 4 < 2 → ids_in levels s ≡ []
unfolding ids_in
no_ids zero s h = refl
no_ids (suc levels) s h = none_by (ids_in levels) (at s 0) s h

-- ---- the child at a start

first_there : {A B : Type 0} (x : Option A) (next : A → Option B) → is_there (and_then x next) ≡ true → is_there x ≡ true
unfolding and_then is_there
first_there None next e = e
first_there (Some a) next e = refl

first_own : (area : List ℕ) (start size : ℕ) → child_extent area start ≡ Some size
    → at (child_bytes area (record { start = start; size = size })) 0 ≡ at area start
unfolding child_bytes
first_own area start size long =
    let least : 1 ≤ size = extent_positive (drop start area) (extent_fits area start size long).0 in
    get_or-take size (drop start area) 0 0 least ∙ get_or-drop start area 0 0 ∙ ap (at area) (add-zero start)

sized_ids : (inner : List ℕ → List ℕ) (area : List ℕ) (start size : ℕ) → child_extent area start ≡ Some size
    → ids_at inner area start ≡ inner (child_bytes area (record { start = start; size = size }))
unfolding ids_at ids_of_sized
sized_ids inner area start size long = rw long

module _ {levels : ℕ} {area : List ℕ} {start room : ℕ} (markable : MarkableChild levels area start room) where
  there : is_there (child_extent area start) ≡ true
  unfolding child_good
  there = first_there (child_extent area start) _ markable.good

  pub child_begins : start < length area
  child_begins = child_starts area start there

  -- its first byte is no container's
  pub child_plain : (used : List ℕ) → at area start % 4 < 2 → used ≡ mark_ids used (ids_at (ids_in levels) area start)
  unfolding mark_ids
  child_plain used h =
      let has = there_some (child_extent area start) there in
      let none_inside : ids_in levels (child_bytes area (record { start = start; size = has.0 })) ≡ [] =
      no_ids levels (child_bytes area (record { start = start; size = has.0 })) (rw (first_own area start has.0 has.1) h) in
      sym (ap (mark_ids used) (sized_ids (ids_in levels) area start has.0 has.1 ∙ none_inside))

  module _ (r : Option ℕ) (told : r ≡ child_extent area start) where
    -- it has its length
    pub child_lost : r ≡ None → (used : List ℕ) → used ≡ mark_ids used (ids_at (ids_in levels) area start)
    unfolding is_there
    child_lost e used = never (sym there ∙ ap is_there (sym told ∙ e))

    module _ (size : ℕ) (e : r ≡ Some size) where
      pub child_asks : Markable levels (take (start + size - start) (drop start area)) room
      child_asks =
          record {
            names = markable.names;
            meant = child_judged (meaning_of levels markable.names) area start r told size e _ refl ∙ markable.good;
            room = markable.room;
            small = (own-asks area start r told size e markable.small).1;
          }

      pub child_marked : (used after : List ℕ) → after ≡ mark_ids used (ids_in levels (take (start + size - start) (drop start area)))
          → after ≡ mark_ids used (ids_at (ids_in levels) area start)
      child_marked used after f =
          let long : child_extent area start ≡ Some size = known area start r told size e in
          f ∙ ap (mark_ids used) (ap (ids_in levels) (own_is area start size long) ∙ sym (sized_ids (ids_in levels) area start size long))
