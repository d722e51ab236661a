-- Marking a lawful value, by the reading of its first byte.
use mathlib.Core.Bool.{Bool, true, ◌&&◌}
use mathlib.Core.List.{List, []}
use mathlib.Core.Path.{◌≡◌, refl, sym, ap, ◌∙◌}
use Prim.Native.Nat.{ℕ, zero, suc, ◌-◌, ◌≤◌, ◌<◌}
use native.Mathlib.Omega.{arith}
use lib.ListN.{length}
use Rattle.marking.specs.Ids.{ids_inside, ids_by, ids_in, mark_ids}
use Rattle.marking.specs.Marking.{Markable, MarkableInside}
use Rattle.paper.specs.FirstBytes.{reading_of}
use Rattle.paper.specs.Metadata.{Dictionary, rising}
use Rattle.paper.specs.Values.{children_at, area_of, starts_of, ids_of, names_at, meaning_by, meaning_of, whole}
use Rattle.paper.specs.Words.{at, is_there, all_below}
use Rattle.paper.specs.declared.Reading.TheVariants.{Fixed, Prefixed, Short, ObjectHead, ArrayHead, Nothing}
use Rattle.paper.specs.declared.Reading.{Reading}
use Rattle.containers.specs.Children.{once_in, tiled_in}
use Rattle.values.specs.Insides.{insides_good}
use Rattle.containers.specs.Layouts.{HeadThere}
use Rattle.marking.proofs.MarkLaws.{marked_length, mark_append}
use Rattle.paper.proofs.WordLaws.{never, there_given, and_both}
use Rattle.containers.proofs.LayoutLaws.{ids_starts_length}
use Rattle.values.proofs.ValueLaws.{array_container, object_container, object_id, whole_some}
use Rattle.values.proofs.VerdictLaws.{array_verdict, object_verdict}
use Rattle.containers.proofs.WalkLaws.{below_more}

-- What a lawful value tells: a level is left, it fills its bytes, and its first byte's rules hold one level further in.
record Meant (levels : ℕ) (names : Dictionary) (s : List ℕ) : Type 0 where
  some_left : 1 ≤ levels
  fills : whole s ≡ true
  by : is_there (meaning_by (meaning_of (levels - 1) names) names (reading_of (at s 0)) s) ≡ true
  ids_by_lem : ids_in levels s ≡ ids_by (ids_in (levels - 1)) (reading_of (at s 0)) s

meant_in : (levels : ℕ) (names : Dictionary) (s : List ℕ) → is_there (meaning_of levels names s) ≡ true → Meant levels names s
unfolding meaning_of ids_in is_there
meant_in zero names s e = never (sym e)
meant_in (suc n) names s e =
    let both = and_both (whole s) _ (sym (there_given (whole s) (meaning_by (meaning_of n names) names (reading_of (at s 0)) s)) ∙ e) in
    let less : suc n - 1 ≡ n = omega arith in
    record { some_left = omega arith; fills = both.0; by = rw less both.1; ids_by_lem = rw less }

module _ {levels : ℕ} {s : List ℕ} {room : ℕ} (markable : Markable levels s room) where
  meant : Meant levels markable.names s
  meant = meant_in levels markable.names s markable.meant

  pub some_level : 1 ≤ levels
  some_level = meant.some_left

  pub value_begins : 0 < length s
  value_begins = whole_some s meant.fills

  module _ (r : Reading) (told : r ≡ reading_of (at s 0)) where
    ids_are : (q : Reading) → r ≡ q → ids_in levels s ≡ ids_by (ids_in (levels - 1)) q s
    ids_are q e = meant.ids_by_lem ∙ ap (λ (x : Reading). ids_by (ids_in (levels - 1)) x s) (sym told ∙ e)

    -- What is no container holds no ids.
    pub plain_marked : ((c i w : ℕ) → r ≡ ObjectHead c i w → ⊥) → ((c w : ℕ) → r ≡ ArrayHead c w → ⊥) → (used : List ℕ)
        → used ≡ mark_ids used (ids_in levels s)
    unfolding mark_ids ids_by
    plain_marked no-object no-array used = sym (ap (mark_ids used) (none r refl))
      where
        none : (q : Reading) → r ≡ q → ids_in levels s ≡ []
        none (Fixed code size) e = ids_are (Fixed code size) e
        none (Prefixed code) e = ids_are (Prefixed code) e
        none (Short size) e = ids_are (Short size) e
        none (ObjectHead c i w) e = absurd (no-object c i w e)
        none (ArrayHead c w) e = absurd (no-array c w e)
        none Nothing e = ids_are Nothing e

    -- ---- an array, opened

    module _ (c w : ℕ) (e : r ≡ ArrayHead c w) where
      pub array_holds : HeadThere s c 0 w
      array_holds = array_container s meant.fills r told c w e markable.small

      module _ {area starts : List ℕ} (starts_are : starts ≡ starts_of c 0 w s) (area_is : area ≡ area_of c 0 w s) where
        pub array_asks : MarkableInside (levels - 1) area starts room
        array_asks =
            let names = markable.names in
            let is : reading_of (at s 0) ≡ ArrayHead c w = sym told ∙ e in
            let lies : Bool = tiled_in (length (area_of c 0 w s)) (children_at (area_of c 0 w s) (starts_of c 0 w s)) in
            let verdict = array_verdict (meaning_of (levels - 1) names) names s c w in
            record { names = names; good = rw (area_is, starts_are) (and_both lies _ (sym verdict ∙ rw is at meant.by)).1; room = markable.room }

        pub array_marked : (used after : List ℕ) → after ≡ mark_ids used (ids_inside (ids_in (levels - 1)) area (children_at area starts))
            → after ≡ mark_ids used (ids_in levels s)
        unfolding ids_by
        array_marked used after f = (rw (area_is, starts_are) at f) ∙ ap (mark_ids used) (sym (ids_are (ArrayHead c w) e))

    -- ---- an object, opened

    module _ (c i w : ℕ) (e : r ≡ ObjectHead c i w) where
      holds_head : HeadThere s c i w
      holds_head = object_container s meant.fills r told c i w e markable.small

      least : 1 ≤ i
      least = object_id s meant.fills r told c i w e

      pub object_holds : HeadThere s c i w × (1 ≤ i)
      object_holds = (holds_head, least)

      lawful : (all_below (length markable.names) (ids_of c i s) ≡ true)
          × (insides_good (meaning_of (levels - 1) markable.names) (area_of c i w s) (children_at (area_of c i w s) (starts_of c i w s)) ≡ true)
      lawful =
          let names = markable.names in
          let is : reading_of (at s 0) ≡ ObjectHead c i w = sym told ∙ e in
          let verdict = object_verdict (meaning_of (levels - 1) names) names s c i w (ids_starts_length s c i w holds_head least) in
          let lie = and_both (all_below (length names) (ids_of c i s) && rising (names_at names (ids_of c i s))) _ (sym verdict ∙ rw is at meant.by) in
          let insides = and_both (once_in (length (area_of c i w s)) (children_at (area_of c i w s) (starts_of c i w s))) _ lie.1 in
          ((and_both (all_below (length names) (ids_of c i s)) _ lie.0).0, insides.1)

      module _ {ids : List ℕ} (ids_is : ids ≡ ids_of c i s) where
        pub run_asks : all_below room ids ≡ true
        run_asks = rw ids_is (below_more (length markable.names) room (ids_of c i s) markable.room lawful.0)

        -- own is the table with the object's own ids marked
        module _ {area starts : List ℕ} (starts_are : starts ≡ starts_of c i w s) (area_is : area ≡ area_of c i w s)
            (used own : List ℕ) (f : own ≡ mark_ids used ids) where
          pub object_asks : room ≡ length used → MarkableInside (levels - 1) area starts (length own)
          object_asks fits =
              record {
                names = markable.names;
                good = rw (area_is, starts_are) lawful.1;
                room = rw (f, marked_length used ids, ← fits) markable.room;
              }

          pub object_marked : (after : List ℕ) → after ≡ mark_ids own (ids_inside (ids_in (levels - 1)) area (children_at area starts))
              → after ≡ mark_ids used (ids_in levels s)
          unfolding ids_by
          object_marked after g =
              let inside : List ℕ = ids_inside (ids_in (levels - 1)) (area_of c i w s) (children_at (area_of c i w s) (starts_of c i w s)) in
              let own_is : own ≡ mark_ids used (ids_of c i s) = f ∙ ap (mark_ids used) ids_is in
              (rw (area_is, starts_are) at g) ∙ ap (λ (t : List ℕ). mark_ids t inside) own_is ∙ sym (mark_append used (ids_of c i s) inside)
              ∙ ap (mark_ids used) (sym (ids_are (ObjectHead c i w) e))
