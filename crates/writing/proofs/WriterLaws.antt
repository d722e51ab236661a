-- A lawful value by its first byte: what its parts need to be written, and what they come to.
use mathlib.Core.Bool.{true, ◌&&◌}
use mathlib.Core.List.{List, ◌++◌}
use mathlib.Core.Path.{◌≡◌, refl, sym, ap, ◌∙◌}
use Prim.Native.Nat.{ℕ, ◌+◌, ◌-◌, ◌≤◌, ◌<◌}
use native.Mathlib.Omega.{arith}
use lib.ListN.{length, length-append}
use Rattle.forms.proofs.ContainerLaws.{array_length, object_length}
use Rattle.marking.specs.Ids.{ids_inside, ids_by, ids_in}
use Rattle.numbers.specs.Little.{smallest_width, number_at}
use Rattle.paper.proofs.WordLaws.{and_both}
use Rattle.paper.specs.Bounds.{most_walked}
use Rattle.paper.specs.FirstBytes.{reading_of, count_size}
use Rattle.paper.specs.Metadata.{rising}
use Rattle.paper.specs.Normal.{large_bit, largest, array_bytes, object_bytes}
use Rattle.paper.specs.Values.{head_size_of, children_at, area_of, starts_of, ids_of, names_at, meaning_of}
use Rattle.paper.specs.Words.{at, all_below, joined}
use Rattle.paper.specs.declared.Reading.TheVariants.{Fixed, Prefixed, Short, ObjectHead, ArrayHead, Nothing}
use Rattle.paper.specs.declared.Reading.{Reading}
use Rattle.containers.proofs.LayoutLaws.{area_small, starts_few, ids_starts_length}
use Rattle.values.proofs.ValueLaws.{whole_some, array_container, object_container, object_id}
use Rattle.values.proofs.VerdictLaws.{array_verdict, object_verdict}
use Rattle.containers.specs.Children.{tiled_in, once_in}
use Rattle.containers.specs.Layouts.{HeadThere}
use Rattle.writing.specs.Ends.{EndsAt, Lies, Lying}
use Rattle.writing.specs.Heads.{array_head, object_head}
use Rattle.writing.specs.Rewritten.{ranks_at, shortened, parts_in, parts_of, rewritten_by, rewritten}
use Rattle.writing.specs.Written.{Writable, Holding}
use Rattle.writing.proofs.EndLaws.{ends_join}
use Rattle.writing.proofs.HeadLaws.{array_split, object_split}
use Rattle.writing.proofs.IdLaws.{ranks_length}
use Rattle.writing.proofs.InsideLaws.{below_append, each_child}
use Rattle.writing.proofs.PartsLaws.{in_room, parts_lie, parts_lying, parts_within, head_fits}
use Rattle.writing.proofs.RewrittenLaws.{parts_counted, OneLevel, one_level, same_by, ids_by_lem, there_by, nothing_never, prefix_there}

module _ {levels : ℕ} {s ranks : List ℕ} {room end : ℕ} (ready : Writable levels s ranks room end) where
  told : OneLevel levels ready.names ranks s
  told = one_level levels ready.names ranks s ready.meant

  pub level_some : 1 ≤ levels
  level_some = told.some_level

  pub first_there : 0 < length s
  first_there = whole_some s told.fills

  module _ (r : Reading) (is : r ≡ reading_of (at s 0)) where
    same : (q : Reading) → r ≡ q → rewritten levels ranks s ≡ rewritten_by (rewritten (levels - 1) ranks) ranks q s
    same q e = same_by told q (sym e ∙ is)

    fits : (q : Reading) → r ≡ q → length (rewritten_by (rewritten (levels - 1) ranks) ranks q s) ≤ end
    fits q e = rw (same q e) at ready.fits

    pub fixed_fits : (code size : ℕ) → r ≡ Fixed code size → length s ≤ end
    unfolding rewritten_by
    fixed_fits code size e = fits (Fixed code size) e

    pub short_fits : (size : ℕ) → r ≡ Short size → length s ≤ end
    unfolding rewritten_by
    short_fits size e = fits (Short size) e

    pub prefixed_there : (code : ℕ) → r ≡ Prefixed code → 5 ≤ length s
    prefixed_there code e = prefix_there s code told.fills (sym is ∙ e)

    pub prefixed_fits : (code : ℕ) → r ≡ Prefixed code → length (shortened code s) ≤ end
    unfolding rewritten_by
    prefixed_fits code e = fits (Prefixed code) e

    module _ {before after : List ℕ} {start : ℕ} where
      pub fixed_ends : (code size : ℕ) → r ≡ Fixed code size → EndsAt s before after end start → EndsAt (rewritten levels ranks s) before after end start
      unfolding rewritten_by
      fixed_ends code size e ended = rw (same (Fixed code size) e) ended

      pub short_ends : (size : ℕ) → r ≡ Short size → EndsAt s before after end start → EndsAt (rewritten levels ranks s) before after end start
      unfolding rewritten_by
      short_ends size e ended = rw (same (Short size) e) ended

      pub prefixed_ends : (code : ℕ) → r ≡ Prefixed code → EndsAt (shortened code s) before after end start
          → EndsAt (rewritten levels ranks s) before after end start
      unfolding rewritten_by
      prefixed_ends code e ended = rw (same (Prefixed code) e) ended

      pub nothing_ends : r ≡ Nothing → EndsAt (rewritten levels ranks s) before after end start
      nothing_ends e = absurd (nothing_never told r is e)

    -- ---- an array

    module _ (c w : ℕ) (e : r ≡ ArrayHead c w) where
      array_fits : length (array_bytes (parts_of (rewritten (levels - 1) ranks) c 0 w s)) ≤ end
      unfolding rewritten_by
      array_fits = fits (ArrayHead c w) e

      pub array_there : HeadThere s c 0 w
      array_there = array_container s told.fills r is c w e ready.small

      -- its area and its starts
      module _ (area starts : List ℕ) (area_is : area ≡ area_of c 0 w s) (starts_is : starts ≡ starts_of c 0 w s) where
        array_parts : parts_of (rewritten (levels - 1) ranks) c 0 w s ≡ parts_in (rewritten (levels - 1) ranks) area starts
        unfolding parts_of
        array_parts = rw (area_is, starts_is)

        pub array_holding : Holding (levels - 1) area starts ranks room end
        unfolding ids_by
        array_holding =
            let there = and_both (tiled_in (length (area_of c 0 w s)) (children_at (area_of c 0 w s) (starts_of c 0 w s))) _
            (sym (array_verdict (meaning_of (levels - 1) ready.names) ready.names s c w) ∙ there_by told (ArrayHead c w) (sym e ∙ is)) in
            let ids : ids_in levels s ≡ ids_inside (ids_in (levels - 1)) (area_of c 0 w s) (children_at (area_of c 0 w s) (starts_of c 0 w s)) =
            ids_by_lem told (ArrayHead c w) (sym e ∙ is) in
            let all : List (List ℕ) = parts_in (rewritten (levels - 1) ranks) area starts in
            let size : length (array_bytes all) ≡ length (array_head all) + length (joined all) =
            ap length (array_split all) ∙ length-append (array_head all) (joined all) in
            let fit : length (array_bytes all) ≤ end = rw array_parts at array_fits in
            record {
              names = ready.names;
              each = rw (area_is, starts_is) (each_child (levels - 1) ready.names ranks (area_of c 0 w s) (starts_of c 0 w s) there.1 (rw ids at ready.ranked));
              small = rw area_is (area_small s c 0 w array_there);
              fits = omega arith;
              within = ready.within;
              most = ready.most;
            }

        module _ (count : ℕ) (counted : count ≡ length starts) where
          pub array_few : count ≤ most_walked
          array_few = rw (counted, starts_is) (starts_few s c 0 w array_there (number_at s 1 c) refl)

          module _ {before middle : List ℕ} {start : ℕ} (room-is : length before ≡ room)
              (ended : EndsAt (joined (parts_in (rewritten (levels - 1) ranks) area starts)) before middle end start) where
            pub array_lying : Lying middle start end count
            array_lying = rw counted (parts_lying array_holding room-is ended)

            pub array_within : end ≤ length middle
            array_within = parts_within array_holding room-is ended

            pub array_room : head_size_of count (count_size (large_bit count)) 0 (smallest_width (end - start)) ≤ start
            array_room =
                let all : List (List ℕ) = parts_in (rewritten (levels - 1) ranks) area starts in
                let many : length all ≡ count = parts_counted (rewritten (levels - 1) ranks) area starts ∙ sym counted in
                let size = ended.size in
                let wide : end - start ≡ length (joined all) = omega arith in
                let long = array_length all in
                rw (wide, ← many) (head_fits array_holding room-is ended _ (rw array_parts at array_fits) long)

            pub array_ends : {last : List ℕ} {first : ℕ}
                → ((all : List (List ℕ)) → Lies middle start end all → length all ≡ count → EndsAt (array_head all) middle last start first)
                → EndsAt (rewritten levels ranks s) before last end first
            unfolding rewritten_by
            array_ends head =
                let all : List (List ℕ) = parts_in (rewritten (levels - 1) ranks) area starts in
                let front = head all (parts_lie array_holding room-is ended) (parts_counted (rewritten (levels - 1) ranks) area starts ∙ sym counted) in
                let within = in_room array_holding room-is ended in
                rw (same (ArrayHead c w) e, array_parts, array_split all) (ends_join ended within front)

    -- ---- an object

    module _ (c i w : ℕ) (e : r ≡ ObjectHead c i w) where
      object_fits : length (object_bytes (ranks_at ranks (ids_of c i s)) (parts_of (rewritten (levels - 1) ranks) c i w s)) ≤ end
      unfolding rewritten_by
      object_fits = fits (ObjectHead c i w) e

      pub object_there : HeadThere s c i w
      object_there = object_container s told.fills r is c i w e ready.small

      pub object_least : 1 ≤ i
      object_least = object_id s told.fills r is c i w e

      ids_are : ids_in levels s ≡ ids_of c i s ++ ids_inside (ids_in (levels - 1)) (area_of c i w s) (children_at (area_of c i w s) (starts_of c i w s))
      unfolding ids_by
      ids_are = ids_by_lem told (ObjectHead c i w) (sym e ∙ is)

      ids_ranked : (all_below (length ranks) (ids_of c i s) ≡ true)
          × (all_below (length ranks) (ids_inside (ids_in (levels - 1)) (area_of c i w s) (children_at (area_of c i w s) (starts_of c i w s))) ≡ true)
      ids_ranked = below_append (length ranks) (ids_of c i s) _ (rw ids_are at ready.ranked)

      -- its area, its starts and its ids
      module _ (area starts ids : List ℕ) (area_is : area ≡ area_of c i w s) (starts_is : starts ≡ starts_of c i w s) (ids_is : ids ≡ ids_of c i s) where
        object_parts : parts_of (rewritten (levels - 1) ranks) c i w s ≡ parts_in (rewritten (levels - 1) ranks) area starts
        unfolding parts_of
        object_parts = rw (area_is, starts_is)

        -- its bytes fit
        all_fit : length (object_bytes (ranks_at ranks ids) (parts_in (rewritten (levels - 1) ranks) area starts)) ≤ end
        all_fit = rw (ids_is, ← object_parts) object_fits

        ids_many : length ids ≡ length starts
        ids_many = rw (ids_is, starts_is) (ids_starts_length s c i w object_there object_least)

        pub object_few : length ids ≤ most_walked
        object_few = rw (ids_many, starts_is) (starts_few s c i w object_there (number_at s 1 c) refl)

        pub object_ranked : all_below (length ranks) ids ≡ true
        object_ranked = rw ids_is ids_ranked.0

        pub object_holding : Holding (levels - 1) area starts ranks room end
        object_holding =
            let verdict = object_verdict (meaning_of (levels - 1) ready.names) ready.names s c i w
            (ids_starts_length s c i w object_there object_least) in
            let first = and_both (all_below (length ready.names) (ids_of c i s) && rising (names_at ready.names (ids_of c i s))) _
            (sym verdict ∙ there_by told (ObjectHead c i w) (sym e ∙ is)) in
            let second = and_both (once_in (length (area_of c i w s)) (children_at (area_of c i w s) (starts_of c i w s))) _ first.1 in
            let all : List (List ℕ) = parts_in (rewritten (levels - 1) ranks) area starts in
            let normal : List ℕ = ranks_at ranks ids in
            let size : length (object_bytes normal all) ≡ length (object_head normal all) + length (joined all) =
            ap length (object_split normal all) ∙ length-append (object_head normal all) (joined all) in
            let fit = all_fit in
            record {
              names = ready.names;
              each = rw (area_is, starts_is) (each_child (levels - 1) ready.names ranks (area_of c i w s) (starts_of c i w s) second.1 ids_ranked.1);
              small = rw area_is (area_small s c i w object_there);
              fits = omega arith;
              within = ready.within;
              most = ready.most;
            }

        module _ {before middle : List ℕ} {start : ℕ} (room-is : length before ≡ room)
            (ended : EndsAt (joined (parts_in (rewritten (levels - 1) ranks) area starts)) before middle end start) where
          pub object_lying : Lying middle start end (length ids)
          object_lying = rw ids_many (parts_lying object_holding room-is ended)

          pub object_within : end ≤ length middle
          object_within = parts_within object_holding room-is ended

          object_counted : length (parts_in (rewritten (levels - 1) ranks) area starts) ≡ length ids
          object_counted = parts_counted (rewritten (levels - 1) ranks) area starts ∙ sym ids_many

          pub object_room : head_size_of (length ids) (count_size (large_bit (length ids)))
              (smallest_width (largest (ranks_at ranks ids))) (smallest_width (end - start)) ≤ start
          object_room =
              let all : List (List ℕ) = parts_in (rewritten (levels - 1) ranks) area starts in
              let size = ended.size in
              let wide : end - start ≡ length (joined all) = omega arith in
              let long = object_length (ranks_at ranks ids) all (ranks_length ranks ids ∙ sym object_counted) in
              rw (wide, ← object_counted) (head_fits object_holding room-is ended _ all_fit long)

          pub object_ends : {last : List ℕ} {first : ℕ}
              → ((all : List (List ℕ)) → Lies middle start end all → length all ≡ length ids → EndsAt (object_head (ranks_at ranks ids) all) middle last start first)
              → EndsAt (rewritten levels ranks s) before last end first
          unfolding rewritten_by
          object_ends {last} {first} head =
              let all : List (List ℕ) = parts_in (rewritten (levels - 1) ranks) area starts in
              let front = head all (parts_lie object_holding room-is ended) object_counted in
              let within = in_room object_holding room-is ended in
              rw (same (ObjectHead c i w) e, ← ids_is, object_parts, object_split (ranks_at ranks ids) all) (ends_join ended within front)
