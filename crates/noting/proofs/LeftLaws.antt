-- A leftover's members noted from one on, as long as their normal ids are below a bound.
use mathlib.Core.List.{List, [], ◌∷◌, ◌++◌, append-nil, append_assoc}
use mathlib.Core.Path.{◌≡◌, refl, sym, ap, ◌∙◌}
use Prim.Native.Nat.{ℕ, ◌+◌, ◌-◌, ◌≤◌, ◌<◌}
use native.Mathlib.Omega.{arith}
use lib.ListN.{length, get_or, drop}
use Rattle.paper.specs.Bounds.{most_walked}
use Rattle.paper.specs.Limits.{most_row}
use Rattle.noting.proofs.AddedLaws.{none_added, added_behind}
use Rattle.noting.proofs.LowLaws.{low_more, high_more, low_over, high_over, low_none, high_none, left_drop}
use Rattle.noting.specs.Adding.{LeftRun, RunRanked, NoteRoom, Added, LeftAdded, low_notes, high_notes}
use Rattle.noting.specs.Notes.{Note, note_rank, left_notes}
use Rattle.runs.proofs.NumbersRunLaws.{below_at, next_number, no_more}

pub record LeftSeen (ranks lefts starts : List ℕ) (from bound : ℕ) (places₀ ids₀ : List ℕ) (n : ℕ) (places ids : List ℕ) (i : ℕ) : Type 0 where
  pub forward : from ≤ i
  pub within : i ≤ length lefts
  pub past : List Note
  pub low_is : low_notes ranks bound (drop from (left_notes lefts starts)) ≡ past ++ low_notes ranks bound (drop i (left_notes lefts starts))
  pub high_is : high_notes ranks bound (drop from (left_notes lefts starts)) ≡ high_notes ranks bound (drop i (left_notes lefts starts))
  pub added : Added past places₀ ids₀ n places ids (n + (i - from))

pub left_start : (ranks lefts starts : List ℕ) (from bound : ℕ) (places ids : List ℕ) (n : ℕ) → from ≤ length lefts
    → LeftSeen ranks lefts starts from bound places ids n places ids from
left_start ranks lefts starts from bound places ids n h =
    let none : n + (from - from) ≡ n = omega arith in
    record { forward = omega arith; within = h; past = []; low_is = refl; high_is = refl; added = rw none (none_added places ids n) }

module _ {ranks lefts starts : List ℕ} {from bound : ℕ} {places₀ ids₀ : List ℕ} {n : ℕ} {places ids : List ℕ} {i : ℕ}
    (seen : LeftSeen ranks lefts starts from bound places₀ ids₀ n places ids i) where
  -- What was noted is all, where none of those left is below the bound.
  stopped : low_notes ranks bound (drop i (left_notes lefts starts)) ≡ []
      → high_notes ranks bound (drop i (left_notes lefts starts)) ≡ drop i (left_notes lefts starts)
      → LeftAdded ranks (left_notes lefts starts) from (length lefts) bound places₀ ids₀ n places ids i
  stopped low high =
      let all : low_notes ranks bound (drop from (left_notes lefts starts)) ≡ seen.past =
      seen.low_is ∙ ap (λ (l : List Note). seen.past ++ l) low ∙ append-nil seen.past in
      record { forward = seen.forward; within = seen.within; left = sym (seen.high_is ∙ high); added = rw all seen.added }

  pub left_done : length lefts ≤ i → (count : ℕ) → count ≡ length lefts
      → LeftAdded ranks (left_notes lefts starts) from (length lefts) bound places₀ ids₀ n places ids count
  unfolding left_notes
  left_done over count is =
      rw all at (stopped (ap (low_notes ranks bound) none ∙ low_none ranks bound) (ap (high_notes ranks bound) none ∙ high_none ranks bound ∙ sym none))
    where
      all : i ≡ count
      all = let within = seen.within in omega arith

      none : drop i (left_notes lefts starts) ≡ []
      none = left_drop i lefts starts ∙ ap (λ (l : List ℕ). left_notes l (drop i starts)) (no_more lefts i over)

  module _ (h : i < length lefts) where
    pub left_room : NoteRoom places₀ ids₀ (n + (length lefts - from)) → NoteRoom places ids (n + (i - from) + 1)
    left_room room =
        let added = seen.added in
        record {
          places_room = omega (arith, room.places_room, added.places_size, seen.forward);
          ids_room = omega (arith, room.ids_room, added.ids_size, seen.forward);
        }

    module _ (run : LeftRun lefts starts) where
      pub start_there : i < length starts
      start_there = let same = run.as_many in omega arith

      -- Both numbers of a note are low.
      pub start_low : {start : ℕ} → start ≡ get_or starts i 0 → start < most_walked
      start_low at = let low = below_at most_row starts i run.starts_low start_there in omega arith

      pub id_low : RunRanked ranks lefts → {input : ℕ} → input ≡ get_or lefts i 0 → input < most_walked
      id_low ranked is = rw is (below_at most_walked lefts i ranked.low h)

      pub id_ranked : RunRanked ranks lefts → {input : ℕ} → input ≡ get_or lefts i 0 → input < length ranks
      id_ranked ranked is = rw is (below_at (length ranks) lefts i ranked.inside h)

      module _ {input : ℕ} (is : input ≡ get_or lefts i 0) {normal : ℕ} (ranked : normal ≡ get_or ranks input 0) where
        -- the member here, wherever it starts
        note_next : (start : ℕ) → start ≡ get_or starts i 0
            → drop i (left_notes lefts starts) ≡ record { id = input; place = start; field = 0 } ∷ drop (i + 1) (left_notes lefts starts)
        unfolding left_notes
        note_next start at =
            left_drop i lefts starts
            ∙ (rw (next_number lefts i h input is, next_number starts i start_there start at))
            ∙ ap (λ (l : List Note). record { id = input; place = start; field = 0 } ∷ l) (sym (left_drop (i + 1) lefts starts))

        pub left_over : bound ≤ normal → LeftAdded ranks (left_notes lefts starts) from (length lefts) bound places₀ ids₀ n places ids i
        left_over above =
            let start : ℕ = get_or starts i 0 in
            let member : Note = record { id = input; place = start; field = 0 } in
            let others : List Note = drop (i + 1) (left_notes lefts starts) in
            let next : drop i (left_notes lefts starts) ≡ member ∷ others = note_next start refl in
            let over : bound ≤ note_rank ranks member = unfold note_rank in (rw (← ranked) above) in
            stopped (ap (low_notes ranks bound) next ∙ low_over ranks bound member others over) (ap (high_notes ranks bound) next ∙ high_over ranks bound member others over ∙ sym next)

        pub left_next : normal < bound → {start : ℕ} → start ≡ get_or starts i 0 → {places-after ids-after : List ℕ}
            → Added (record { id = input; place = start; field = 0 } ∷ []) places ids (n + (i - from)) places-after ids-after (n + (i - from) + 1)
            → LeftSeen ranks lefts starts from bound places₀ ids₀ n places-after ids-after (i + 1)
        left_next below {start} at {places-after} {ids-after} one =
            let member : Note = record { id = input; place = start; field = 0 } in
            let others : List Note = drop (i + 1) (left_notes lefts starts) in
            let next : drop i (left_notes lefts starts) ≡ member ∷ others = note_next start at in
            let low : note_rank ranks member < bound = unfold note_rank in (rw (← ranked) below) in
            let further : n + (i - from) + 1 ≡ n + (i + 1 - from) = omega (arith, seen.forward) in
            record {
              forward = omega (arith, seen.forward);
              within = omega arith;
              past = seen.past ++ (member ∷ []);
              low_is = seen.low_is ∙ ap (λ (l : List Note). seen.past ++ low_notes ranks bound l) next
                  ∙ ap (λ (l : List Note). seen.past ++ l) (low_more ranks bound member others low)
                  ∙ sym (append_assoc seen.past (member ∷ []) (low_notes ranks bound others));
              high_is = seen.high_is ∙ ap (high_notes ranks bound) next ∙ high_more ranks bound member others low;
              added = rw further at (added_behind seen.added one);
            }
