-- The used ids: below the count, each one there, in a rising dictionary with rising names; and the loop that lists them.
use mathlib.Core.Bool.{Bool, true, false, cond}
use mathlib.Core.List.{List, [], ◌∷◌, ◌++◌, append-nil}
use mathlib.Core.Logic.{◌⊎◌, inl, inr}
use mathlib.Core.Path.{◌≡◌, refl, sym, ap, ◌∙◌}
use Prim.Native.Nat.{ℕ, zero, suc, ◌+◌, ◌≤◌, ◌<◌}
use native.Mathlib.Numerals.{add-one}
use native.Mathlib.Omega.{arith}
use borrow.Author.Tests.{eq-eqb, ne_eqb, eqb-true, eqb-false}
use lib.Dec.{eqb}
use lib.ListN.{length, get_or, take, set, length-append, length-set}
use lib.Seq.{take-suc-set}
use Rattle.order.specs.Before.{before}
use Rattle.paper.specs.Metadata.{Dictionary, rising}
use Rattle.paper.specs.Values.{names_at}
use Rattle.paper.specs.Words.{among, all_below}
use Rattle.marking.specs.Ids.{holds}
use Rattle.ranking.specs.Ranks.{used_ids, Listed}
use Rattle.dictionary.proofs.ChainLaws.{rising_before}
use Rattle.names.proofs.SameLaws.{or_second}
use Rattle.paper.proofs.WordLaws.{never}
use Rattle.ranking.proofs.BehindLaws.{rising_last}
use Rattle.ranking.proofs.HeldLaws.{held_append, held_behind, held_first, held_below, named, names_append}

-- One count more: the last id is used, or the ids are the same.
used_one : (count : ℕ) (used : List ℕ) → get_or used count 0 ≡ 1 → used_ids (suc count) used ≡ used_ids count used ++ (count ∷ [])
unfolding used_ids
used_one count used is = rw (eq-eqb (get_or used count 0) 1 is)

used_none : (count : ℕ) (used : List ℕ) → (get_or used count 0 ≡ 1 → ⊥) → used_ids (suc count) used ≡ used_ids count used
unfolding used_ids
used_none count used is-not = rw (ne_eqb (get_or used count 0) 1 is-not) (append-nil (used_ids count used))

-- An entry is 1, or it is not.
data Marked (n : ℕ) : Type 0 where
  marked : n ≡ 1 → Marked n
  clear : (n ≡ 1 → ⊥) → Marked n

marked_or_not : (n : ℕ) → Marked n
marked_or_not zero = clear (λ e. omega arith)
marked_or_not (suc zero) = marked refl
marked_or_not (suc (suc n)) = clear (λ e. omega arith)

-- Each is below the count, ..
pub used_lower : (count : ℕ) (used : List ℕ) (id : ℕ) → holds id (used_ids count used) ≡ true → id < count
unfolding used_ids holds
used_lower zero used id e = never (sym e)
used_lower (suc count) used id e = go (marked_or_not (get_or used count 0)) (used_lower count used id)
  where
    behind : (holds id (used_ids count used) ≡ true → id < count) → (holds id (used_ids count used) ≡ true) ⊎ (count ≡ id) → id < suc count
    behind rest (inl further) = let lower = rest further in omega arith
    behind rest (inr is) = omega arith

    go : Marked (get_or used count 0) → (holds id (used_ids count used) ≡ true → id < count) → id < suc count
    go (marked is) rest = behind rest (held_behind id count (used_ids count used) (ap (holds id) (sym (used_one count used is)) ∙ e))
    go (clear is-not) rest = let lower = rest (ap (holds id) (sym (used_none count used is-not)) ∙ e) in omega arith

pub used_below : (count bound : ℕ) (used : List ℕ) → count ≤ bound → all_below bound (used_ids count used) ≡ true
used_below count bound used h = held_below bound (used_ids count used) λ id e. let lower = used_lower count used id e in omega arith

-- .. has the entry 1, ..
pub used_entry : (count : ℕ) (used : List ℕ) (id : ℕ) → holds id (used_ids count used) ≡ true → get_or used id 0 ≡ 1
unfolding used_ids holds
used_entry zero used id e = never (sym e)
used_entry (suc count) used id e = go (marked_or_not (get_or used count 0)) (used_entry count used id)
  where
    behind : get_or used count 0 ≡ 1 → (holds id (used_ids count used) ≡ true → get_or used id 0 ≡ 1)
        → (holds id (used_ids count used) ≡ true) ⊎ (count ≡ id) → get_or used id 0 ≡ 1
    behind one rest (inl further) = rest further
    behind one rest (inr is) = rw is at one

    go : Marked (get_or used count 0) → (holds id (used_ids count used) ≡ true → get_or used id 0 ≡ 1) → get_or used id 0 ≡ 1
    go (marked is) rest = behind is rest (held_behind id count (used_ids count used) (ap (holds id) (sym (used_one count used is)) ∙ e))
    go (clear is-not) rest = rest (ap (holds id) (sym (used_none count used is-not)) ∙ e)

-- .. each used one is there, ..
pub used_held : (count : ℕ) (used : List ℕ) (id : ℕ) → id < count → get_or used id 0 ≡ 1 → holds id (used_ids count used) ≡ true
unfolding used_ids
used_held zero used id h is = absurd (omega arith)
used_held (suc count) used id h is = go (eqb id count) refl (used_held count used id)
  where
    further : Marked (get_or used count 0) → holds id (used_ids count used) ≡ true → holds id (used_ids (suc count) used) ≡ true
    further (marked one) e = ap (holds id) (used_one count used one) ∙ held_append id (used_ids count used) (count ∷ []) ∙ rw e
    further (clear not-one) e = ap (holds id) (used_none count used not-one) ∙ e

    go : (b : Bool) → eqb id count ≡ b → (id < count → get_or used id 0 ≡ 1 → holds id (used_ids count used) ≡ true)
        → holds id (used_ids (suc count) used) ≡ true
    go true e rest =
        let last : id ≡ count = eqb-true id count e in
        let one : get_or used count 0 ≡ 1 = rw last at is in
        ap (holds id) (used_one count used one) ∙ held_append id (used_ids count used) (count ∷ [])
        ∙ or_second (holds id (used_ids count used)) (holds id (count ∷ [])) (rw last (held_first count []))
    go false e rest = let other = eqb-false id count e in further (marked_or_not (get_or used count 0)) (rest (omega arith) is)

-- .. and there are at most as many as the count.
pub used_length : (count : ℕ) (used : List ℕ) → length (used_ids count used) ≤ count
unfolding used_ids
used_length zero used = omega arith
used_length (suc count) used = go (eqb (get_or used count 0) 1) (used_length count used)
  where
    go : (b : Bool) → length (used_ids count used) ≤ count → length (used_ids count used ++ cond b (count ∷ []) []) ≤ suc count
    go true h = rw length-append (omega arith)
    go false h = rw length-append (omega arith)

-- In a rising dictionary their names rise.
pub used_rise : (names : Dictionary) (used : List ℕ) → rising names ≡ true → (count : ℕ) → count ≤ length names
    → rising (names_at names (used_ids count used)) ≡ true
unfolding used_ids names_at rising
used_rise names used rise zero h = refl
used_rise names used rise (suc count) h = go (marked_or_not (get_or used count 0)) (used_rise names used rise count (omega arith))
  where
    after : (name : List ℕ) → among name (names_at names (used_ids count used)) ≡ true → before name (get_or names count []) ≡ true
    after name e =
        let found = named names (used_ids count used) name e in
        rw found.2 at (rising_before names found.0 count (used_lower count used found.0 found.1) (omega arith) rise)

    go : Marked (get_or used count 0) → rising (names_at names (used_ids count used)) ≡ true → rising (names_at names (used_ids (suc count) used)) ≡ true
    go (marked is) lower =
        ap (λ (ids : List ℕ). rising (names_at names ids)) (used_one count used is) ∙ ap rising (names_append names (used_ids count used) (count ∷ []))
        ∙ rising_last (names_at names (used_ids count used)) (get_or names count []) lower after
    go (clear is-not) lower = ap (λ (ids : List ℕ). rising (names_at names ids)) (used_none count used is-not) ∙ lower

-- ---- the loop that lists them

-- After i entries: so many ids are listed.
pub record Collected (used chosen₀ chosen : List ℕ) (n i : ℕ) : Type 0 where
  pub size : n ≡ length (used_ids i used)
  pub few : n ≤ i
  pub room : length chosen ≡ length chosen₀
  pub front : take n chosen ≡ used_ids i used

pub collect_start : (used chosen : List ℕ) → Collected used chosen chosen 0 0
unfolding used_ids
collect_start used chosen = record { size = refl; few = omega arith; room = refl; front = refl }

module _ {used chosen₀ chosen : List ℕ} {n i : ℕ} (seen : Collected used chosen₀ chosen n i) (r : Bool) (told : r ≡ eqb (get_or used i 0) 1) where
  pub collect_one : r ≡ true → i < length chosen₀ → {after : List ℕ} {n' : ℕ} → after ≡ set chosen n i → n' ≡ n + 1
      → Collected used chosen₀ after n' (i + 1)
  collect_one passed h {after} {n'} e more =
      let is : get_or used i 0 ≡ 1 = eqb-true (get_or used i 0) 1 (sym told ∙ passed) in
      let same-room : length chosen ≡ length chosen₀ = seen.room in
      let fewer : n ≤ i = seen.few in
      record {
        size = rw (more, add-one n, add-one i, used_one i used is, length-append, ← seen.size) (omega arith);
        few = omega arith;
        room = ap length e ∙ length-set chosen n i ∙ seen.room;
        front = rw (e, more, add-one n, add-one i, take-suc-set chosen n i (omega arith), seen.front) (sym (used_one i used is));
      }

  pub collect_none : r ≡ false → {after : List ℕ} {n' : ℕ} → after ≡ chosen → n' ≡ n → Collected used chosen₀ after n' (i + 1)
  collect_none failed {after} {n'} e more =
      let is-not : get_or used i 0 ≡ 1 → ⊥ = eqb-false (get_or used i 0) 1 (sym told ∙ failed) in
      let fewer : n ≤ i = seen.few in
      record {
        size = rw (more, add-one, used_none i used is-not) seen.size;
        few = omega arith;
        room = ap length e ∙ seen.room;
        front = rw (e, more, add-one, used_none i used is-not) seen.front;
      }

pub collect_done : {used chosen₀ chosen : List ℕ} {n i : ℕ} → Collected used chosen₀ chosen n i → {count : ℕ} → i ≡ count → count ≤ length chosen₀
    → Listed (used_ids count used) chosen n
collect_done seen all h =
    let same-room = seen.room in
    let fewer = seen.few in
    record { size = rw (← all) seen.size; room = omega arith; front = rw (← all) seen.front }
