-- Bytes that end at a place: what is put there ends there, and what is put in front of it makes one run with it.
use mathlib.Core.List.{List, [], ◌++◌, append_assoc}
use mathlib.Core.Path.{◌≡◌, sym, ap, ◌∙◌}
use Prim.Native.Nat.{ℕ, ◌+◌, ◌-◌, ◌≤◌}
use native.Mathlib.Omega.{arith}
use lib.ListN.{length, take, drop, length-append, length-drop, take-append-drop}
use lib.Seq.{drop_at, drop-drop, take-append-le, take-take, length-take-le}
use Rattle.numbers.specs.Little.{put_at, number_bytes}
use Rattle.writing.specs.Ends.{EndsAt}
use Rattle.numbers.proofs.NumberLaws.{length-number_bytes}

pub put_ends : (before new : List ℕ) (start : ℕ) {after : List ℕ} {end : ℕ} → after ≡ put_at before start new → start + length new ≡ end
    → EndsAt new before after end start
unfolding put_at
put_ends before new start is size = record { size = size; bytes = is ∙ rw size }

pub number_ends : (before : List ℕ) (start width n : ℕ) {after : List ℕ} {end : ℕ} → after ≡ put_at before start (number_bytes width n)
    → start + width ≡ end → EndsAt (number_bytes width n) before after end start
number_ends before start width n is size = put_ends before (number_bytes width n) start is (rw length-number_bytes size)

pub nothing_ends : (before : List ℕ) (end : ℕ) → EndsAt [] before before end end
nothing_ends before end = record { size = omega arith; bytes = sym (take-append-drop end before) }

module _ {new before after : List ℕ} {end start : ℕ} (ends : EndsAt new before after end start) (within : end ≤ length before) where
  front_length : length (take start before) ≡ start
  front_length = let size = ends.size in length-take-le start before (omega arith)

  -- What stands from the start on.
  pub ends_behind : drop start after ≡ new ++ drop end before
  ends_behind = ap (drop start) ends.bytes ∙ drop_at (take start before) (new ++ drop end before) start front_length

  pub ends_before : (n : ℕ) → n ≤ start → take n after ≡ take n before
  ends_before n h =
      ap (take n) ends.bytes ∙ take-append-le n (take start before) (new ++ drop end before) (rw front_length h) ∙ take-take n start before h

  pub ends_length : length after ≡ length before
  ends_length =
      let size = ends.size in
      let front = front_length in
      ap length ends.bytes ∙ rw (length-append, length-append, length-drop) (omega arith)

  -- More in front of it.
  pub ends_join : {more last : List ℕ} {first : ℕ} → EndsAt more after last start first → EndsAt (more ++ new) before last end first
  ends_join {more} {last} {first} next =
      let size = ends.size in
      let front = next.size in
      record {
        size = rw length-append (omega arith);
        bytes = next.bytes ∙ rw (ends_before first (omega arith), ends_behind, append_assoc);
      }

-- What is put in front of a place leaves what stands from it on.
pub put_behind : (l new : List ℕ) (p n : ℕ) → p + length new ≤ n → n ≤ length l → drop n (put_at l p new) ≡ drop n l
unfolding put_at
put_behind l new p n before inside =
    let end : ℕ = p + length new in
    let front : length (take p l ++ new) ≡ end = rw (length-append, length-take-le p l (omega arith)) in
    let further : end + (n - end) ≡ n = omega arith in
    let shape : take p l ++ (new ++ drop end l) ≡ (take p l ++ new) ++ drop end l = sym (append_assoc (take p l) new (drop end l)) in
    let behind : drop end (take p l ++ (new ++ drop end l)) ≡ drop end l = ap (drop end) shape ∙ drop_at (take p l ++ new) (drop end l) end front in
    ap (λ (k : ℕ). drop k (take p l ++ (new ++ drop end l))) (sym further)
    ∙ sym (drop-drop (n - end) end (take p l ++ (new ++ drop end l)))
    ∙ ap (drop (n - end)) behind ∙ drop-drop (n - end) end l ∙ ap (λ (k : ℕ). drop k l) further
