-- Scalars so that they end at a place: copied, or a string with one first byte for its length.
use mathlib.Core.List.{List, ◌∷◌}
use mathlib.Core.Logic.{◌⊎◌, inl, inr}
use mathlib.Core.Path.{◌≡◌}
use Prim.Native.Nat.{ℕ, ◌+◌, ◌-◌, ◌*◌, ◌%◌, ◌≤◌, ◌<◌}
use native.Mathlib.Omega.{arith}
use borrow.Author.Tests.{eq-eqb, ne_eqb, le-leb, lt-leb}
use lib.ListN.{length, drop}
use Rattle.runs.proofs.NumbersRunLaws.{rest, rest_is}
use Rattle.numbers.specs.Little.{put_at, number_bytes}
use Rattle.writing.specs.Ends.{EndsAt}
use Rattle.writing.specs.Rewritten.{shortened}
use Rattle.writing.proofs.EndLaws.{put_ends, number_ends, ends_join}

pub copied_ends : (s before : List ℕ) (end : ℕ) {after : List ℕ} → after ≡ put_at before (end - length s) s → length s ≤ end
    → EndsAt s before after end (end - length s)
copied_ends s before end is fits = put_ends before s (end - length s) is (omega arith)

-- ---- a string or binary with its length in front

module _ (code : ℕ) (s : List ℕ) where
  -- it stays as it stands
  kept : (code ≡ 16 → ⊥) ⊎ ((code ≡ 16) × (68 < length s)) → shortened code s ≡ s
  unfolding shortened
  kept (inl other) = rw (ne_eqb code 16 other)
  kept (inr long) = rw (eq-eqb code 16 long.0, lt-leb (length s) 68 long.1)

  pub short_is : code ≡ 16 → length s ≤ 68 → shortened code s ≡ (4 * (length s - 5) + 1) ∷ drop 5 s
  unfolding shortened
  short_is string few = rw (eq-eqb code 16 string, le-leb (length s) 68 few)

  -- what the copying asks, and what it comes to, in each case
  module _ {end : ℕ} (fits : length (shortened code s) ≤ end) where
    pub kept_asks : (code ≡ 16 → ⊥) ⊎ ((code ≡ 16) × (68 < length s)) → length s ≤ end
    kept_asks either = rw (kept either) at fits

    short_fits : code ≡ 16 → length s ≤ 68 → 1 + length (drop 5 s) ≤ end
    short_fits string few = let all : length ((4 * (length s - 5) + 1) ∷ drop 5 s) ≤ end = rw (short_is string few) at fits in omega arith

    pub short_asks : code ≡ 16 → length s ≤ 68 → length (rest s 5) ≤ end
    short_asks string few = let all = short_fits string few in rw (rest_is s 5) (omega arith)

    pub short_first : code ≡ 16 → length s ≤ 68 → {before after : List ℕ} {start : ℕ} → EndsAt (rest s 5) before after end start → 1 ≤ start
    short_first string few {before} {after} {start} ends =
        let all = short_fits string few in
        let size : start + length (drop 5 s) ≡ end = rw (rest_is s 5) at ends.size in
        omega arith

  module _ {before after : List ℕ} {end start : ℕ} where
    pub kept_ends : (code ≡ 16 → ⊥) ⊎ ((code ≡ 16) × (68 < length s)) → EndsAt s before after end start → EndsAt (shortened code s) before after end start
    kept_ends either ends = rw (kept either) ends

    pub short_ends : code ≡ 16 → length s ≤ 68 → end ≤ length before → 1 ≤ start → EndsAt (rest s 5) before after end start → {last : List ℕ}
        → last ≡ put_at after (start - 1) (number_bytes 1 (4 * (length s - 5) + 1)) → EndsAt (shortened code s) before last end (start - 1)
    unfolding number_bytes
    short_ends string few within least ends is =
        let first = number_ends after (start - 1) 1 (4 * (length s - 5) + 1) {end = start} is (omega arith) in
        let byte : (4 * (length s - 5) + 1) % 256 ≡ 4 * (length s - 5) + 1 = omega arith in
        rw (short_is string few, ← byte, ← rest_is s 5) (ends_join ends within first)
