-- A first byte and a count so that they end at a place.
use mathlib.Core.List.{List, ◌∷◌}
use mathlib.Core.Path.{◌≡◌, refl}
use Prim.Native.Nat.{ℕ, ◌+◌, ◌-◌, ◌*◌, ◌%◌, ◌≤◌, ◌<◌}
use native.Mathlib.Nat.{mul-zero, mul-one, add-zero}
use native.Mathlib.Omega.{arith}
use borrow.Author.Tests.{le-leb, lt-leb}
use lib.ListN.{length}
use Rattle.numbers.specs.Little.{put_at, number_bytes}
use Rattle.paper.specs.FirstBytes.{count_size}
use Rattle.paper.specs.Normal.{large_bit}
use Rattle.writing.specs.Ends.{EndsAt}
use Rattle.writing.proofs.EndLaws.{number_ends, ends_join}

few_bit : (count : ℕ) → count ≤ 255 → large_bit count ≡ 0
unfolding large_bit
few_bit count few = rw (le-leb count 255 few)

many_bit : (count : ℕ) → 255 < count → large_bit count ≡ 1
unfolding large_bit
many_bit count many = rw (lt-leb count 255 many)

module _ (count : ℕ) {end : ℕ} (fits : 1 + count_size (large_bit count) ≤ end) where
  pub few_fits : count ≤ 255 → 2 ≤ end
  unfolding count_size
  few_fits few = let all : 1 + (1 + 3 * 0) ≤ end = rw (few_bit count few) at fits in omega arith

  pub many_fits : 255 < count → 5 ≤ end
  unfolding count_size
  many_fits many = let all : 1 + (1 + 3 * 1) ≤ end = rw (many_bit count many) at fits in omega arith

module _ (first width n : ℕ) {before middle after : List ℕ} {end start : ℕ} (ends : start + 1 + width ≡ end) (within : end ≤ length before)
    (behind : middle ≡ put_at before (start + 1) (number_bytes width n)) (here : after ≡ put_at middle start (number_bytes 1 first)) (small : first < 256) where
  opened_by : EndsAt (first ∷ number_bytes width n) before after end start
  unfolding number_bytes
  opened_by =
      let number = number_ends before (start + 1) width n {end = end} behind ends in
      let one = number_ends middle start 1 first {end = start + 1} here refl in
      let byte : first % 256 ≡ first = omega arith in
      rw byte at (ends_join number within one)

module _ {before middle after : List ℕ} (first large count : ℕ) {end : ℕ} (small : first + large < 256)
    (fits : 1 + count_size (large_bit count) ≤ end) (within : end ≤ length before) where
  pub opened_few : count ≤ 255 → middle ≡ put_at before (end - 2 + 1) (number_bytes 1 count) → after ≡ put_at middle (end - 2) (number_bytes 1 first)
      → EndsAt ((first + large * large_bit count) ∷ number_bytes (count_size (large_bit count)) count) before after end (end - 2)
  unfolding count_size
  opened_few few behind here =
      let least = few_fits count fits few in
      rw (few_bit count few, mul-zero large, add-zero first) (opened_by first 1 count (omega arith) within behind here (omega arith))

  pub opened_many : 255 < count → middle ≡ put_at before (end - 5 + 1) (number_bytes 4 count)
      → after ≡ put_at middle (end - 5) (number_bytes 1 (first + large))
      → EndsAt ((first + large * large_bit count) ∷ number_bytes (count_size (large_bit count)) count) before after end (end - 5)
  unfolding count_size
  opened_many many behind here =
      let least = many_fits count fits many in
      rw (many_bit count many, mul-one large) (opened_by (first + large) 4 count (omega arith) within behind here (omega arith))
