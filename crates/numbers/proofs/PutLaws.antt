-- Bytes put over others from a place on: one byte more at a time, one run after another, and the length that stays.
use mathlib.Core.List.{List, [], ◌∷◌, ◌++◌, append_assoc}
use mathlib.Core.Path.{◌≡◌, sym, ◌∙◌, subst}
use Prim.Native.Nat.{ℕ, suc, ◌+◌, ◌-◌, ◌/◌, ◌%◌, ◌^◌, ◌≤◌, ◌<◌}
use native.Mathlib.Nat.{add-zero, add_assoc}
use native.Mathlib.Numerals.{add-one}
use native.Mathlib.Omega.{arith}
use borrow.Rule.Slice.PartMut.{put_mid}
use lib.ListN.{length, take, drop, set, length-append, length-take, length-drop, take-append-drop}
use lib.Seq.{take_at, drop_at, drop-drop, take-suc-set, drop-set-lt, append_snoc}
use Rattle.numbers.specs.Little.{put_at, number_bytes}
use Rattle.numbers.proofs.NumberLaws.{length-number_bytes, number_bytes-join}

pub put_none : (l : List ℕ) (p : ℕ) → put_at l p [] ≡ l
unfolding put_at
put_none l p = simp (add-zero, take-append-drop)

-- A byte stored, and the rest put behind it.
pub put_more : (l : List ℕ) (p b : ℕ) (new : List ℕ) → p < length l → put_at (set l p b) (p + 1) new ≡ put_at l p (b ∷ new)
unfolding put_at
put_more l p b new h =
    let past : p < suc p + length new = omega arith in
    let place : suc p + length new ≡ p + suc (length new) = omega arith in
    rw (add-one, take-suc-set l p b h, drop-set-lt (suc p + length new) l p b past, place, append_snoc)

pub put_one : (l : List ℕ) (p b : ℕ) → p < length l → set l p b ≡ put_at l p (b ∷ [])
put_one l p b h = sym (put_none (set l p b) (p + 1)) ∙ put_more l p b [] h

-- Two runs, the second right behind the first.
pub put_run : (l : List ℕ) (p : ℕ) (first second : List ℕ) → p + length first ≤ length l
    → put_at (put_at l p first) (p + length first) second ≡ put_at l p (first ++ second)
unfolding put_at
put_run l p first second h =
    let front : length (take p l ++ first) ≡ p + length first =
    simp (length-append, length-take) (omega arith) in
    let places : p + length first + length second ≡ p + (length first + length second) = add_assoc p (length first) (length second) in
    let shape : take p l ++ (first ++ drop (p + length first) l) ≡ (take p l ++ first) ++ drop (p + length first) l =
    sym (append_assoc (take p l) first (drop (p + length first) l)) in
    rw (shape, take_at (take p l ++ first) (drop (p + length first) l) (p + length first) front, ← drop-drop (length second) (p + length first) ((take p l ++ first) ++ drop (p + length first) l), drop_at (take p l ++ first) (drop (p + length first) l) (p + length first) front, drop-drop, places, length-append, append_assoc, append_assoc)

pub length_put : (l : List ℕ) (p : ℕ) (new : List ℕ) → p + length new ≤ length l → length (put_at l p new) ≡ length l
unfolding put_at
length_put l p new h = simp (length-append, length-take, length-drop) (omega arith)

-- ---- the writer's steps: a byte alone, and a byte below the rest of the number

pub write_one : (l : List ℕ) (p w n : ℕ) → w ≡ 1 → p < length l → set l p (n % 256) ≡ put_at l p (number_bytes w n)
unfolding number_bytes
write_one l p w n e h = rw e (put_one l p (n % 256) h)

pub write_more : (l : List ℕ) (p q v w n : ℕ) {after : List ℕ} → w ≡ v + 1 → q ≡ p + 1 → p < length l
    → after ≡ put_at (set l p (n % 256)) q (number_bytes v (n / 256)) → after ≡ put_at l p (number_bytes w n)
unfolding number_bytes
write_more l p q v w n e next h rest =
    rest ∙ rw (e, next, add-one v) (put_more l p (n % 256) (number_bytes v (n / 256)) h)

-- A number's bytes in two runs, the second of what is left above the first.
pub write_join : (l : List ℕ) (p q v w k n high : ℕ) {middle after : List ℕ} → p + v ≤ length l → q ≡ p + v → k ≡ v + w → high ≡ n / 256 ^ v
    → middle ≡ put_at l p (number_bytes v n) → after ≡ put_at middle q (number_bytes w high) → after ≡ put_at l p (number_bytes k n)
write_join l p q v w k n high h next whole above first_run second_run =
    let first : List ℕ = number_bytes v n in
    let second : List ℕ = number_bytes w (n / 256 ^ v) in
    let size : length first ≡ v = length-number_bytes v n in
    let run : put_at (put_at l p first) (p + v) second ≡ put_at l p (first ++ second) =
    subst (λ (k : ℕ). put_at (put_at l p first) (p + k) second ≡ put_at l p (first ++ second)) size (put_run l p first second (omega arith)) in
    second_run ∙ rw (next, above, first_run, whole, number_bytes-join) run

-- ---- a part from a place on, lent and come back as just as many new bytes

pub put_part : (l new : List ℕ) (p : ℕ) (back : List ℕ) → back ≡ new → put_mid p (p + length new - p) l back ≡ put_at l p new
unfolding put_at
put_part l new p back e =
    let many : p + length new - p ≡ length new = omega arith in
    rw (e, many, drop-drop)
