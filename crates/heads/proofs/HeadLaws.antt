-- How long a value says it is: what an extent tells of the head, and that it looks at no byte past what it spans.
use Rattle.std.specs.Prelude.{None, Some}
use mathlib.Core.Bool.{◌&&◌}
use mathlib.Core.List.{List, [], ◌∷◌, ◌++◌}
use mathlib.Core.Path.{◌≡◌, refl, sym, ap, ◌∙◌}
use Prim.Native.Nat.{ℕ, zero, suc, ◌+◌, ◌-◌, ◌*◌, ◌^◌, ◌≤◌, ◌<◌, min}
use native.Mathlib.Nat.{mul-le-mul, zero-add, suc-add}
use native.Mathlib.Omega.{arith}
use borrow.Author.Tests.{le-leb, leb-true}
use lib.Dec.{leb}
use lib.ListN.{length, take, drop, length-take}
use lib.Seq.{take-take, take-append_seam, take-length, length-take-le, take-nil, get_or-take}
use Rattle.numbers.specs.Little.{number, number_at}
use Rattle.paper.specs.FirstBytes.{reading_of}
use Rattle.paper.specs.Values.{head_size_of, container_extent, extent_by, extent}
use Rattle.paper.specs.Words.{at, given, is_there}
use Rattle.paper.specs.declared.Reading.TheVariants.{Fixed, Prefixed, Short, ObjectHead, ArrayHead, Nothing}
use Rattle.paper.specs.declared.Reading.{Reading}
use Rattle.paper.proofs.WordLaws.{never, given_some, and_both, some_there}

-- ---- an extent goes by the reading of the first byte

pub extent_as : (s : List ℕ) → (length s ≡ 0 → ⊥) → extent s ≡ extent_by (reading_of (at s 0)) s
unfolding extent
extent_as [] h = absurd (h refl)
extent_as (b ∷ s) h = refl

pub extent_some : (s : List ℕ) {n : ℕ} → extent s ≡ Some n → (1 ≤ length s) × (extent_by (reading_of (at s 0)) s ≡ Some n)
unfolding extent is_there
extent_some [] e = never (sym (some_there None e))
extent_some (b ∷ s) e = (omega arith, e)

-- ---- heads

module _ (count c i w : ℕ) where
  pub head_count : 1 + c ≤ head_size_of count c i w
  unfolding head_size_of
  head_count = omega arith

  pub head_offset : w ≤ head_size_of count c i w
  unfolding head_size_of
  head_offset =
      let once : 1 * w ≤ (count + 1) * w = mul-le-mul (omega arith) (omega arith) in
      omega arith

  pub head_below : (count < 2 ^ 32) × (c ≤ 4) × (i ≤ 4) × (w ≤ 4) → head_size_of count c i w ≤ 2 ^ 36
  unfolding head_size_of
  head_below h =
      let most : count ≤ 2 ^ 32 = omega arith in
      let ids : count * i ≤ 2 ^ 32 * 4 = mul-le-mul most h.2 in
      let more : count + 1 ≤ 2 ^ 32 = omega arith in
      let offsets : (count + 1) * w ≤ 2 ^ 32 * 4 = mul-le-mul more h.3 in
      omega arith

-- What a container's extent tells: its count and its head are there, and behind the head lies as much as the last offset
-- says.
pub record Spans (s : List ℕ) (c i w n : ℕ) : Type 0 where
  pub count_there : 1 + c ≤ length s
  pub head_there : head_size_of (number_at s 1 c) c i w ≤ length s
  pub spans : n ≡ head_size_of (number_at s 1 c) c i w + number_at s (head_size_of (number_at s 1 c) c i w - w) w

module _ (s : List ℕ) (c i w : ℕ) where
  pub container_some : {n : ℕ} → container_extent c i w s ≡ Some n → Spans s c i w n
  unfolding container_extent
  container_some {n} e =
      let head : ℕ = head_size_of (number_at s 1 c) c i w in
      let told = given_some (leb (1 + c) (length s) && leb head (length s)) (Some (head + number_at s (head - w) w)) e in
      let there = and_both (leb (1 + c) (length s)) (leb head (length s)) told.0 in
      record {
        count_there = leb-true (1 + c) (length s) there.0;
        head_there = leb-true head (length s) there.1;
        spans = cc told.1;
      }

  pub container_is : {n : ℕ} → Spans s c i w n → container_extent c i w s ≡ Some n
  unfolding container_extent given
  container_is {n} t =
      let head : ℕ = head_size_of (number_at s 1 c) c i w in
      rw (le-leb (1 + c) (length s) t.count_there, le-leb head (length s) t.head_there, t.spans)

module _ (s : List ℕ) {c w n : ℕ} where
  pub object_spans : {i : ℕ} → reading_of (at s 0) ≡ ObjectHead c i w → extent s ≡ Some n → Spans s c i w n
  unfolding extent_by
  object_spans {i} r e = container_some s c i w (rw r at (extent_some s e).1)

  pub array_spans : reading_of (at s 0) ≡ ArrayHead c w → extent s ≡ Some n → Spans s c 0 w n
  unfolding extent_by
  array_spans r e = container_some s c 0 w (rw r at (extent_some s e).1)

-- ---- a value is at least one byte long

positive_by : (r : Reading) (s : List ℕ) {n : ℕ} → extent_by r s ≡ Some n → 1 ≤ n
unfolding extent_by is_there
positive_by (Fixed code size) s {n} e = let is : 1 + size ≡ n = cc in omega arith
positive_by (Prefixed code) s {n} e =
    let is : 5 + number_at s 1 4 ≡ n = cc (given_some (leb 5 (length s)) (Some (5 + number_at s 1 4)) e).1 in
    omega arith
positive_by (Short size) s {n} e = let is : 1 + size ≡ n = cc in omega arith
positive_by (ObjectHead c i w) s e = omega (arith, (container_some s c i w e).spans, head_count (number_at s 1 c) c i w)
positive_by (ArrayHead c w) s e = omega (arith, (container_some s c 0 w e).spans, head_count (number_at s 1 c) c 0 w)
positive_by Nothing s e = never (sym (some_there None e))

pub extent_positive : (s : List ℕ) {n : ℕ} → extent s ≡ Some n → 1 ≤ n
extent_positive s e = positive_by (reading_of (at s 0)) s (extent_some s e).1

-- ---- an extent looks at the head alone: bytes that share it have the same extent

drop_take : (p w : ℕ) (s : List ℕ) → drop p (take (p + w) s) ≡ take w (drop p s)
drop_take zero w s = rw zero-add
drop_take (suc p) w [] = rw (suc-add, take-nil)
drop_take (suc p) w (b ∷ s) = rw suc-add (drop_take p w s)

part_shared : (s u : List ℕ) (m p w : ℕ) → take m s ≡ take m u → p + w ≤ m → take w (drop p s) ≡ take w (drop p u)
part_shared s u m p w e h =
    sym (drop_take p w s) ∙ ap (drop p) (sym (take-take (p + w) m s h) ∙ ap (take (p + w)) e ∙ take-take (p + w) m u h) ∙ drop_take p w u

module _ (s u : List ℕ) (m : ℕ) (shared : take m s ≡ take m u) where
  number_shared : (p w : ℕ) → p + w ≤ m → number_at u p w ≡ number_at s p w
  unfolding number_at
  number_shared p w h = ap number (sym (part_shared s u m p w shared h))

  long_shared : (h : ℕ) → h ≤ m → h ≤ length s → h ≤ length u
  long_shared h below there =
      let same : take h s ≡ take h u = part_shared s u m 0 h shared (rw zero-add below) in
      let full : length (take h u) ≡ h = ap length (sym same) ∙ length-take-le h s there in
      let cut : min h (length u) ≡ h = rw length-take at full in
      omega arith

  container_shared : (c i w : ℕ) {n : ℕ} → ((h : ℕ) → h ≤ n → h ≤ length s → h ≤ m)
      → container_extent c i w s ≡ Some n → container_extent c i w u ≡ Some n
  container_shared c i w near e =
      let t = container_some s c i w e in
      let head : ℕ = head_size_of (number_at s 1 c) c i w in
      let inside : head ≤ m = near head (rw t.spans (omega arith)) t.head_there in
      let first : 1 + c ≤ head = head_count (number_at s 1 c) c i w in
      let offset : w ≤ head = head_offset (number_at s 1 c) c i w in
      let count : number_at u 1 c ≡ number_at s 1 c = number_shared 1 c (omega arith) in
      let last : number_at u (head - w) w ≡ number_at s (head - w) w = number_shared (head - w) w (omega arith) in
      container_is u c i w
      (record {
        count_there = long_shared (1 + c) (omega arith) t.count_there;
        head_there = rw count (long_shared head inside t.head_there);
        spans = rw (count, last) t.spans;
      })

  by_shared : (r : Reading) {n : ℕ} → ((h : ℕ) → h ≤ n → h ≤ length s → h ≤ m) → extent_by r s ≡ Some n → extent_by r u ≡ Some n
  unfolding extent_by given
  by_shared (Fixed code size) near e = e
  by_shared (Prefixed code) {n} near e =
      let told = given_some (leb 5 (length s)) (Some (5 + number_at s 1 4)) e in
      let there : 5 ≤ length s = leb-true 5 (length s) told.0 in
      let is : 5 + number_at s 1 4 ≡ n = cc told.1 in
      let inside : 5 ≤ m = near 5 (omega arith) there in
      rw (le-leb 5 (length u) (long_shared 5 inside there), number_shared 1 4 (omega arith)) told.1
  by_shared (Short size) near e = e
  by_shared (ObjectHead c i w) near e = container_shared c i w near e
  by_shared (ArrayHead c w) near e = container_shared c 0 w near e
  by_shared Nothing near e = e

  first_shared : 1 ≤ m → at u 0 ≡ at s 0
  first_shared h = sym (get_or-take m u 0 0 h) ∙ ap (λ (l : List ℕ). at l 0) (sym shared) ∙ get_or-take m s 0 0 h

  pub extent_shared : {n : ℕ} → ((h : ℕ) → h ≤ n → h ≤ length s → h ≤ m) → extent s ≡ Some n → extent u ≡ Some n
  extent_shared near e =
      let told = extent_some s e in
      let one : 1 ≤ m = near 1 (extent_positive s e) told.0 in
      let there : 1 ≤ length u = long_shared 1 one told.0 in
      rw (extent_as u (λ z. omega arith), first_shared one) (by_shared (reading_of (at s 0)) near told.1)

-- So of a value's own bytes, and with any bytes behind it.
pub extent_take : (s : List ℕ) (m : ℕ) {n : ℕ} → extent s ≡ Some n → n ≤ m → extent (take m s) ≡ Some n
extent_take s m e h = extent_shared s (take m s) m (sym (take-take m m s (omega arith))) (λ k below there. omega arith) e

pub extent_more : (s t : List ℕ) {n : ℕ} → extent s ≡ Some n → extent (s ++ t) ≡ Some n
extent_more s t e = extent_shared s (s ++ t) (length s) (take-length s ∙ sym (take-append_seam s t)) (λ k below there. there) e
