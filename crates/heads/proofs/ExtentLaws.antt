-- The answers of the code that looks for an extent: one law for each, with the tests that led there.
use Rattle.std.specs.Prelude.{Some, None}
use mathlib.Core.List.{List, [], ◌∷◌}
use mathlib.Core.Path.{◌≡◌, refl, sym, ap, ◌∙◌}
use Prim.Native.Nat.{ℕ, ◌+◌, ◌-◌, ◌^◌, ◌≤◌, ◌<◌}
use native.Mathlib.Nat.{pow-le-pow_right}
use native.Mathlib.Omega.{arith}
use borrow.Author.Tests.{le-leb, lt-leb}
use lib.ListN.{length}
use Rattle.numbers.specs.Little.{number_at}
use Rattle.paper.specs.FirstBytes.{reading_of}
use Rattle.paper.specs.Values.{head_size_of, container_extent, extent_by, extent}
use Rattle.paper.specs.Words.{at, given}
use Rattle.paper.specs.declared.Reading.TheVariants.{Fixed, Prefixed, Short, ObjectHead, ArrayHead, Nothing}
use Rattle.paper.specs.declared.Reading.{Reading}
use Rattle.heads.proofs.HeadLaws.{extent_as, head_offset, container_is}

-- ---- a container

module _ (s : List ℕ) (c i w : ℕ) where
  pub count_missing : length s < 1 + c → None ≡ container_extent c i w s
  unfolding container_extent given
  count_missing h = rw (lt-leb (1 + c) (length s) h)

  module _ {count head : ℕ} (here : 1 + c ≤ length s) (is-count : count ≡ number_at s 1 c) (is-head : head ≡ head_size_of count c i w) where
    head_is : head ≡ head_size_of (number_at s 1 c) c i w
    head_is = is-head ∙ ap (λ (n : ℕ). head_size_of n c i w) is-count

    -- The last offset is inside the head.
    pub last_inside : w ≤ head
    last_inside = rw is-head (head_offset count c i w)

    pub head_missing : length s < head → None ≡ container_extent c i w s
    unfolding container_extent given
    head_missing h = rw (← head_is, le-leb (1 + c) (length s) here, lt-leb head (length s) h)

    pub head_told : {last : ℕ} → head ≤ length s → last ≡ number_at s (head - w) w → Some (head + last) ≡ container_extent c i w s
    head_told {last} h is_last =
        let told : container_extent c i w s ≡ Some (head + last) =
        container_is s c i w
        (record { count_there = here; head_there = rw (← head_is) h; spans = rw (← head_is, ← is_last) }) in
        rw told

-- A count of at most four bytes is below 2 to the 32nd.
pub count_below : {count c : ℕ} → count < 256 ^ c → c ≤ 4 → count < 2 ^ 32
count_below {count} {c} h k =
    let most : 256 ^ c ≤ 256 ^ 4 = pow-le-pow_right (omega arith) k in
    omega arith

-- ---- any value, by its reading

module _ (s : List ℕ) (there : length s ≡ 0 → ⊥) (r : Reading) (is : r ≡ reading_of (at s 0)) where
  by_reading : {known : Reading} → r ≡ known → extent s ≡ extent_by known s
  by_reading k = extent_as s there ∙ ap (λ (q : Reading). extent_by q s) (sym is ∙ k)

  pub fixed_told : {code size : ℕ} → r ≡ Fixed code size → Some (1 + size) ≡ extent s
  unfolding extent_by
  fixed_told k = sym (by_reading k)

  pub short_told : {size : ℕ} → r ≡ Short size → Some (1 + size) ≡ extent s
  unfolding extent_by
  short_told k = sym (by_reading k)

  pub nothing_told : r ≡ Nothing → None ≡ extent s
  unfolding extent_by
  nothing_told k = sym (by_reading k)

  pub length_missing : {code : ℕ} → r ≡ Prefixed code → length s < 5 → None ≡ extent s
  unfolding extent_by given
  length_missing k h = rw (by_reading k, lt-leb 5 (length s) h)

  pub length_told : {code size : ℕ} → r ≡ Prefixed code → 5 ≤ length s → size ≡ number_at s 1 4 → Some (5 + size) ≡ extent s
  unfolding extent_by given
  length_told k h is-size = rw (by_reading k, le-leb 5 (length s) h, is-size)

  pub object_told : {c i w : ℕ} → r ≡ ObjectHead c i w → container_extent c i w s ≡ extent s
  unfolding extent_by
  object_told k = sym (by_reading k)

  pub array_told : {c w : ℕ} → r ≡ ArrayHead c w → container_extent c 0 w s ≡ extent s
  unfolding extent_by
  array_told k = sym (by_reading k)

pub empty_told : (s : List ℕ) → length s ≡ 0 → None ≡ extent s
unfolding extent
empty_told [] e = refl
empty_told (b ∷ s) e = absurd (omega arith)
