-- The head of a container in front of its parts: the offsets, an object's ids, the count and the first byte, each so that
-- it ends where the one before it starts.
use mathlib.Core.List.{List, ◌∷◌, ◌++◌, append_assoc}
use mathlib.Core.Path.{◌≡◌, ◌∙◌}
use Prim.Native.Nat.{ℕ, ◌+◌, ◌-◌, ◌*◌, ◌≤◌}
use native.Mathlib.Numerals.{add-one}
use native.Mathlib.Omega.{arith}
use lib.ListN.{length}
use Rattle.names.proofs.RunLaws.{numbers_bytes-length, offsets_length}
use Rattle.numbers.specs.Little.{number_bytes, smallest_width}
use Rattle.paper.specs.FirstBytes.{count_size}
use Rattle.paper.specs.Normal.{large_bit, largest, offsets_from, numbers_bytes, array_bytes, object_bytes}
use Rattle.paper.specs.Values.{head_size_of}
use Rattle.paper.specs.Words.{joined}
use Rattle.writing.specs.Ends.{EndsAt, Lies, Lying}
use Rattle.writing.specs.Heads.{array_head, object_head}
use Rattle.writing.proofs.EndLaws.{ends_join}

pub array_split : (parts : List (List ℕ)) → array_bytes parts ≡ array_head parts ++ joined parts
unfolding array_bytes array_head
array_split parts = simp append_assoc

pub object_split : (ids : List ℕ) (parts : List (List ℕ)) → object_bytes ids parts ≡ object_head ids parts ++ joined parts
unfolding object_bytes object_head
object_split ids parts = simp append_assoc

-- What was written of the offsets, for whatever parts lie there.
abbrev pub Offsets : (before after : List ℕ) (count width start end at : ℕ) → Type 0
Offsets before after count width start end at =
    (parts : List (List ℕ)) → Lies before start end parts → length parts ≡ count
    → EndsAt (numbers_bytes width (offsets_from 0 parts)) before after start at

-- Children lie there, and a head of their count fits in front of them.
pub record Headed (out : List ℕ) (start end count id : ℕ) : Type 0 where
  pub lying : Lying out start end count
  pub fits : head_size_of count (count_size (large_bit count)) id (smallest_width (end - start)) ≤ start

-- The same of the count that was read.
pub counted : {out : List ℕ} {start end n id : ℕ} → Lying out start end n
    → head_size_of n (count_size (large_bit n)) id (smallest_width (end - start)) ≤ start → (count : ℕ) → count ≡ n → Headed out start end count id
counted lying fits count is = record { lying = rw is lying; fits = rw is fits }

module _ {out : List ℕ} {start end count : ℕ} (lying : Lying out start end count) where
  pub start_behind : start ≤ end
  start_behind = let size = lying.lie.size in omega arith

  -- The head fits, with offsets of their width and ids of theirs.
  module _ (counted id width : ℕ) (width_is : width ≡ smallest_width (end - start))
      (fits : head_size_of count counted id (smallest_width (end - start)) ≤ start) where
    parts_fit : 1 + counted + count * id + (count + 1) * width ≤ start
    unfolding head_size_of
    parts_fit = rw width_is fits

    pub offsets_fit : (count + 1) * width ≤ start
    offsets_fit = let all = parts_fit in omega arith

    module _ {after : List ℕ} {at : ℕ} (offsets : Offsets out after count width start end at) where
      offsets_at : at + (count + 1) * width ≡ start
      offsets_at =
          let ends = offsets lying.parts lying.lie lying.count_is in
          let long : length (numbers_bytes width (offsets_from 0 lying.parts)) ≡ (count + 1) * width =
          numbers_bytes-length width (offsets_from 0 lying.parts) ∙ rw (offsets_length 0 lying.parts, lying.count_is, add-one count) in
          let size = ends.size in
          omega arith

      pub offsets_before : at ≤ start
      offsets_before = let place = offsets_at in omega arith

      pub array_opens : 1 + counted ≤ at
      array_opens = let place = offsets_at in let all = parts_fit in omega arith

      pub ids_fit : (id-width : ℕ) → id-width ≡ id → count * id-width ≤ at
      ids_fit id-width is = let place = offsets_at in let all = parts_fit in rw is (omega arith)

      pub object_opens : (id-width : ℕ) → id-width ≡ id → (ns : List ℕ) → length ns ≡ count → {last : List ℕ} {named : ℕ}
          → EndsAt (numbers_bytes id-width ns) after last at named → 1 + counted ≤ named
      object_opens id-width is ns same ends =
          let place = offsets_at in
          let all = parts_fit in
          let long : length (numbers_bytes id-width ns) ≡ count * id = numbers_bytes-length id-width ns ∙ rw (same, is) in
          let size = ends.size in
          omega arith

-- The width of the offsets goes by the parts.
width_same : {out : List ℕ} {start end : ℕ} {parts : List (List ℕ)} → Lies out start end parts → end - start ≡ length (joined parts)
width_same lie = let size = lie.size in omega arith

module _ {out middle last : List ℕ} {start end at : ℕ} (count width : ℕ) (width_is : width ≡ smallest_width (end - start)) (within : end ≤ length out)
    (offsets : Offsets out middle count width start end at) where
  pub array_headed : {r : ℕ}
      → EndsAt ((3 + 4 * (width - 1) + 16 * large_bit count) ∷ number_bytes (count_size (large_bit count)) count) middle last at r
      → (parts : List (List ℕ)) → Lies out start end parts → length parts ≡ count → EndsAt (array_head parts) out last start r
  unfolding array_head
  array_headed opened parts lie same =
      let size = lie.size in
      let joined-up = ends_join (offsets parts lie same) (omega arith) opened in
      rw (same, ← width_same lie, ← width_is) joined-up

  pub object_headed : (ids : List ℕ) (id-width : ℕ) → id-width ≡ smallest_width (largest ids) → {named-out : List ℕ} {named r : ℕ}
      → EndsAt (numbers_bytes id-width ids) middle named-out at named
      → EndsAt ((2 + 4 * (width - 1) + 16 * (id-width - 1) + 64 * large_bit count) ∷ number_bytes (count_size (large_bit count)) count) named-out last named r
      → (parts : List (List ℕ)) → Lies out start end parts → length parts ≡ count → EndsAt (object_head ids parts) out last start r
  unfolding object_head
  object_headed ids id-width id_is ended opened parts lie same =
      let size = lie.size in
      let before = ends_join (offsets parts lie same) (omega arith) ended in
      let joined-up = ends_join before (omega arith) opened in
      rw (same, ← width_same lie, ← width_is, ← id_is) joined-up
