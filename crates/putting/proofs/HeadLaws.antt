-- The head of a container in front of its parts: how long it is, and whether there is room for it.
use Rattle.std.specs.Prelude.{Some, None}
use mathlib.Core.List.{List}
use mathlib.Core.Path.{◌≡◌, sym, ap, ◌∙◌}
use Prim.Native.Nat.{ℕ, ◌-◌, ◌≤◌, ◌<◌}
use native.Mathlib.Omega.{arith}
use borrow.Author.Tests.{le-leb, lt-leb}
use lib.ListN.{length, get_or, length-append, length-map}
use Rattle.forms.proofs.ContainerLaws.{array_length, object_length}
use Rattle.numbers.specs.Little.{smallest_width}
use Rattle.paper.specs.FirstBytes.{count_size}
use Rattle.paper.specs.Normal.{large_bit, largest}
use Rattle.paper.specs.Values.{head_size_of}
use Rattle.paper.specs.Words.{joined}
use Rattle.writing.proofs.HeadLaws.{array_split, object_split}
use Rattle.writing.specs.Ends.{EndsAt, Lies}
use Rattle.writing.specs.Heads.{array_head, object_head}
use Rattle.writing.specs.Rewritten.{ranks_at}
use Rattle.putting.specs.Put.{Room, PutAs, put, full}

-- ---- how long a head is

pub few_size : (count : ℕ) → count ≤ 255 → 1 ≡ count_size (large_bit count)
unfolding large_bit count_size
few_size count few = rw (le-leb count 255 few)

pub many_size : (count : ℕ) → 255 < count → 4 ≡ count_size (large_bit count)
unfolding large_bit count_size
many_size count many = rw (lt-leb count 255 many)

pub array_head-length : (parts : List (List ℕ))
    → length (array_head parts) ≡ head_size_of (length parts) (count_size (large_bit (length parts))) 0 (smallest_width (length (joined parts)))
array_head-length parts =
    let whole = array_length parts in
    let split = ap length (array_split parts) ∙ length-append (array_head parts) (joined parts) in
    omega arith

pub object_head-length : (ids : List ℕ) (parts : List (List ℕ)) → length ids ≡ length parts
    → length (object_head ids parts)
    ≡ head_size_of (length parts) (count_size (large_bit (length parts))) (smallest_width (largest ids)) (smallest_width (length (joined parts)))
object_head-length ids parts same =
    let whole = object_length ids parts same in
    let split = ap length (object_split ids parts) ∙ length-append (object_head ids parts) (joined parts) in
    omega arith

-- ---- whether there is room for it

module _ {before : List ℕ} {start end count : ℕ} {parts : List (List ℕ)} (lie : Lies before start end parts) (same : length parts ≡ count) where
  as_wide : end - start ≡ length (joined parts)
  as_wide = let size = lie.size in omega arith

  -- The sizes of the head of whatever parts lie there.
  array_size : length (array_head parts) ≡ head_size_of count (count_size (large_bit count)) 0 (smallest_width (end - start))
  array_size = rw (as_wide, ← same) (array_head-length parts)

  object_size : (ids : List ℕ) → length ids ≡ count
      → length (object_head ids parts) ≡ head_size_of count (count_size (large_bit count)) (smallest_width (largest ids)) (smallest_width (end - start))
  object_size ids many = rw (as_wide, ← same) (object_head-length ids parts (many ∙ sym same))

module _ {before : List ℕ} {floor start : ℕ} (room : Room before floor start) (end count : ℕ) where
  module _ (width counted size : ℕ) (width_is : width ≡ smallest_width (end - start)) (count_is : counted ≡ count_size (large_bit count)) where
    head_full : {head after : List ℕ} → start - floor < size → length head ≡ size → PutAs head before after floor start None
    head_full short long = let above = room.above in full (omega arith)

    head_put : {head after : List ℕ} {first : ℕ} → size ≤ start - floor → length head ≡ size → EndsAt head before after start first
        → PutAs head before after floor start (Some first)
    head_put {first = first} fits long ends =
        let place = ends.size in
        let above = room.above in
        put first (omega arith) ends

    module _ (is : size ≡ head_size_of count counted 0 width) where
      pub array_fits : size ≤ start - floor → head_size_of count (count_size (large_bit count)) 0 (smallest_width (end - start)) ≤ start
      array_fits fits = rw (← width_is, ← count_is, ← is) (omega arith)

      array_long : (parts : List (List ℕ)) → Lies before start end parts → length parts ≡ count → length (array_head parts) ≡ size
      array_long parts lie same = array_size lie same ∙ rw (← width_is, ← count_is, ← is)

      pub array_full : start - floor < size → {after : List ℕ} → (parts : List (List ℕ)) → Lies before start end parts → length parts ≡ count
          → PutAs (array_head parts) before after floor start None
      array_full short parts lie same = head_full short (array_long parts lie same)

      pub array_put : size ≤ start - floor → {after : List ℕ} {first : ℕ}
          → ((parts : List (List ℕ)) → Lies before start end parts → length parts ≡ count → EndsAt (array_head parts) before after start first)
          → (parts : List (List ℕ)) → Lies before start end parts → length parts ≡ count → PutAs (array_head parts) before after floor start (Some first)
      array_put fits head parts lie same = head_put fits (array_long parts lie same) (head parts lie same)

    -- An object has one member to an id.
    module _ (ranks given : List ℕ) (many : count ≡ length given) (most id-width : ℕ) (most-is : most ≡ largest (ranks_at ranks given))
        (id_is : id-width ≡ smallest_width most) (is : size ≡ head_size_of count counted id-width width) where
      abbrev ids : List ℕ
      ids = ranks_at ranks given

      as_many : length ids ≡ count
      unfolding ranks_at
      as_many = length-map given (λ (id : ℕ). get_or ranks id 0) ∙ sym many

      pub object_fits : size ≤ start - floor
          → head_size_of (length given) (count_size (large_bit (length given))) (smallest_width (largest (ranks_at ranks given))) (smallest_width (end - start)) ≤ start
      object_fits fits = rw (← many, ← width_is, ← count_is, ← most-is, ← id_is, ← is) (omega arith)

      object_long : (parts : List (List ℕ)) → Lies before start end parts → length parts ≡ length given → length (object_head ids parts) ≡ size
      object_long parts lie same = object_size lie (same ∙ sym many) ids as_many ∙ rw (← width_is, ← count_is, ← most-is, ← id_is, ← is)

      pub object_full : start - floor < size → {after : List ℕ} → (parts : List (List ℕ)) → Lies before start end parts → length parts ≡ length given
          → PutAs (object_head (ranks_at ranks given) parts) before after floor start None
      object_full short parts lie same = head_full short (object_long parts lie same)

      pub object_put : size ≤ start - floor → {after : List ℕ} {first : ℕ}
          → ((parts : List (List ℕ)) → Lies before start end parts → length parts ≡ length given
          → EndsAt (object_head (ranks_at ranks given) parts) before after start first)
          → (parts : List (List ℕ)) → Lies before start end parts → length parts ≡ length given
          → PutAs (object_head (ranks_at ranks given) parts) before after floor start (Some first)
      object_put fits head parts lie same = head_put fits (object_long parts lie same) (head parts lie same)
