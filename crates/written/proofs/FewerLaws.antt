-- An object with fewer fields is never longer in normal form: fewer members, which come to less, and no larger id.
use mathlib.Core.Bool.{Bool, true, false, cond}
use mathlib.Core.List.{List, map}
use mathlib.Core.Path.{◌≡◌, refl}
use Prim.Native.Nat.{ℕ, ◌+◌, ◌*◌, ◌^◌, ◌≤◌, ◌<◌}
use native.Mathlib.Nat.{mul-le-mul}
use native.Mathlib.Omega.{arith}
use borrow.Author.Tests.{leb-true, leb-false}
use lib.Dec.{leb}
use lib.ListN.{length, length-append}
use Rattle.forms.proofs.BackLaws.{ids_length, ids_below_lem}
use Rattle.forms.proofs.ContainerLaws.{count_of, width_of, object_fit, object_length, largest_below}
use Rattle.forms.specs.WellFormed.{field_names_there}
use Rattle.numbers.proofs.WidthLaws.{smallest_holds, smallest_least, smallest_bounds}
use Rattle.numbers.specs.Little.{smallest_width}
use Rattle.paper.specs.FirstBytes.{count_size}
use Rattle.paper.specs.Meaning.{object, Fields, no_fields, field}
use Rattle.paper.specs.Metadata.{Dictionary}
use Rattle.paper.specs.Normal.{large_bit, largest, id_of, field_names, value_bytes, member_bytes}
use Rattle.paper.specs.Shredding.{unnamed}
use Rattle.paper.specs.Values.{head_size_of}
use Rattle.paper.specs.Words.{among, joined}

-- ---- the numbers of a head

width_rises : (n m : ℕ) → n ≤ m → m < 2 ^ 32 → smallest_width n ≤ smallest_width m
width_rises n m most small =
    let bound : 2 ^ 32 ≡ 256 ^ 4 = refl in
    let held : m < 256 ^ smallest_width m = smallest_holds m (omega arith) in
    smallest_least n (smallest_width m) (smallest_bounds m).0 (omega arith)

count_rises : (n m : ℕ) → n ≤ m → count_size (large_bit n) ≤ count_size (large_bit m)
unfolding count_size large_bit
count_rises n m most = go (leb n 255) (leb m 255) refl refl
  where
    go : (a b : Bool) → leb n 255 ≡ a → leb m 255 ≡ b → 1 + 3 * cond a 0 1 ≤ 1 + 3 * cond b 0 1
    go true b e f = omega arith
    go false true e f = let more = leb-false n 255 e in let few = leb-true m 255 f in absurd (omega arith)
    go false false e f = omega arith

head_rises : (n m c d i j w v : ℕ) → n ≤ m → c ≤ d → i ≤ j → w ≤ v → head_size_of n c i w ≤ head_size_of m d j v
unfolding head_size_of
head_rises n m c d i j w v few count id width =
    let ids : n * i ≤ m * j = mul-le-mul few id in
    let more : n + 1 ≤ m + 1 = omega arith in
    let offsets : (n + 1) * w ≤ (m + 1) * v = mul-le-mul more width in
    omega arith

-- ---- fewer fields

module _ (names : Dictionary) where
  record Fewer (some all : Fields) : Type 0 where
    members : length (member_bytes names some) ≤ length (member_bytes names all)
    bytes : length (joined (member_bytes names some)) ≤ length (joined (member_bytes names all))
    ids : largest (map (id_of names) (field_names some)) ≤ largest (map (id_of names) (field_names all))

  unnamed_fewer : (taken : List (List ℕ)) (fs : Fields) → Fewer (unnamed taken fs) fs
  unfolding unnamed member_bytes field_names joined largest
  unnamed_fewer taken no_fields = record { members = omega arith; bytes = omega arith; ids = omega arith }
  unnamed_fewer taken (field name d fs) = go (among name taken) (unnamed_fewer taken fs)
    where
      go : (b : Bool) → Fewer (unnamed taken fs) fs → Fewer (cond b (unnamed taken fs) (field name d (unnamed taken fs))) (field name d fs)
      go true rest =
          let size = length-append (value_bytes names d) (joined (member_bytes names fs)) in
          record { members = omega arith; bytes = omega arith; ids = omega arith }
      go false rest =
          let size = length-append (value_bytes names d) (joined (member_bytes names fs)) in
          let fewer = length-append (value_bytes names d) (joined (member_bytes names (unnamed taken fs))) in
          record { members = omega arith; bytes = omega arith; ids = omega arith }

  module _ (few : length names ≤ 2 ^ 32) (taken : List (List ℕ)) (fs : Fields) (there : field_names_there names fs ≡ true)
      (small : length (value_bytes names (object fs)) < 2 ^ 32) where
    pub unnamed_shorter : length (value_bytes names (object (unnamed taken fs))) ≤ length (value_bytes names (object fs))
    unfolding value_bytes
    unnamed_shorter =
        let fewer = unnamed_fewer taken fs in
        let ids : List ℕ = map (id_of names) (field_names fs) in
        let parts : List (List ℕ) = member_bytes names fs in
        let left_ids : List ℕ = map (id_of names) (field_names (unnamed taken fs)) in
        let left : List (List ℕ) = member_bytes names (unnamed taken fs) in
        let fit = object_fit ids parts (ids_length names fs) in
        let id : smallest_width (largest left_ids) ≤ smallest_width (largest ids) =
        width_rises (largest left_ids) (largest ids) fewer.ids (largest_below (length names) (2 ^ 32) ids (ids_below_lem names fs there) few (omega arith)) in
        let width : width_of left ≤ width_of parts = width_rises (length (joined left)) (length (joined parts)) fewer.bytes (omega arith) in
        let head = head_rises (length left) (length parts) (count_of left) (count_of parts) _ _ (width_of left) (width_of parts)
        fewer.members (count_rises (length left) (length parts) fewer.members) id width in
        rw (object_length left_ids left (ids_length names (unnamed taken fs)), object_length ids parts (ids_length names fs)) (omega arith)
