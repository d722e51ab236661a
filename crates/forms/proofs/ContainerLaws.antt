-- Arrays and objects that are written of filled parts: they say how long they are, and mean what their parts mean.
use Rattle.std.specs.Prelude.{Some}
use mathlib.Core.Bool.{Bool, true, false, cond}
use mathlib.Core.List.{List, [], ◌∷◌}
use mathlib.Core.Path.{◌≡◌, refl, sym, ap, ◌∙◌}
use Prim.Native.Nat.{ℕ, suc, ◌+◌, ◌-◌, ◌*◌, ◌^◌, ◌≤◌, ◌<◌}
use native.Mathlib.Nat.{mul-zero, mul-one, mul-le-mul}
use native.Mathlib.Omega.{arith}
use borrow.Author.Tests.{leb-true, ltb-true, lt-ltb}
use lib.Dec.{leb, ltb}
use lib.ListN.{length}
use Rattle.numbers.specs.Little.{smallest_width}
use Rattle.paper.specs.FirstBytes.{count_size, reading_of}
use Rattle.paper.specs.Meaning.{array, object}
use Rattle.paper.specs.Metadata.{Dictionary, rising}
use Rattle.paper.specs.Normal.{numbers_bytes, large_bit, largest, array_bytes, object_bytes}
use Rattle.paper.specs.Values.{head_size_of, extent_by, container_extent, area_of, starts_of, ids_of, names_at, elements_of, members_of, element_docs, member_docs, meaning_by, meaning_of}
use Rattle.paper.specs.Words.{at, given, and_then, all_below, joined}
use Rattle.paper.specs.declared.Reading.TheVariants.{ObjectHead, ArrayHead}
use Rattle.paper.specs.declared.Reading.{Reading}
use Rattle.forms.proofs.FirstByteLaws.{array_reading, object_reading}
use Rattle.forms.proofs.LaidLaws.{laid, laid_length, laid_area, laid_ids, laid_starts, laid_extent}
use Rattle.forms.proofs.PartLaws.{starts_from, children_from, AllFilled, parts_children, parts_below, parts_tiled, parts_once}
use Rattle.forms.proofs.ScalarLaws.{Filled, filled_meaning}
use Rattle.heads.proofs.HeadLaws.{extent_as}
use Rattle.names.proofs.RunLaws.{numbers_bytes-length, numbers_back}
use Rattle.numbers.proofs.WidthLaws.{smallest_holds, smallest_bounds}
use Rattle.paper.proofs.WordLaws.{and_both}

-- ---- counts and ids fit their widths

pub large_most : (n : ℕ) → large_bit n ≤ 1
unfolding large_bit
large_most n = go (leb n 255)
  where
    go : (b : Bool) → cond b 0 1 ≤ 1
    go true = omega arith
    go false = omega arith

pub count_holds : (n : ℕ) → n < 2 ^ 32 → n < 256 ^ count_size (large_bit n)
unfolding large_bit count_size
count_holds n small = go (leb n 255) refl
  where
    go : (b : Bool) → leb n 255 ≡ b → n < 256 ^ (1 + 3 * cond b 0 1)
    go true e = let few : n ≤ 255 = leb-true n 255 e in omega arith
    go false e = omega arith

pub largest_below : (bound wide : ℕ) (ns : List ℕ) → all_below bound ns ≡ true → bound ≤ wide → 0 < wide → largest ns < wide
unfolding all_below largest
largest_below bound wide [] all most positive = positive
largest_below bound wide (n ∷ ns) all most positive =
    let both = and_both (ltb n bound) (all_below bound ns) all in
    let first : n < bound = ltb-true n bound both.0 in
    let rest : largest ns < wide = largest_below bound wide ns both.1 most positive in
    omega arith

pub below_largest : (bound : ℕ) (ns : List ℕ) → largest ns < bound → all_below bound ns ≡ true
unfolding all_below largest
below_largest bound [] h = refl
below_largest bound (n ∷ ns) h = rw (lt-ltb n bound (omega arith), below_largest bound ns (omega arith))

-- ---- a container whose count and offsets take as few bytes as they can

abbrev pub count_of : List (List ℕ) → ℕ
count_of parts = count_size (large_bit (length parts))

abbrev pub width_of : List (List ℕ) → ℕ
width_of parts = smallest_width (length (joined parts))

module _ (first i : ℕ) (ids : List ℕ) (parts : List (List ℕ)) (id_size : length ids ≡ length parts * i) where
  abbrev s : List ℕ
  s = laid first (count_of parts) (width_of parts) ids parts

  least : 1 ≤ width_of parts
  least = (smallest_bounds (length (joined parts))).0

  pub parts_fit : (length parts ≤ length s) × (length (joined parts) ≤ length s)
  unfolding head_size_of
  parts_fit =
      let all : length s ≡ head_size_of (length parts) (count_of parts) i (width_of parts) + length (joined parts) =
      laid_length first (count_of parts) i (width_of parts) ids parts id_size in
      let few : length parts * 1 ≤ (length parts + 1) * width_of parts = mul-le-mul (omega arith) least in
      let one : length parts * 1 ≡ length parts = mul-one (length parts) in
      (omega arith, omega arith)

  module _ (small : length s < 2 ^ 32) where
    counted : length parts < 256 ^ count_of parts
    counted = let fit = parts_fit in count_holds (length parts) (omega arith)

    wide : length (joined parts) < 256 ^ width_of parts
    wide = let fit = parts_fit in smallest_holds (length (joined parts)) (omega arith)

    area_is : area_of (count_of parts) i (width_of parts) s ≡ joined parts
    area_is = laid_area first (count_of parts) i (width_of parts) ids parts id_size counted

    starts_are : starts_of (count_of parts) i (width_of parts) s ≡ starts_from 0 parts
    starts_are = laid_starts first (count_of parts) i (width_of parts) ids parts id_size counted least wide

    ids_are : (ns : List ℕ) → 1 ≤ i → ids ≡ numbers_bytes i ns → length ns ≡ length parts → all_below (256 ^ i) ns ≡ true
        → ids_of (count_of parts) i s ≡ ns
    ids_are ns positive is same below =
        laid_ids first (count_of parts) i (width_of parts) ids parts id_size counted ∙ rw (is, ← same) (numbers_back i ns _ positive below)

    filled : (r : Reading) → reading_of first ≡ r → extent_by r s ≡ container_extent (count_of parts) i (width_of parts) s
        → Filled s × (reading_of (at s 0) ≡ r)
    filled r is by =
        let start : reading_of (at s 0) ≡ r = unfold laid in is in
        let there : length s ≡ 0 → ⊥ = unfold laid in λ e. absurd (omega arith) in (
          extent_as s there ∙ ap (λ (q : Reading). extent_by q s) start ∙ by
              ∙ laid_extent first (count_of parts) i (width_of parts) ids parts id_size counted least wide,
          start,
        )

-- ---- arrays

module _ (parts : List (List ℕ)) where
  abbrev array_first : ℕ
  array_first = 3 + 4 * (width_of parts - 1) + 16 * large_bit (length parts)

  abbrev array_laid : List ℕ
  array_laid = laid array_first (count_of parts) (width_of parts) [] parts

  array_same : array_bytes parts ≡ array_laid
  unfolding array_bytes laid
  array_same = refl

  no_ids : length {A = ℕ} [] ≡ length parts * 0
  no_ids = sym (mul-zero (length parts))

  pub array_length : length (array_bytes parts) ≡ head_size_of (length parts) (count_of parts) 0 (width_of parts) + length (joined parts)
  array_length = rw array_same (laid_length array_first (count_of parts) 0 (width_of parts) [] parts no_ids)

  pub array_fit : length (joined parts) ≤ length (array_bytes parts)
  array_fit = rw array_same (parts_fit array_first 0 [] parts no_ids).1

  module _ (small : length array_laid < 2 ^ 32) where
    array_fills : Filled array_laid × (reading_of (at array_laid 0) ≡ ArrayHead (count_of parts) (width_of parts))
    unfolding extent_by
    array_fills =
        let bounds = smallest_bounds (length (joined parts)) in
        let is = array_reading (width_of parts) (large_bit (length parts)) bounds.0 bounds.1 (large_most (length parts)) in
        filled array_first 0 [] parts no_ids small (ArrayHead (count_of parts) (width_of parts)) is refl

    module _ (all : AllFilled parts) where
      array_elements : elements_of (count_of parts) (width_of parts) array_laid ≡ Some (children_from 0 parts)
      unfolding elements_of given and_then
      array_elements =
          rw (
            area_is array_first 0 [] parts no_ids small,
            starts_are array_first 0 [] parts no_ids small,
            parts_below parts all,
            parts_children parts all,
            parts_tiled parts all,
          )

      array_means : (levels : ℕ) (names : Dictionary) → meaning_of (suc levels) names array_laid
          ≡ and_then (element_docs (meaning_of levels names) (joined parts) (children_from 0 parts)) λ ds. Some (array ds)
      unfolding meaning_by and_then
      array_means levels names =
          filled_meaning levels names array_laid (ArrayHead (count_of parts) (width_of parts)) array_fills.0 array_fills.1
          ∙ rw (array_elements, area_is array_first 0 [] parts no_ids small)

  module _ (small : length (array_bytes parts) < 2 ^ 32) where
    pub array_filled : Filled (array_bytes parts)
    array_filled = rw array_same (array_fills (rw array_same at small)).0

    pub array_meaning : AllFilled parts → (levels : ℕ) (names : Dictionary) → meaning_of (suc levels) names (array_bytes parts)
        ≡ and_then (element_docs (meaning_of levels names) (joined parts) (children_from 0 parts)) λ ds. Some (array ds)
    array_meaning all levels names = rw array_same (array_means (rw array_same at small) all levels names)

-- ---- objects

module _ (ids : List ℕ) (parts : List (List ℕ)) (same : length ids ≡ length parts) where
  abbrev id_width : ℕ
  id_width = smallest_width (largest ids)

  abbrev object_first : ℕ
  object_first = 2 + 4 * (width_of parts - 1) + 16 * (id_width - 1) + 64 * large_bit (length parts)

  abbrev object_laid : List ℕ
  object_laid = laid object_first (count_of parts) (width_of parts) (numbers_bytes id_width ids) parts

  object_same : object_bytes ids parts ≡ object_laid
  unfolding object_bytes laid
  object_same = refl

  ids_size : length (numbers_bytes id_width ids) ≡ length parts * id_width
  ids_size = numbers_bytes-length id_width ids ∙ rw same

  pub object_length : length (object_bytes ids parts) ≡ head_size_of (length parts) (count_of parts) id_width (width_of parts) + length (joined parts)
  object_length = rw object_same (laid_length object_first (count_of parts) id_width (width_of parts) (numbers_bytes id_width ids) parts ids_size)

  pub object_fit : length (joined parts) ≤ length (object_bytes ids parts)
  object_fit = rw object_same (parts_fit object_first id_width (numbers_bytes id_width ids) parts ids_size).1

  module _ (small : length object_laid < 2 ^ 32) where
    object_fills : Filled object_laid × (reading_of (at object_laid 0) ≡ ObjectHead (count_of parts) id_width (width_of parts))
    unfolding extent_by
    object_fills =
        let bounds = smallest_bounds (length (joined parts)) in
        let id-bounds = smallest_bounds (largest ids) in
        let is =
        object_reading (width_of parts) id_width (large_bit (length parts)) bounds.0 bounds.1 id-bounds.0 id-bounds.1
        (large_most (length parts)) in
        filled object_first id_width (numbers_bytes id_width ids) parts ids_size small (ObjectHead (count_of parts) id_width (width_of parts)) is refl

    module _ (all : AllFilled parts) (names : Dictionary) (few : length names ≤ 2 ^ 32) (below : all_below (length names) ids ≡ true)
        (rise : rising (names_at names ids) ≡ true) where
      object_ids : ids_of (count_of parts) id_width object_laid ≡ ids
      object_ids =
          let fits : largest ids < 256 ^ id_width = smallest_holds (largest ids) (largest_below (length names) (2 ^ 32) ids below few (omega arith)) in
          ids_are object_first id_width (numbers_bytes id_width ids) parts ids_size small ids (smallest_bounds (largest ids)).0 refl same
          (below_largest (256 ^ id_width) ids fits)

      object_members : members_of names (count_of parts) id_width (width_of parts) object_laid ≡ Some (children_from 0 parts)
      unfolding members_of given and_then
      object_members =
          rw (
            object_ids,
            below,
            rise,
            area_is object_first id_width (numbers_bytes id_width ids) parts ids_size small,
            starts_are object_first id_width (numbers_bytes id_width ids) parts ids_size small,
            parts_below parts all,
            parts_children parts all,
            parts_once parts all,
          )

      object_means : (levels : ℕ) → meaning_of (suc levels) names object_laid
          ≡ and_then (member_docs (meaning_of levels names) (joined parts) (names_at names ids) (children_from 0 parts)) λ fs. Some (object fs)
      unfolding meaning_by and_then
      object_means levels =
          filled_meaning levels names object_laid (ObjectHead (count_of parts) id_width (width_of parts)) object_fills.0 object_fills.1
          ∙ rw (object_members, object_ids, area_is object_first id_width (numbers_bytes id_width ids) parts ids_size small)

  module _ (small : length (object_bytes ids parts) < 2 ^ 32) where
    pub object_filled : Filled (object_bytes ids parts)
    object_filled = rw object_same (object_fills (rw object_same at small)).0

    pub object_meaning : AllFilled parts → (names : Dictionary) → length names ≤ 2 ^ 32 → all_below (length names) ids ≡ true
        → rising (names_at names ids) ≡ true → (levels : ℕ) → meaning_of (suc levels) names (object_bytes ids parts)
        ≡ and_then (member_docs (meaning_of levels names) (joined parts) (names_at names ids) (children_from 0 parts)) λ fs. Some (object fs)
    object_meaning all names few below rise levels = rw object_same (object_means (rw object_same at small) all names few below rise levels)
