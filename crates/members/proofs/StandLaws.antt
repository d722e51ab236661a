-- Where the members of a container stand that normal form lays out: each start is its part's offset, and each id is its own.
use mathlib.Core.Bool.{true}
use mathlib.Core.List.{List, [], ◌++◌}
use mathlib.Core.Path.{◌≡◌, sym, ap, ◌∙◌}
use Prim.Native.Nat.{ℕ, ◌+◌, ◌-◌, ◌*◌, ◌^◌, ◌≤◌, ◌<◌}
use native.Mathlib.Nat.{mul-le-mul, mul-one}
use native.Mathlib.Omega.{arith}
use lib.ListN.{length, get_or, drop, length-append}
use lib.Seq.{drop_at, drop-drop}
use Rattle.runs.proofs.NumbersRunLaws.{number_drop, run_at}
use Rattle.dictionary.proofs.OffsetLaws.{cut_at_lem, good_next, good_within}
use Rattle.forms.proofs.LaidLaws.{laid, laid_length, laid_count, laid_area}
use Rattle.members.specs.Members.{start_at, member_part, member_id, MembersAt, PartThere, IdThere, Parted, Identified}
use Rattle.members.specs.declared.Members.{Members}
use Rattle.names.proofs.RunLaws.{numbers_bytes-length, numbers_back, offsets_length, offsets_below, offsets_good_lem, parts_cut}
use Rattle.numbers.proofs.NumberLaws.{length-number_bytes}
use Rattle.numbers.specs.Little.{number_at, number_bytes}
use Rattle.paper.specs.Bounds.{most_walked}
use Rattle.paper.specs.Normal.{offsets_from, numbers_bytes}
use Rattle.paper.specs.Values.{head_size_of, area_of}
use Rattle.paper.specs.Words.{part, all_below, joined}

part_drop : (s : List ℕ) (area from to : ℕ) → part s (area + from) (area + to) ≡ part (drop area s) from to
part_drop s area from to = let size : area + to - (area + from) ≡ to - from = omega arith in rw (size, drop-drop)

-- A number of a run that was written, read where it stands.
run_number : (s : List ℕ) (place w : ℕ) (ns rest : List ℕ) → drop place s ≡ numbers_bytes w ns ++ rest → 1 ≤ w → all_below (256 ^ w) ns ≡ true
    → (k : ℕ) → k < length ns → number_at s (place + k * w) w ≡ get_or ns k 0
run_number s place w ns rest is least below k h =
    let run : List ℕ = numbers_bytes w ns ++ rest in
    let there : length ns * w ≤ length run = rw (length-append, numbers_bytes-length) (omega arith) in
    sym (number_drop s place (k * w) w)
    ∙ ap (λ (l : List ℕ). number_at l (k * w) w) is
    ∙ sym (run_at w (length ns) run k least there h) ∙ ap (λ (l : List ℕ). get_or l k 0) (numbers_back w ns rest least below)

module _ (first c i w : ℕ) (ids : List ℕ) (parts : List (List ℕ)) (id_size : length ids ≡ length parts * i)
    (counted : length parts < 256 ^ c) (least : 1 ≤ w) (most : w ≤ 4) (wide : length (joined parts) < 256 ^ w)
    (small : length (laid first c w ids parts) ≤ most_walked) {m : Members} (stand : MembersAt (laid first c w ids parts) c i w m) where
  abbrev s : List ℕ
  s = laid first c w ids parts

  abbrev offsets : List ℕ
  offsets = offsets_from 0 parts

  count_parts : m.count ≡ length parts
  count_parts = stand.count_is ∙ laid_count first c i w ids parts id_size counted

  -- All of the head is there.
  head_in : 1 + c + length parts * i + (length parts + 1) * w + length (joined parts) ≡ length s
  unfolding head_size_of
  head_in = sym (laid_length first c i w ids parts id_size)

  few_parts : m.count ≤ most_walked
  few_parts =
      let n = count_parts in
      let all = head_in in
      let each : length parts * 1 ≤ (length parts + 1) * w = mul-le-mul (omega arith) least in
      let one : length parts * 1 ≡ length parts = mul-one (length parts) in
      omega arith

  behind_count : drop (1 + c) s ≡ ids ++ (numbers_bytes w offsets ++ joined parts)
  unfolding laid
  behind_count = sym (drop-drop c 1 s) ∙ drop_at (number_bytes c (length parts)) _ c (length-number_bytes c (length parts))

  behind_ids : drop (1 + c + length parts * i) s ≡ numbers_bytes w offsets ++ joined parts
  behind_ids = sym (drop-drop (length parts * i) (1 + c) s) ∙ rw behind_count (drop_at ids _ (length parts * i) id_size)

  starts_are : m.starts ≡ 1 + c + length parts * i
  starts_are = stand.starts_is ∙ rw count_parts

  -- A member starts where its offset says, and the area ends where the last one says.
  start_is : (k : ℕ) → k ≤ length parts → start_at s m k ≡ get_or offsets k 0
  start_is k h =
      let size = offsets_length 0 parts in
      rw (stand.offset_is, starts_are)
      (run_number s (1 + c + length parts * i) w offsets (joined parts) behind_ids least (offsets_below 0 (256 ^ w) parts (omega arith)) k (omega arith))

  area_is : drop m.area s ≡ joined parts
  unfolding area_of
  area_is = rw (stand.area_is, stand.count_is) (laid_area first c i w ids parts id_size counted)

  module _ (k : ℕ) (h : k < m.count) where
    inside : k + 1 < length offsets
    inside = let n = count_parts in let size = offsets_length 0 parts in omega arith

    part_there : PartThere s m k
    unfolding head_size_of
    part_there =
        let n = count_parts in
        let all = head_in in
        let area : m.area ≡ head_size_of (length parts) c i w = stand.area_is ∙ rw n in
        let from : start_at s m k ≡ get_or offsets k 0 = start_is k (omega arith) in
        let to : start_at s m (k + 1) ≡ get_or offsets (k + 1) 0 = start_is (k + 1) (omega arith) in
        let most-in = good_within offsets (joined parts) k (offsets_good_lem parts) inside in
        record {
          below = h;
          few = few_parts;
          least = rw stand.offset_is least;
          most = rw stand.offset_is most;
          starts_in = rw (starts_are, stand.offset_is, n) (omega arith);
          small = small;
          rises = rw (from, to) (good_next offsets (joined parts) k (offsets_good_lem parts) inside);
          area_in = omega arith;
        }

    member_is : member_part s m k ≡ get_or parts k []
    member_is =
        let n = count_parts in
        part_drop s m.area (start_at s m k) (start_at s m (k + 1))
        ∙ rw (area_is, start_is k (omega arith), start_is (k + 1) (omega arith), ← cut_at_lem (joined parts) offsets k inside, parts_cut)

  pub laid_parted : Parted s m parts
  laid_parted = record { counted = count_parts; there = part_there; are = member_is }

  -- Ids that take so many bytes each.
  module _ (ns : List ℕ) (ids_are : ids ≡ numbers_bytes i ns) (same : length ns ≡ length parts) (id_least : 1 ≤ i) (id_most : i ≤ 4)
      (below : all_below (256 ^ i) ns ≡ true) where
    count_ids : m.count ≡ length ns
    count_ids = count_parts ∙ sym same

    id_there : (k : ℕ) → k < m.count → IdThere s m k
    id_there k h =
        let all = head_in in
        record {
          below = h;
          few = few_parts;
          least = rw stand.id_is id_least;
          most = rw stand.id_is id_most;
          ids_in = rw (stand.ids_is, stand.id_is, count_parts) (omega arith);
          small = small;
        }

    id_is : (k : ℕ) → k < m.count → member_id s m k ≡ get_or ns k 0
    id_is k h =
        let n = count_ids in
        rw (stand.ids_is, stand.id_is)
        (run_number s (1 + c) i ns (numbers_bytes w offsets ++ joined parts) (behind_count ∙ rw ids_are) id_least below k (omega arith))

    pub laid_identified : Identified s m ns
    laid_identified = record { counted = count_ids; there = id_there; are = id_is }
