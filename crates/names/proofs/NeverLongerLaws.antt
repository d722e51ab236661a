-- Normal metadata is never longer than metadata that has all of its names.
use Rattle.std.specs.Prelude.{Some, None}
use mathlib.Core.Bool.{Bool, true, false}
use mathlib.Core.List.{List, [], ◌∷◌, ◌++◌}
use mathlib.Core.Path.{◌≡◌, refl, sym, ap, ◌∙◌}
use Prim.Native.Nat.{ℕ, ◌+◌, ◌*◌, ◌-◌, ◌^◌, ◌≤◌, ◌<◌, max}
use native.Mathlib.Nat.{mul-le-mul}
use native.Mathlib.Omega.{arith}
use borrow.Author.Tests.{leb-true, ltb-true, ltb-false}
use lib.Dec.{leb, ltb}
use lib.ListN.{length, get_or, take, drop, length-take, length-drop, get_or-eq_default}
use lib.Seq.{get_or-take, get_or-drop, take-add, drop-drop, take_all}
use Rattle.dictionary.specs.Judging.{Opened}
use Rattle.dictionary.specs.declared.Names.{Names}
use Rattle.numbers.specs.Little.{number_at}
use Rattle.paper.specs.Metadata.{Dictionary, offset_size, flag_set, rising, name_count, name_offsets, names_area, names_in, never_fall, cut_at, offsets_good, dictionary_of}
use Rattle.paper.specs.Normal.{metadata_width, metadata_bytes}
use Rattle.paper.specs.Words.{at, part, among, joined, last_of}
use Rattle.dictionary.proofs.DictionaryLaws.{lawful, offsets_is, area_is, opened_names, opened_width, opened_there, offsets_length, opened_count}
use Rattle.runs.proofs.NumbersRunLaws.{run_at, last_at, number_drop}
use Rattle.dictionary.proofs.OffsetLaws.{good_parts}
use Rattle.names.proofs.ContainedLaws.{contained_count, contained_length}
use Rattle.names.proofs.MetadataLaws.{metadata_length}
use Rattle.numbers.proofs.NumberLaws.{number_below}
use Rattle.numbers.proofs.WidthLaws.{smallest_least}
use Rattle.paper.proofs.WordLaws.{and_both, some_there}

-- ---- what is cut makes up all that it was cut from

fall_last : (a : ℕ) (ns : List ℕ) → never_fall (a ∷ ns) ≡ true → a ≤ last_of (a ∷ ns)
unfolding never_fall last_of
fall_last a [] fall = omega arith
fall_last a (b ∷ ns) fall =
    let both = and_both (leb a b) (never_fall (b ∷ ns)) fall in
    let next : a ≤ b = leb-true a b both.0 in
    let rest : b ≤ last_of (b ∷ ns) = fall_last b ns both.1 in
    omega arith

-- Two neighbouring parts make one.
part_join : (s : List ℕ) (a b c : ℕ) → a ≤ b → b ≤ c → part s a b ++ part s b c ≡ part s a c
part_join s a b c lower upper =
    let whole : c - a ≡ b - a + (c - b) = omega arith in
    let next : a + (b - a) ≡ b = omega arith in
    sym (rw (whole, take-add (b - a) (c - b) (drop a s), drop-drop, next))

joined_part : (area : List ℕ) (a : ℕ) (ns : List ℕ) → never_fall (a ∷ ns) ≡ true → joined (cut_at area (a ∷ ns)) ≡ part area a (last_of (a ∷ ns))
unfolding never_fall last_of joined cut_at
joined_part area a [] fall = let None : a - a ≡ 0 = omega arith in rw None
joined_part area a (b ∷ ns) fall =
    let both = and_both (leb a b) (never_fall (b ∷ ns)) fall in
    rw (joined_part area b ns both.1) (part_join area a b (last_of (b ∷ ns)) (leb-true a b both.0) (fall_last b ns both.1))

pub joined_cut : (ns area : List ℕ) → offsets_good ns area ≡ true → 0 < length ns → joined (cut_at area ns) ≡ area
joined_cut [] area good h = absurd (omega arith)
joined_cut (a ∷ ns) area good h =
    let parts = good_parts (a ∷ ns) area good in
    let first : a ≡ 0 = parts.0 in
    joined_part area a ns parts.1 ∙ rw (parts.2, first) (take_all (length area - 0) area (omega arith))

-- ---- what is read of bytes holds what was read

pub number_at-below : (s : List ℕ) (p w : ℕ) → ((i : ℕ) → get_or s i 0 < 256) → number_at s p w < 256 ^ w
unfolding number_at
number_at-below s p w bytes = number_below (take w (drop p s)) w (rw length-take (omega arith)) (λ i. go i (ltb i w) refl)
  where
    go : (i : ℕ) (r : Bool) → ltb i w ≡ r → get_or (take w (drop p s)) i 0 < 256
    go i true e = let h : i < w = ltb-true i w e in rw (get_or-take w (drop p s) i 0 h, get_or-drop) (bytes (p + i))
    go i false e =
        let h : w ≤ i = ltb-false i w e in
        let past : length (take w (drop p s)) ≤ i = rw length-take (omega arith) in
        rw (get_or-eq_default (take w (drop p s)) 0 past) (omega arith)

-- ---- lent metadata: how long it is, and what its width holds

abbrev head_of : List ℕ → Names
head_of metadata = record { width = offset_size (at metadata 0); count = name_count metadata; sorted = flag_set (at metadata 0) }

module _ (metadata : List ℕ) (names : Dictionary) (is : dictionary_of metadata ≡ Some names) where
  opens : Opened metadata (head_of metadata)
  opens = record { there = some_there (dictionary_of metadata) is; width = refl; count = refl; sorted = refl }

  read_names : names_in metadata ≡ names
  read_names = let read : Some (names_in metadata) ≡ Some names = sym (opened_names opens) ∙ is in cc

  pub read_count : name_count metadata ≡ length names
  read_count = sym (opened_count opens) ∙ ap length read_names

  pub read_joined : joined names ≡ names_area metadata
  unfolding names_in
  read_joined =
      let count = offsets_length opens in
      ap joined (sym read_names) ∙ joined_cut (name_offsets metadata) (names_area metadata) (lawful metadata opens.there).offsets_good_lem (omega arith)

  pub read_length : length metadata ≡ 1 + offset_size (at metadata 0) + (length names + 1) * offset_size (at metadata 0) + length (joined names)
  read_length =
      let width : ℕ = offset_size (at metadata 0) in
      let head : ℕ = 1 + width + (name_count metadata + 1) * width in
      let there : head ≤ length metadata = opened_there opens in
      let area : names_area metadata ≡ drop head metadata = area_is metadata width (name_count metadata) refl refl in
      let size : length (joined names) ≡ length metadata - head = ap length (read_joined ∙ area) ∙ length-drop head metadata in
      rw (← read_count, size) (omega arith)

  module _ (bytes : (i : ℕ) → get_or metadata i 0 < 256) where
    pub read_count_holds : length names < 256 ^ offset_size (at metadata 0)
    unfolding name_count
    read_count_holds = rw (← read_count) (number_at-below metadata 1 (offset_size (at metadata 0)) bytes)

    pub read_length_holds : length (joined names) < 256 ^ offset_size (at metadata 0)
    read_length_holds =
        let width : ℕ = offset_size (at metadata 0) in
        let count : ℕ = name_count metadata in
        let numbers-there : (count + 1) * width ≤ length (drop (1 + width) metadata) = let l = opened_there opens in rw length-drop (omega arith) in
        let good = good_parts (name_offsets metadata) (names_area metadata) (lawful metadata opens.there).offsets_good_lem in
        let ends : last_of (name_offsets metadata) ≡ get_or (name_offsets metadata) count 0 =
        last_at (name_offsets metadata) count (sym (offsets_length opens)) in
        let number_is : get_or (name_offsets metadata) count 0 ≡ number_at metadata (1 + width + count * width) width =
        ap (λ (ns : List ℕ). get_or ns count 0) (offsets_is metadata width count refl refl)
        ∙ run_at width (count + 1) (drop (1 + width) metadata) count (opened_width opens).0 numbers-there (omega arith)
        ∙ number_drop metadata (1 + width) (count * width) width in
        let whole : length (joined names) ≡ number_at metadata (1 + width + count * width) width =
        ap length read_joined ∙ sym good.2 ∙ ends ∙ number_is in
        rw whole (number_at-below metadata (1 + width + count * width) width bytes)

    -- The names used are all among those of the lent metadata.
    module _ (used : Dictionary) (rise : rising used ≡ true) (contained : (name : List ℕ) → among name used ≡ true → among name names ≡ true) where
      pub width_within : metadata_width used ≤ offset_size (at metadata 0)
      unfolding metadata_width
      width_within =
          let width : ℕ = offset_size (at metadata 0) in
          let most : ℕ = max (length used) (length (joined used)) in
          let few = contained_count used names rise contained in
          let short = contained_length used names rise contained in
          let count_holds = read_count_holds in
          let length-holds = read_length_holds in
          let holds : most < 256 ^ width = omega arith in
          smallest_least most width (opened_width opens).0 holds

      pub never_longer : length (metadata_bytes used) ≤ length metadata
      never_longer =
          let few = contained_count used names rise contained in
          let short = contained_length used names rise contained in
          let narrow = width_within in
          let one : length used + 1 ≤ length names + 1 = omega arith in
          let table : (length used + 1) * metadata_width used ≤ (length names + 1) * offset_size (at metadata 0) = mul-le-mul one narrow in
          rw (metadata_length used, read_length) (omega arith)
