-- Normal metadata: how long it is, and that it is read back as the names that it was written for.
use Rattle.std.specs.Prelude.{Some}
use mathlib.Core.Bool.{true, not, ◌&&◌, ◌||◌}
use mathlib.Core.List.{List, ◌++◌}
use mathlib.Core.Path.{◌≡◌, refl, sym, ap, ◌∙◌}
use Prim.Native.Nat.{ℕ, suc, ◌+◌, ◌*◌, ◌-◌, ◌/◌, ◌%◌, ◌^◌, ◌≤◌, ◌<◌, max}
use native.Mathlib.Nat.{le-max_left, le-max_right, zero-add}
use native.Mathlib.Numerals.{add-one}
use native.Mathlib.Omega.{arith}
use borrow.Author.Tests.{le-leb, eq-eqb}
use lib.Dec.{leb}
use lib.ListN.{length, drop, length-append}
use lib.Seq.{drop_at, drop-drop}
use Rattle.numbers.specs.Little.{number_bytes, number_at, smallest_width}
use Rattle.paper.specs.Metadata.{Dictionary, header_good, flag_set, offset_size, rising, offsets_start, name_count, names_start, name_offsets, names_area, names_in, framed, offsets_good, dictionary_of}
use Rattle.paper.specs.Normal.{offsets_from, numbers_bytes, metadata_width, metadata_bytes}
use Rattle.paper.specs.Words.{at, all_below, joined}
use Rattle.dictionary.proofs.DictionaryLaws.{start_is, names_start-is, offsets_is, area_is}
use Rattle.names.proofs.RunLaws.{numbers_bytes-length, number_back, numbers_back, offsets_length, offsets_below, parts_cut, offsets_good_lem}
use Rattle.names.proofs.SameLaws.{or_second}
use Rattle.numbers.proofs.NumberLaws.{length-number_bytes}
use Rattle.numbers.proofs.WidthLaws.{smallest_holds, smallest_bounds}
use Rattle.paper.proofs.WordLaws.{given_passed}

pub metadata_length : (names : Dictionary)
    → length (metadata_bytes names) ≡ 1 + metadata_width names + (length names + 1) * metadata_width names + length (joined names)
unfolding metadata_bytes
metadata_length names =
    let more : length names + 1 ≡ suc (length names) = omega arith in
    rw (length-append, length-append, length-number_bytes, numbers_bytes-length, offsets_length, more) (omega arith)

module _ (names : Dictionary) where
  -- The width is one to four, and holds the count and the length of the names.
  pub width_bounds : (1 ≤ metadata_width names) × (metadata_width names ≤ 4)
  unfolding metadata_width
  width_bounds = smallest_bounds (max (length names) (length (joined names)))

  module _ (few : length names < 2 ^ 32) (short : length (joined names) < 2 ^ 32) where
    pub width_holds : (length names < 256 ^ metadata_width names) × (length (joined names) < 256 ^ metadata_width names)
    unfolding metadata_width
    width_holds =
        let most : ℕ = max (length names) (length (joined names)) in
        let bound : 2 ^ 32 ≡ 256 ^ 4 = refl in
        let left : length names ≤ most = le-max_left (length names) (length (joined names)) in
        let right : length (joined names) ≤ most = le-max_right (length names) (length (joined names)) in
        let both : most < 256 ^ 4 = omega arith in
        let all : most < 256 ^ smallest_width most = smallest_holds most both in
        (omega arith, omega arith)

  -- What is written in the header, ..
  header_is : at (metadata_bytes names) 0 ≡ 17 + 64 * (metadata_width names - 1)
  unfolding metadata_bytes
  header_is = refl

  header_good_lem : header_good (at (metadata_bytes names) 0) ≡ true
  unfolding header_good
  header_good_lem =
      let h = header_is in
      rw (eq-eqb (at (metadata_bytes names) 0 % 16) 1 (omega arith), eq-eqb (at (metadata_bytes names) 0 / 32 % 2) 0 (omega arith))

  pub flag_set_lem : flag_set (at (metadata_bytes names) 0) ≡ true
  unfolding flag_set
  flag_set_lem = let h = header_is in eq-eqb (at (metadata_bytes names) 0 / 16 % 2) 1 (omega arith)

  pub size_is : metadata_width names ≡ offset_size (at (metadata_bytes names) 0)
  unfolding offset_size
  size_is = let h = header_is in let b = width_bounds in omega arith

  -- .. and behind it.
  behind_header : drop 1 (metadata_bytes names)
      ≡ number_bytes (metadata_width names) (length names) ++ (numbers_bytes (metadata_width names) (offsets_from 0 names) ++ joined names)
  unfolding metadata_bytes
  behind_header = refl

  behind_count : drop (1 + metadata_width names) (metadata_bytes names) ≡ numbers_bytes (metadata_width names) (offsets_from 0 names) ++ joined names
  behind_count =
      sym (drop-drop (metadata_width names) 1 (metadata_bytes names)) ∙ ap (drop (metadata_width names)) behind_header
      ∙ drop_at (number_bytes (metadata_width names) (length names)) _ (metadata_width names) (length-number_bytes (metadata_width names) (length names))

  behind_offsets : drop (1 + metadata_width names + (length names + 1) * metadata_width names) (metadata_bytes names) ≡ joined names
  behind_offsets =
      let width : ℕ = metadata_width names in
      let one : length (offsets_from 0 names) ≡ length names + 1 = rw add-one (offsets_length 0 names) in
      let size : length (numbers_bytes width (offsets_from 0 names)) ≡ (length names + 1) * width =
      numbers_bytes-length width (offsets_from 0 names) ∙ ap (λ (n : ℕ). n * width) one in
      sym (drop-drop ((length names + 1) * width) (1 + width) (metadata_bytes names)) ∙ ap (drop ((length names + 1) * width)) behind_count
      ∙ drop_at (numbers_bytes width (offsets_from 0 names)) (joined names) ((length names + 1) * width) size

  module _ (few : length names < 2 ^ 32) (short : length (joined names) < 2 ^ 32) where
    pub count_is : length names ≡ name_count (metadata_bytes names)
    unfolding name_count number_at
    count_is =
        let width : ℕ = metadata_width names in
        let count : number_at (number_bytes width (length names) ++ (numbers_bytes width (offsets_from 0 names) ++ joined names)) 0 width ≡ length names =
        number_back width (length names) (numbers_bytes width (offsets_from 0 names) ++ joined names) (width_holds few short).0 in
        rw (← size_is, behind_header) (sym count)

    pub offsets_are : name_offsets (metadata_bytes names) ≡ offsets_from 0 names
    offsets_are =
        let width : ℕ = metadata_width names in
        let one : length names + 1 ≡ length (offsets_from 0 names) = rw add-one (sym (offsets_length 0 names)) in
        let below : all_below (256 ^ width) (offsets_from 0 names) ≡ true =
        offsets_below 0 (256 ^ width) names (rw zero-add (width_holds few short).1) in
        offsets_is (metadata_bytes names) width (length names) size_is count_is
        ∙ rw (behind_count, one) (numbers_back width (offsets_from 0 names) (joined names) width_bounds.0 below)

    pub area_joined : names_area (metadata_bytes names) ≡ joined names
    area_joined = area_is (metadata_bytes names) (metadata_width names) (length names) size_is count_is ∙ behind_offsets

    pub names_back : names_in (metadata_bytes names) ≡ names
    unfolding names_in
    names_back = rw (offsets_are, area_joined) (parts_cut names)

    frame_there : framed (metadata_bytes names) ≡ true
    unfolding framed
    frame_there =
        let m : List ℕ = metadata_bytes names in
        let start = start_is m (metadata_width names) (length names) size_is count_is in
        let end = names_start-is m (metadata_width names) (length names) size_is count_is in
        let size = metadata_length names in
        rw (le-leb (offsets_start m) (length m) (omega arith), le-leb (names_start m) (length m) (omega arith))

-- It is read back, by a reader that finds the flag set and so asks that the names rise.
pub metadata_back : (names : Dictionary) → rising names ≡ true → length names < 2 ^ 32 → length (joined names) < 2 ^ 32
    → dictionary_of (metadata_bytes names) ≡ Some names
unfolding dictionary_of
metadata_back names rise few short =
    let m : List ℕ = metadata_bytes names in
    let back : names_in m ≡ names = names_back names few short in
    let size = metadata_length names in
    let good : offsets_good (name_offsets m) (names_area m) ≡ true =
    rw (offsets_are names few short, area_joined names few short) (offsets_good_lem names) in
    let order : not (flag_set (at m 0)) || rising (names_in m) ≡ true = or_second (not (flag_set (at m 0))) (rising (names_in m)) (rw back rise) in
    given_passed (leb 1 (length m) && header_good (at m 0)) _ (rw (le-leb 1 (length m) (omega arith)) (header_good_lem names))
    ∙ given_passed (framed m) _ (frame_there names few short)
    ∙ given_passed (offsets_good (name_offsets m) (names_area m)) _ good
    ∙ given_passed (not (flag_set (at m 0)) || rising (names_in m)) _ order
    ∙ ap Some back
