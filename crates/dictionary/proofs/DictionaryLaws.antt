-- Lawful metadata: its rules one by one, what was read of it, and its names.
use Rattle.std.specs.Prelude.{Option, None, Some}
use Rattle.std.proofs.lemmas.Option.{same_Some}
use mathlib.Core.Bool.{Bool, true, false, cond, not, ◌&&◌, ◌||◌}
use mathlib.Core.List.{List, []}
use mathlib.Core.Path.{◌≡◌, refl, sym, ap, ◌∙◌}
use Prim.Native.Nat.{ℕ, ◌+◌, ◌*◌, ◌/◌, ◌%◌, ◌≤◌, ◌<◌}
use native.Mathlib.Omega.{arith}
use borrow.Author.Tests.{leb-true}
use lib.Dec.{leb, ltb, eqb}
use lib.ListN.{length, get_or, drop, length-drop}
use Rattle.dictionary.specs.Judging.{lawful_names, judged_of, Opened}
use Rattle.dictionary.specs.declared.Names.{Names}
use Rattle.numbers.specs.Little.{number_at}
use Rattle.order.specs.Before.{before}
use Rattle.paper.specs.Metadata.{Dictionary, header_good, flag_set, offset_size, rising, offsets_start, name_count, names_start, name_offsets, names_area, names_in, framed, offsets_good, dictionary_of}
use Rattle.paper.specs.Words.{at, is_there, numbers}
use Rattle.dictionary.proofs.ChainLaws.{rising_order}
use Rattle.runs.proofs.NumbersRunLaws.{run_length}
use Rattle.dictionary.proofs.OffsetLaws.{cut_length}
use Rattle.paper.proofs.WordLaws.{there_given, there_some, given_some, and_both}

-- ---- the rules, one by one

and-true : (b : Bool) → b && true ≡ b
and-true true = refl
and-true false = refl

-- The test of all the rules.
pub lawfulness : (m : List ℕ)
    → is_there (dictionary_of m) ≡ ((leb 1 (length m) && header_good (at m 0)) && (framed m && lawful_names (name_offsets m) (names_area m) (flag_set (at m 0))))
unfolding dictionary_of is_there lawful_names names_in
lawfulness m = simp (there_given, and-true)

pub record Lawful (m : List ℕ) : Type 0 where
  pub some_byte : 1 ≤ length m
  pub header : header_good (at m 0) ≡ true
  pub count_there : offsets_start m ≤ length m
  pub offsets_there : names_start m ≤ length m
  pub offsets_good_lem : offsets_good (name_offsets m) (names_area m) ≡ true
  pub in_order : not (flag_set (at m 0)) || rising (names_in m) ≡ true

pub lawful : (m : List ℕ) → is_there (dictionary_of m) ≡ true → Lawful m
unfolding framed lawful_names names_in
lawful m there =
    let a = and_both (leb 1 (length m) && header_good (at m 0)) _ (sym (lawfulness m) ∙ there) in
    let b = and_both (framed m) _ a.1 in
    let c = and_both (offsets_good (name_offsets m) (names_area m)) _ b.1 in
    let head = and_both (leb 1 (length m)) (header_good (at m 0)) a.0 in
    let frame = and_both (leb (offsets_start m) (length m)) (leb (names_start m) (length m)) b.0 in
    record {
      some_byte = leb-true 1 (length m) head.0;
      header = head.1;
      count_there = leb-true (offsets_start m) (length m) frame.0;
      offsets_there = leb-true (names_start m) (length m) frame.1;
      offsets_good_lem = c.0;
      in_order = c.1;
    }

-- ---- where things stand, by the offset size and the count that were read

module _ (m : List ℕ) (w n : ℕ) (width : w ≡ offset_size (at m 0)) (count : n ≡ name_count m) where
  pub start_is : offsets_start m ≡ 1 + w
  unfolding offsets_start
  start_is = rw width

  pub names_start-is : names_start m ≡ 1 + w + (n + 1) * w
  unfolding names_start offsets_start
  names_start-is = rw (width, count)

  pub offsets_is : name_offsets m ≡ numbers w (n + 1) (drop (1 + w) m)
  unfolding name_offsets offsets_start
  offsets_is = rw (width, count)

  pub area_is : names_area m ≡ drop (1 + w + (n + 1) * w) m
  unfolding names_area
  area_is = ap (λ (k : ℕ). drop k m) names_start-is

-- ---- what was read

module _ {m : List ℕ} {d : Names} where
  pub opened : judged_of m ≡ Some d → Opened m d
  unfolding judged_of
  opened = go (is_there (dictionary_of m)) refl
    where
      go : (b : Bool) → is_there (dictionary_of m) ≡ b
          → cond b (Some (record { width = offset_size (at m 0); count = name_count m; sorted = flag_set (at m 0) })) None ≡ Some d
          → Opened m d
      go true e is = record { there = e; width = cc; count = cc; sorted = cc }
      go false e is = absurd (let z : ◌≡◌ {A = ℕ} 0 1 = cc in omega arith)

pub broken : (m : List ℕ) → judged_of m ≡ None → dictionary_of m ≡ None
unfolding judged_of is_there
broken m = go (dictionary_of m)
  where
    go : (x : Option Dictionary)
        → cond {A = Option Names} (is_there x) (Some (record { width = offset_size (at m 0); count = name_count m; sorted = flag_set (at m 0) })) None ≡ None
        → x ≡ None
    go None is = refl
    go (Some names) is = absurd (let z : ◌≡◌ {A = ℕ} 0 1 = cc in omega arith)

module _ {m : List ℕ} {d : Names} (o : Opened m d) where
  pub opened_names : dictionary_of m ≡ Some (names_in m)
  unfolding dictionary_of
  opened_names =
      let is = (there_some (dictionary_of m) o.there).1 in
      is ∙ sym (given_some _ _ (given_some _ _ (given_some _ _ (given_some _ _ is).1).1).1).1

  -- The offset size is one at least, and, of a byte, four at most.
  pub opened_width : (1 ≤ d.width) × (at m 0 < 256 → d.width ≤ 4)
  unfolding offset_size
  opened_width = let e = o.width in (omega arith, λ h. omega arith)

  pub opened_there : 1 + d.width + (d.count + 1) * d.width ≤ length m
  opened_there =
      let l = lawful m o.there in
      let e = names_start-is m d.width d.count o.width o.count in
      omega arith

  pub offsets_length : length (name_offsets m) ≡ d.count + 1
  offsets_length =
      let h = opened_there in
      rw (offsets_is m d.width d.count o.width o.count)
      (run_length d.width (d.count + 1) (drop (1 + d.width) m) opened_width.0 (rw length-drop (omega arith)))

  pub opened_count : length (names_in m) ≡ d.count
  unfolding names_in
  opened_count = let e = offsets_length in let f = cut_length (names_area m) (name_offsets m) in omega arith

  pub opened_rising : d.sorted ≡ true → rising (names_in m) ≡ true
  opened_rising set = rw (sym o.sorted ∙ set) at (lawful m o.there).in_order

  pub sorted_before : (i j : ℕ) → d.sorted ≡ true → i < d.count → j < d.count → ltb i j ≡ before (get_or (names_in m) i []) (get_or (names_in m) j [])
  sorted_before i j set h k = let size = opened_count in rising_order (names_in m) i j (omega arith) (omega arith) (opened_rising set)

-- The names of metadata that keeps its rules.
pub names_told : (m : List ℕ) (names : Dictionary) → dictionary_of m ≡ Some names → names_in m ≡ names
unfolding dictionary_of
names_told m names is = same_Some (names_in m) names (given_some _ _ (given_some _ _ (given_some _ _ (given_some _ _ is).1).1).1).1

-- ---- what is read of metadata that keeps its rules

module _ (m : List ℕ) (there : is_there (dictionary_of m) ≡ true) where
  pub first_there : 0 < length m
  first_there = let some_byte = (lawful m there).some_byte in omega arith

  module _ {header : ℕ} (is : header ≡ at m 0) where
    pub count_there : header < 256 → (1 + (header / 64 + 1) ≤ length m) × (1 ≤ header / 64 + 1) × (header / 64 + 1 ≤ 4)
    unfolding offsets_start offset_size
    count_there byte = let inside = (lawful m there).count_there in (rw is inside, omega arith, omega arith)

    pub names_opened : {count : ℕ} → count ≡ number_at m 1 (header / 64 + 1)
        → Opened m (record { width = header / 64 + 1; count = count; sorted = eqb (header / 16 % 2) 1 })
    unfolding offset_size name_count flag_set
    names_opened {count} counted = record { there = there; width = rw is; count = counted ∙ rw is; sorted = rw is }
