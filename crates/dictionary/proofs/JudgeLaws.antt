-- What each test on metadata answers, in the order of the tests.
use Rattle.std.specs.Prelude.{Some, None}
use mathlib.Core.Bool.{Bool, true, false, not}
use mathlib.Core.List.{List}
use mathlib.Core.Path.{◌≡◌, refl, sym, ap, ◌∙◌}
use Prim.Native.Nat.{ℕ, ◌+◌, ◌*◌, ◌/◌, ◌%◌, ◌^◌, ◌≤◌, ◌<◌}
use native.Mathlib.Omega.{arith}
use borrow.Author.Tests.{le-leb, lt-leb, eq-eqb, ne_eqb, not-true, not-false}
use lib.Dec.{leb, eqb}
use lib.ListN.{length}
use Rattle.dictionary.specs.Judging.{lawful_names, judged_of}
use Rattle.numbers.specs.Little.{number_at}
use Rattle.paper.specs.Metadata.{header_good, flag_set, offset_size, cut_at, rising, offsets_start, name_count, names_start, name_offsets, names_area, framed, offsets_good, dictionary_of}
use Rattle.paper.specs.Words.{at, is_there, numbers}
use Rattle.dictionary.proofs.DictionaryLaws.{lawfulness, start_is, names_start-is, offsets_is, area_is}
use Rattle.runs.proofs.NumbersRunLaws.{rest, rest_is}

-- ---- offsets and names

module _ (ns area : List ℕ) (flag b : Bool) (answer : b ≡ offsets_good ns area) where
  pub offsets_bad : not b ≡ true → false ≡ lawful_names ns area flag
  unfolding lawful_names
  offsets_bad e = rw (← answer, not-true b e)

  module _ (good : not b ≡ false) where
    pub any_order : not flag ≡ true → true ≡ lawful_names ns area flag
    unfolding lawful_names
    any_order e = rw (← answer, not-false b good, e)

    pub by_order : not flag ≡ false → (r : Bool) → r ≡ rising (cut_at area ns) → r ≡ lawful_names ns area flag
    unfolding lawful_names
    by_order e r rises = rw (← answer, not-false b good, e) rises

-- ---- the whole

module _ (m : List ℕ) where
  breaks : is_there (dictionary_of m) ≡ false → None ≡ judged_of m
  unfolding judged_of
  breaks e = rw e

  pub judge_empty : length m ≡ 0 → None ≡ judged_of m
  judge_empty none = breaks (lawfulness m ∙ rw (lt-leb 1 (length m) (omega arith)))

  module _ (some : length m ≡ 0 → ⊥) (h : ℕ) (is : (h ≡ at m 0) × (h < 256)) where
    some_byte : leb 1 (length m) ≡ true
    some_byte = le-leb 1 (length m) (omega arith)

    pub judge_version : (h % 16 ≡ 1 → ⊥) → None ≡ judged_of m
    unfolding header_good
    judge_version ne = breaks (lawfulness m ∙ rw (some_byte, ← is.0, ne_eqb (h % 16) 1 ne))

    pub judge_bit : h % 16 ≡ 1 → (h / 32 % 2 ≡ 0 → ⊥) → None ≡ judged_of m
    unfolding header_good
    judge_bit e ne = breaks (lawfulness m ∙ rw (some_byte, ← is.0, eq-eqb (h % 16) 1 e, ne_eqb (h / 32 % 2) 0 ne))

    module _ (version : h % 16 ≡ 1) (bit : h / 32 % 2 ≡ 0) where
      header_good_lem : header_good (at m 0) ≡ true
      unfolding header_good
      header_good_lem = rw (← is.0, eq-eqb (h % 16) 1 version, eq-eqb (h / 32 % 2) 0 bit)

      width_is : h / 64 + 1 ≡ offset_size (at m 0)
      unfolding offset_size
      width_is = rw is.0

      start_at : offsets_start m ≡ 1 + (h / 64 + 1)
      start_at = start_is m (h / 64 + 1) (name_count m) width_is refl

      pub judge_short : length m < 1 + (h / 64 + 1) → None ≡ judged_of m
      unfolding framed
      judge_short lt =
          breaks (lawfulness m ∙ rw (some_byte, header_good_lem, start_at, lt-leb (1 + (h / 64 + 1)) (length m) lt))

      module _ (long : 1 + (h / 64 + 1) ≤ length m) (n : ℕ) (reads : (n ≡ number_at m 1 (h / 64 + 1)) × (n < 256 ^ (h / 64 + 1))) where
        count_is : n ≡ name_count m
        unfolding name_count
        count_is = reads.0 ∙ ap (λ (w : ℕ). number_at m 1 w) width_is

        names_at : names_start m ≡ 1 + (h / 64 + 1) + (n + 1) * (h / 64 + 1)
        names_at = names_start-is m (h / 64 + 1) n width_is count_is

        pub judge_cut : length m < 1 + (h / 64 + 1) + (n + 1) * (h / 64 + 1) → None ≡ judged_of m
        unfolding framed
        judge_cut lt =
            breaks (lawfulness m ∙ rw (some_byte, header_good_lem, start_at, le-leb (1 + (h / 64 + 1)) (length m) long, names_at, lt-leb (1 + (h / 64 + 1) + (n + 1) * (h / 64 + 1)) (length m) lt))

        -- The offsets and the names, as the two parts of the metadata that are handed on.
        module _ (there : 1 + (h / 64 + 1) + (n + 1) * (h / 64 + 1) ≤ length m) where
          framed_is : framed m ≡ true
          unfolding framed
          framed_is = rw (start_at, le-leb (1 + (h / 64 + 1)) (length m) long, names_at, le-leb (1 + (h / 64 + 1) + (n + 1) * (h / 64 + 1)) (length m) there)

          abbrev run : List ℕ
          run = rest m (1 + (h / 64 + 1))

          abbrev area : List ℕ
          area = rest m (1 + (h / 64 + 1) + (n + 1) * (h / 64 + 1))

          run_is : numbers (h / 64 + 1) (n + 1) run ≡ name_offsets m
          run_is = rw rest_is (sym (offsets_is m (h / 64 + 1) n width_is count_is))

          area_of : area ≡ names_area m
          area_of = rest_is m (1 + (h / 64 + 1) + (n + 1) * (h / 64 + 1)) ∙ sym (area_is m (h / 64 + 1) n width_is count_is)

          module _ (b : Bool) (answer : b ≡ lawful_names (numbers (h / 64 + 1) (n + 1) run) area (eqb (h / 16 % 2) 1)) where
            flag_is : flag_set (at m 0) ≡ eqb (h / 16 % 2) 1
            unfolding flag_set
            flag_is = rw is.0

            decides : is_there (dictionary_of m) ≡ b
            decides = lawfulness m ∙ rw (some_byte, header_good_lem, framed_is, flag_is, ← run_is, ← area_of) (sym answer)

            pub judge_good : b ≡ true → Some (record { width = h / 64 + 1; count = n; sorted = eqb (h / 16 % 2) 1 }) ≡ judged_of m
            unfolding judged_of
            judge_good e = rw (decides ∙ e) (let w = width_is in let c = count_is in let f = flag_is in cc)

            pub judge_bad : b ≡ false → None ≡ judged_of m
            judge_bad e = breaks (decides ∙ e)
