-- A word: that each of its parts is read back from its bits, as the header's macros do, and that it fits 64 bits.
use mathlib.Core.Bool.{true, ◌&&◌}
use mathlib.Core.Path.{◌≡◌}
use Prim.Native.Nat.{ℕ, ◌/◌, ◌%◌, ◌^◌, ◌<◌}
use native.Mathlib.Omega.{arith}
use borrow.Author.Tests.{ltb-true}
use lib.Dec.{ltb}
use Rattle.paper.specs.Answers.{Carried, done, absent, refusal, short, number_of, present_of}
use Rattle.paper.specs.Refusals.{refusal_number}
use Rattle.paper.specs.declared.Refusal.TheVariants.{TooLong, BadMetadata, BadValue, BadSchema, BadPath, BadRow, BrokenRule, TooLarge}
use Rattle.paper.specs.declared.Refusal.{Refusal}
use Rattle.words.specs.Boundary.{word, part, word_with, has_room}
use Rattle.paper.proofs.WordLaws.{and_both}

-- Two parts that are tested to have room.
parts_fit : (first second : ℕ) → ltb first (2 ^ 24) && ltb second (2 ^ 24) ≡ true → (first < 2 ^ 24) × (second < 2 ^ 24)
parts_fit first second e =
    let both = and_both (ltb first (2 ^ 24)) (ltb second (2 ^ 24)) e in
    (ltb-true first (2 ^ 24) both.0, ltb-true second (2 ^ 24) both.1)

-- ---- what the header's macros read of a word

pub record Parts (whole number present first second : ℕ) : Type 0 where
  pub fits : whole < 2 ^ 64
  pub number_is : whole % 256 ≡ number
  pub present_is : whole / 256 % 2 ≡ present
  pub unused : whole / 512 % 128 ≡ 0
  pub first_is : whole / 2 ^ 16 % 2 ^ 24 ≡ first
  pub second_is : whole / 2 ^ 40 ≡ second

word_parts : (number present first second : ℕ) → number < 256 → present < 2 → first < 2 ^ 24 → second < 2 ^ 24
    → Parts (word number present first second) number present first second
word_parts number present first second n p f s =
    record {
      fits = omega arith;
      number_is = omega arith;
      present_is = omega arith;
      unused = omega arith;
      first_is = omega arith;
      second_is = omega arith;
    }

-- The number and the values of an answer, as far as its word has them.
pub answer_parts : (count : ℕ) (carried : Carried) → has_room count carried ≡ true
    → Parts (word_with count carried) (number_of carried) (present_of carried) (part count carried 0) (part count carried 1)
answer_parts count carried room =
    let fit = parts_fit (part count carried 0) (part count carried 1) room in
    word_parts (number_of carried) (present_of carried) _ _ (number_small carried) (present_small carried) fit.0 fit.1
  where
    refusal_small : (r : Refusal) → refusal_number r < 256
    refusal_small TooLong = omega arith
    refusal_small BadMetadata = omega arith
    refusal_small BadValue = omega arith
    refusal_small BadSchema = omega arith
    refusal_small BadPath = omega arith
    refusal_small BadRow = omega arith
    refusal_small BrokenRule = omega arith
    refusal_small TooLarge = omega arith

    number_small : (carried : Carried) → number_of carried < 256
    number_small (done values) = omega arith
    number_small absent = omega arith
    number_small (refusal r) = refusal_small r
    number_small (short needed) = omega arith

    present_small : (carried : Carried) → present_of carried < 2
    present_small (done values) = omega arith
    present_small absent = omega arith
    present_small (refusal r) = omega arith
    present_small (short needed) = omega arith
