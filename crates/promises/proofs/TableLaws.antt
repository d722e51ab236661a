-- A table whose numbers rise gives the number of the first line that holds. What an operation comes to is such a number: a test
-- that it requires, or a thing that it obtains, is a line of the table, and what follows is the rest.
use Rattle.std.specs.Prelude.{Option, None, Some, Err, Ok}
use mathlib.Core.Bool.{Bool, true, false, cond, not, ◌&&◌, ◌||◌, and-false}
use mathlib.Core.List.{List, [], ◌∷◌}
use mathlib.Core.Path.{◌≡◌, refl, sym, ◌∙◌}
use Prim.Native.Nat.{ℕ, ◌≤◌, ◌<◌}
use native.Mathlib.Omega.{arith}
use borrow.Author.Tests.{ltb-true, ltb-false, ne_eqb, eq-eqb, eqb-true, eqb-false, leb-true, leb-false, lt-ltb, le-ltb}
use lib.Dec.{leb, ltb, eqb}
use Rattle.paper.specs.Refusals.{Outcome, require, obtain, refusal_number}
use Rattle.paper.specs.Words.{is_there}
use Rattle.paper.specs.declared.Refusal.{Refusal}
use Rattle.paper.proofs.WordLaws.{never, and_both}
use Rattle.promises.specs.Tables.{Line, ◌when◌, condition, GivenExactly, OneNumber}

-- ---- the first line that holds

unfoldable pub first : List Line → ℕ
first [] = 0
first (line ∷ more) = cond line.holds line.number (first more)

-- The numbers of a table rise from a number on.
unfoldable pub rise : ℕ → List Line → Bool
rise from [] = true
rise from (line ∷ more) = ltb from line.number && rise line.number more

-- A number that is not above all that came before is in no line.
low : (from : ℕ) (table : List Line) → rise from table ≡ true → (k : ℕ) → k ≤ from → condition table k ≡ false
unfolding rise condition
low from [] rises k h = refl
low from (line ∷ more) rises k h =
    let both = and_both (ltb from line.number) (rise line.number more) rises in
    let above = ltb-true from line.number both.0 in
    rw (ne_eqb line.number k (λ e. omega (arith, e)), low line.number more both.1 k (omega arith))

-- A line whose condition does not hold gives nothing.
passed : (line : Line) (more : List Line) (k : ℕ) → line.holds ≡ false → condition (line ∷ more) k ≡ condition more k
unfolding condition
passed line more k is = rw (is, and-false (eqb line.number k))

pub first_given : (from : ℕ) (table : List Line) → rise from table ≡ true → GivenExactly table (first table)
unfolding rise condition first
first_given from [] rises = record { own_holds = λ Some-number. absurd (Some-number refl); no_lower = λ k h. refl; none_holds = λ e k. refl }
first_given from (line ∷ more) rises =
    let both = and_both (ltb from line.number) (rise line.number more) rises in
    go line.holds refl (ltb-true from line.number both.0) (low line.number more both.1) (first_given line.number more both.1)
  where
    go : (b : Bool) → line.holds ≡ b → from < line.number → ((k : ℕ) → k ≤ line.number → condition more k ≡ false) → GivenExactly more (first more)
        → GivenExactly (line ∷ more) (cond b line.number (first more))
    go true is above lower rest =
        record {
          own_holds = λ Some-number. rw (eq-eqb line.number line.number refl, is);
          no_lower = λ k h. rw (ne_eqb line.number k (λ e. omega (arith, e)), lower k (omega arith));
          none_holds = λ e. absurd (omega (arith, e));
        }
    go false is above lower rest =
        record {
          own_holds = λ Some-number. passed line more (first more) is ∙ rest.own_holds Some-number;
          no_lower = λ k h. passed line more k is ∙ rest.no_lower k h;
          none_holds = λ e k. passed line more k is ∙ rest.none_holds e k;
        }

-- No number below another is given with it.
none_below : (table : List Line) (a b : ℕ) → GivenExactly table a → GivenExactly table b → a < b → ⊥
none_below table a b given-a given-b h = go (eqb a 0) refl
  where
    go : (zero_is : Bool) → eqb a 0 ≡ zero_is → ⊥
    go true e =
        let own : condition table b ≡ true = given-b.own_holds (λ f. omega arith) in
        never (sym own ∙ given-a.none_holds (eqb-true a 0 e) b)
    go false e = never (sym (given-a.own_holds (eqb-false a 0 e)) ∙ given-b.no_lower a h)

pub one_number : OneNumber
one_number table a b given-a given-b = go (ltb a b) (ltb b a) refl refl
  where
    go : (p q : Bool) → ltb a b ≡ p → ltb b a ≡ q → a ≡ b
    go true q e f = absurd (none_below table a b given-a given-b (ltb-true a b e))
    go false true e f = absurd (none_below table b a given-b given-a (ltb-true b a f))
    go false false e f =
        let up = ltb-false a b e in
        let down = ltb-false b a f in
        omega arith

-- ---- what an operation comes to, as a number: its refusal's, or that of what it reached

unfoldable pub comes_to : {A : Type 0} → (A → ℕ) → Outcome A → ℕ
comes_to last (Err r) = refusal_number r
comes_to last (Ok a) = last a

-- It comes to the number that a table gives.
pub record Gives {A : Type 0} (last : A → ℕ) (outcome : Outcome A) (table : List Line) : Type 0 where
  pub number_is : comes_to last outcome ≡ first table

module _ {A : Type 0} {last : A → ℕ} (refusal : Refusal) {rest : List Line} where
  pub require_line : (test : Bool) (fails : Bool) → fails ≡ not test → (next : Outcome A) → (test ≡ true → Gives last next rest)
      → Gives last (require test refusal next) ((refusal_number refusal when fails) ∷ rest)
  unfolding require comes_to first
  require_line true fails e next goes = record { number_is = rw e (goes refl).number_is }
  require_line false fails e next goes = record { number_is = rw e }

  pub obtain_line : {B : Type 0} (x : Option B) (fails : Bool) → fails ≡ not (is_there x) → (next : B → Outcome A)
      → ((b : B) → x ≡ Some b → Gives last (next b) rest) → Gives last (obtain x refusal next) ((refusal_number refusal when fails) ∷ rest)
  unfolding obtain comes_to first is_there
  obtain_line None fails e next goes = record { number_is = rw e }
  obtain_line (Some b) fails e next goes = record { number_is = rw e (goes b refl).number_is }

-- At the end of the table: done, or, where the last line holds, its number.
module _ {A : Type 0} {last : A → ℕ} (a : A) where
  pub nothing_left : last a ≡ 0 → Gives last (Ok a) []
  unfolding comes_to first
  nothing_left e = record { number_is = e }

  pub last_line : (line : Line) → last a ≡ cond line.holds line.number 0 → Gives last (Ok a) (line ∷ [])
  unfolding comes_to first
  last_line line e = record { number_is = e }

-- ---- tests as the operations make them, and as the tables say them

pub longer_not : (most size : ℕ) → ltb most size ≡ not (leb size most)
longer_not most size = go (leb size most) refl
  where
    go : (b : Bool) → leb size most ≡ b → ltb most size ≡ not b
    go true e = le-ltb most size (leb-true size most e)
    go false e = lt-ltb most size (leb-false size most e)

pub either_not : {a b : Bool} (c d : Bool) → a ≡ not c → b ≡ not d → a || b ≡ not (c && d)
either_not true d e f = rw (e, f)
either_not false d e f = rw e
