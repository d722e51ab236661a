-- A table of numbers and conditions, as 01 has one, and when a number is given by it.
use Rattle.std.specs.Prelude.{Bool, true, false, ◌&&◌, ◌||◌, List, [], ◌∷◌, ◌≡◌, ℕ, ◌<◌, eqb, Option, None, Some}

-- A line of a table: a number, and whether its condition holds.
pub record Line : Type 0 where
  pub number : ℕ
  pub holds : Bool

infix 5 ◌when◌
abbrev pub ◌when◌ : ℕ → Bool → Line
number when holds = record { number = number; holds = holds }

-- The condition of a number holds. It does not where the table has no such number.
unfoldable pub condition : List Line → (number : ℕ) → Bool
condition [] number = false
condition (line ∷ more) number = (eqb line.number number && line.holds) || condition more number

-- "Given exactly when", and "where several apply, the lowest number is given": the number's own condition holds and no lower
-- one does; it is 0 where none holds.
pub record GivenExactly (table : List Line) (number : ℕ) : Type 0 where
  pub own_holds : (number ≡ 0 → ⊥) → condition table number ≡ true
  pub no_lower : (lower : ℕ) → lower < number → condition table lower ≡ false
  pub none_holds : number ≡ 0 → (any : ℕ) → condition table any ≡ false

-- A table gives one number.
abbrev pub OneNumber : Type 0
OneNumber = (table : List Line) (number other : ℕ) → GivenExactly table number → GivenExactly table other → number ≡ other

-- A test of something that may not be there. Where it is not, the test does not apply, and is no reason to refuse.
unfoldable pub of_it : {A : Type 0} → Option A → (A → Bool) → Bool
of_it None test = false
of_it (Some a) test = test a
