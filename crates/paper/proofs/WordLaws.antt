-- Laws of the small words: how tests and things that are there or not there go together.
use Rattle.std.specs.Prelude.{Option, None, Some}
use mathlib.Core.Path.{◌≡◌, refl, sym, ap}
use mathlib.Core.Bool.{Bool, true, false, ◌&&◌}
use Prim.Native.Nat.{ℕ}
use native.Mathlib.Omega.{arith}
use Rattle.paper.specs.Words.{given, and_then, is_there}

-- Two truths that differ prove anything.
pub never : {A : Type 0} → true ≡ false → A
never e = let z : ◌≡◌ {A = ℕ} 0 1 = cc in absurd (omega arith)

module _ {A : Type 0} where
  pub there_given : (b : Bool) (x : Option A) → is_there (given b x) ≡ b && is_there x
  unfolding is_there given
  there_given true x = refl
  there_given false x = refl

  pub given_passed : (b : Bool) (x : Option A) → b ≡ true → given b x ≡ x
  unfolding given
  given_passed true x e = refl
  given_passed false x e = never (sym e)

  pub given_failed : (b : Bool) (x : Option A) → b ≡ false → given b x ≡ None
  unfolding given
  given_failed true x e = never e
  given_failed false x e = refl

  -- What is given was there, and its test passed.
  pub given_some : (b : Bool) (x : Option A) {a : A} → given b x ≡ Some a → (b ≡ true) × (x ≡ Some a)
  unfolding given is_there
  given_some true x e = (refl, e)
  given_some false x e = never (sym (ap is_there e))

  pub there_some : (x : Option A) → is_there x ≡ true → (a : A) × (x ≡ Some a)
  unfolding is_there
  there_some None e = never (sym e)
  there_some (Some a) e = (a, refl)

  pub some_there : (x : Option A) {a : A} → x ≡ Some a → is_there x ≡ true
  unfolding is_there
  some_there x e = ap is_there e

module _ {A B : Type 0} where
  pub then_some : (x : Option A) (next : A → Option B) {b : B} → and_then x next ≡ Some b → (a : A) × (x ≡ Some a) × (next a ≡ Some b)
  unfolding and_then is_there
  then_some None next e = never (sym (ap is_there e))
  then_some (Some a) next e = (a, refl, e)

  -- Going on with something loses nothing where the next step is always there.
  pub there_then : (x : Option A) (next : A → Option B) → ((a : A) → is_there (next a) ≡ true) → is_there (and_then x next) ≡ is_there x
  unfolding and_then is_there
  there_then None next always = refl
  there_then (Some a) next always = always a

-- Both of two tests.
pub and_both : (a b : Bool) → a && b ≡ true → (a ≡ true) × (b ≡ true)
and_both true b e = (refl, e)
and_both false b e = never (sym e)
