-- Small words that the definitions share. A byte is a number below 256, and bytes are a list of them.
use Rattle.std.specs.Prelude.{Bool, true, false, ◌&&◌, ◌||◌, List, [], ◌∷◌, ◌++◌, ℕ, zero, suc, ◌-◌, ltb, eqb, get_or, take, drop, Option, None, Some}
use Rattle.numbers.specs.Little.{number}

-- The byte, or number, at a place; 0 past the end.
abbrev pub at : List ℕ → ℕ → ℕ
at s i = get_or s i 0

-- The bytes from one place up to another.
abbrev pub part : List ℕ → ℕ → ℕ → List ℕ
part s from to = take (to - from) (drop from s)

-- Something that is there only if a test passes.
unfoldable pub given : {A : Type 0} → Bool → Option A → Option A
given true x = x
given false x = None

-- 1 if a test passes, else 0.
unfoldable pub one_if : Bool → ℕ
one_if true = 1
one_if false = 0

-- It is there.
unfoldable pub is_there : {A : Type 0} → Option A → Bool
is_there None = false
is_there (Some a) = true

-- What comes of something, if it is there.
unfoldable pub and_then : {A B : Type 0} → Option A → (A → Option B) → Option B
and_then None next = None
and_then (Some a) next = next a

-- Numbers of one width that stand one after another: so many, as far as the bytes go.
unfoldable pub numbers : ℕ → ℕ → List ℕ → List ℕ
numbers width zero s = []
numbers width (suc count) [] = []
numbers width (suc count) (byte ∷ s) = number (take width (byte ∷ s)) ∷ numbers width count (drop width (byte ∷ s))

-- The last of some numbers; 0 of none.
unfoldable pub last_of : List ℕ → ℕ
last_of [] = 0
last_of (n ∷ []) = n
last_of (n ∷ m ∷ ns) = last_of (m ∷ ns)

-- Each of some numbers is below a bound.
unfoldable pub all_below : ℕ → List ℕ → Bool
all_below bound [] = true
all_below bound (n ∷ ns) = ltb n bound && all_below bound ns

-- Two byte strings are the same.
unfoldable pub same : List ℕ → List ℕ → Bool
same [] [] = true
same [] (y ∷ ys) = false
same (x ∷ xs) [] = false
same (x ∷ xs) (y ∷ ys) = eqb x y && same xs ys

-- A name is among some.
unfoldable pub among : List ℕ → List (List ℕ) → Bool
among name [] = false
among name (first ∷ more) = same first name || among name more

-- Byte strings one after another.
unfoldable pub joined : List (List ℕ) → List ℕ
joined [] = []
joined (s ∷ more) = s ++ joined more
