-- A rule of a constant table, shown at all of its entries by one test that is computed over the whole table.
use mathlib.Core.Bool.{Bool, true, false, ◌&&◌}
use mathlib.Core.List.{List, [], ◌∷◌}
use mathlib.Core.Path.{◌≡◌, refl}
use Prim.Native.Nat.{ℕ, zero, suc, ◌+◌, ◌<◌}
use native.Mathlib.Nat.{add-zero, zero-add, add-suc, suc-add}
use native.Mathlib.Omega.{arith}
use lib.ListN.{length, get_or}

-- The test passes at each entry of the table with its place, counted from `from`.
abbrev pub every : (ℕ → ℕ → Bool) → ℕ → List ℕ → Bool
every test from [] = true
every test from (x ∷ xs) = test from x && every test (suc from) xs

pub and_left : (a b : Bool) → a && b ≡ true → a ≡ true
and_left true b e = refl
and_left false b e = e

pub and_right : (a b : Bool) → a && b ≡ true → b ≡ true
and_right true b e = e
and_right false b e = absurd (let z : ◌≡◌ {A = ℕ} 0 1 = cc in omega arith)

entry_from : (test : ℕ → ℕ → Bool) (table : List ℕ) (from : ℕ) → every test from table ≡ true
    → (k : ℕ) → k < length table → test (from + k) (get_or table k 0) ≡ true
entry_from test [] from e k h = absurd (omega arith)
entry_from test (x ∷ xs) from e zero h = rw add-zero (and_left (test from x) (every test (suc from) xs) e)
entry_from test (x ∷ xs) from e (suc k) h =
    rw (add-suc, ← suc-add) (entry_from test xs (suc from) (and_right (test from x) (every test (suc from) xs) e) k (omega arith))

pub entry : (test : ℕ → ℕ → Bool) (table : List ℕ) → every test 0 table ≡ true → (k : ℕ) → k < length table → test k (get_or table k 0) ≡ true
entry test table e k h = rw zero-add at (entry_from test table 0 e k h)
