-- Two runs of ids merged by their names; of equal names the first run's come first.
use Rattle.std.specs.Prelude.{Bool, true, false, cond, not, List, [], ◌∷◌, ℕ, get_or}
use Rattle.order.specs.Before.{before}
use Rattle.paper.specs.Metadata.{Dictionary}

-- The next id comes from the first run: the second has ended, or the name there does not come before.
unfoldable pub takes_first : Dictionary → List ℕ → List ℕ → Bool
takes_first names [] ys = false
takes_first names (x ∷ xs) [] = true
takes_first names (x ∷ xs) (y ∷ ys) = not (before (get_or names y []) (get_or names x []))

-- An id put where its name belongs in a run, and what comes of the run's rest from there on.
unfoldable pub merge_into : Dictionary → ℕ → (List ℕ → List ℕ) → List ℕ → List ℕ
merge_into names x rest [] = x ∷ rest []
merge_into names x rest (y ∷ ys) =
    cond (before (get_or names y []) (get_or names x [])) (y ∷ merge_into names x rest ys) (x ∷ rest (y ∷ ys))

unfoldable pub merged : Dictionary → List ℕ → List ℕ → List ℕ
merged names [] ys = ys
merged names (x ∷ xs) ys = merge_into names x (merged names xs) ys
