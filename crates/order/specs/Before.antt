-- The order of names: "by unsigned bytes" (01), a prefix being smaller.
use Rattle.std.specs.Prelude.{Bool, true, false, cond, List, [], ◌∷◌, ℕ, ltb, eqb}
use Rattle.std.specs.declared.cmp.Ordering.{Ordering}
use Rattle.std.specs.declared.cmp.Ordering.TheVariants.{Less, Equal, Greater}

-- The first byte string comes before the second.
unfoldable pub before : List ℕ → List ℕ → Bool
before [] [] = false
before [] (y ∷ ys) = true
before (x ∷ xs) [] = false
before (x ∷ xs) (y ∷ ys) = cond (ltb x y) true (cond (eqb x y) (before xs ys) false)

-- How two byte strings stand to each other.
unfoldable pub order_of : List ℕ → List ℕ → Ordering
order_of a b = cond (before a b) Less (cond (before b a) Greater Equal)
