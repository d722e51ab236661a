-- A run in two parts: each by itself, and the two together again.
use mathlib.Core.Bool.{true}
use mathlib.Core.List.{List, ◌++◌}
use mathlib.Core.Path.{◌≡◌, refl, sym, ap, ◌∙◌}
use Prim.Native.Nat.{ℕ, ◌+◌, ◌-◌, ◌≤◌}
use native.Mathlib.Omega.{arith}
use lib.ListN.{length, take, drop, length-drop, take-append-drop}
use lib.Seq.{length-take-le, take_at}
use Rattle.paper.specs.Metadata.{Dictionary}
use Rattle.paper.specs.Words.{all_below}
use Rattle.ranking.specs.Merging.{merged}
use Rattle.runs.proofs.NumbersRunLaws.{rest_is}
use Rattle.ranking.proofs.HeldLaws.{below_both}

-- ---- the two parts

module _ (ids : List ℕ) (half : ℕ) where
  pub half_size : half ≤ length ids → half ≡ length (take half ids)
  half_size h = sym (length-take-le half ids h)

  pub half_below : (bound : ℕ) → all_below bound ids ≡ true → all_below bound (take half ids) ≡ true
  half_below bound below = (below_both bound (take half ids) (drop half ids) (rw take-append-drop below)).0

  pub rest_below : (bound : ℕ) → all_below bound ids ≡ true → all_below bound (take (length ids - half) (drop half ids)) ≡ true
  rest_below bound below = rw (rest_is ids half) (below_both bound (take half ids) (drop half ids) (rw take-append-drop below)).1

  pub parts_size : half ≤ length ids → length ids ≡ length (take half ids) + length (take (length ids - half) (drop half ids))
  parts_size h = rw (rest_is ids half, length-take-le half ids h, length-drop) (omega arith)

-- ---- a run that was copied to the front of a table

module _ (ids spare front : List ℕ) (copied : front ≡ ids) where
  pub copied_front : take (length ids) (front ++ drop (length ids) spare) ≡ ids
  copied_front = take_at front (drop (length ids) spare) (length ids) (ap length copied) ∙ copied

  pub copied_merged : (names : Dictionary) (half : ℕ) {out : List ℕ}
      → out ≡ merged names (take half (take (length ids) (front ++ drop (length ids) spare))) (drop half (take (length ids) (front ++ drop (length ids) spare)))
      → out ≡ merged names (take half ids) (drop half ids)
  copied_merged names half e = rw copied_front at e

  pub copied_fits : (bound half : ℕ) → all_below bound ids ≡ true → half ≤ length ids
      → (all_below bound (take (length ids) (front ++ drop (length ids) spare)) ≡ true)
      × (length ids ≡ length (take (length ids) (front ++ drop (length ids) spare)))
      × (half ≤ length (take (length ids) (front ++ drop (length ids) spare)))
  copied_fits bound half below h = rw copied_front (below, refl, h)
