-- A child's own bytes: a child that has a length lies in the area and fills its bytes.
use Rattle.std.specs.Prelude.{Some, Option}
use mathlib.Core.Bool.{true}
use mathlib.Core.List.{List}
use mathlib.Core.Path.{◌≡◌, sym, ap, ◌∙◌}
use Prim.Native.Nat.{ℕ, ◌+◌, ◌-◌, ◌≤◌, ◌<◌}
use native.Mathlib.Nat.{add-zero}
use native.Mathlib.Omega.{arith}
use borrow.Author.Tests.{eq-eqb}
use lib.ListN.{length, take, drop, length-take, length-drop}
use lib.Seq.{get_or-take, get_or-drop}
use mir.Syntax.{w64}
use mir.Val.{Fits}
use Rattle.paper.specs.Bounds.{most_walked}
use Rattle.paper.specs.Values.{extent, child_extent, child_bytes, whole, ends_at}
use Rattle.paper.specs.Words.{at, is_there}
use Rattle.heads.proofs.HeadLaws.{extent_positive, extent_take}
use Rattle.paper.proofs.WordLaws.{there_some}
use Rattle.containers.proofs.ChildLaws.{extent_fits}

-- ---- a child's own bytes

module _ (area : List ℕ) (start size : ℕ) (long : child_extent area start ≡ Some size) where
  abbrev pub own : List ℕ
  own = take (start + size - start) (drop start area)

  own_size : length own ≡ size
  own_size = let fit = (extent_fits area start size long).1 in simp (length-take, length-drop) (omega arith)

  pub own_is : own ≡ child_bytes area (record { start = start; size = size })
  unfolding child_bytes
  own_is = let e : start + size - start ≡ size = omega arith in rw e

  -- a child fills its own bytes
  pub own_whole : whole own ≡ true
  unfolding whole ends_at
  own_whole =
      let e : start + size - start ≡ size = omega arith in
      let has : extent (take (start + size - start) (drop start area)) ≡ Some size =
      extent_take (drop start area) (start + size - start) (extent_fits area start size long).0 (omega arith) in
      rw has (eq-eqb size (length (take (start + size - start) (drop start area))) (sym own_size))

  -- its first byte is the one at its start
  pub first_own : at own 0 ≡ at area start
  first_own =
      let least : 1 ≤ size = extent_positive (drop start area) (extent_fits area start size long).0 in
      get_or-take (start + size - start) (drop start area) 0 0 (omega arith) ∙ get_or-drop start area 0 0 ∙ ap (at area) (add-zero start)

-- ---- a child whose length is told

module _ (area : List ℕ) (start : ℕ) (r : Option ℕ) (told : r ≡ child_extent area start) (size : ℕ) (e : r ≡ Some size) where
  pub known : child_extent area start ≡ Some size
  known = sym told ∙ e

  pub child_end : length area ≤ most_walked → Fits w64 (start + size)
  child_end small = let fit = (extent_fits area start size known).1 in record { fits = omega arith }

  pub child_in : start + size ≤ length area
  child_in = (extent_fits area start size known).1

  -- what the judging of the child asks
  pub child_asks : length area ≤ most_walked → (whole (own area start size known) ≡ true) × (length (own area start size known) ≤ most_walked)
  child_asks small =
      let size_is : length (own area start size known) ≡ size = own_size area start size known in
      let fit = child_in in
      (own_whole area start size known, omega arith)

-- ---- a child that is there

module _ (area : List ℕ) (start : ℕ) (there : is_there (child_extent area start) ≡ true) where
  pub child_starts : start < length area
  child_starts =
      let has = there_some (child_extent area start) there in
      let fit = extent_fits area start has.0 has.1 in
      let least = extent_positive (drop start area) fit.0 in
      omega arith
