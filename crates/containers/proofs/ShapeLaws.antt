-- What the shape of a container comes to, by what the lengths of its children come to. Children end to end hold every
-- byte once.
use Rattle.std.specs.Prelude.{Option, None, Some}
use mathlib.Core.Bool.{Bool, true, false, cond}
use mathlib.Core.List.{List, [], ◌∷◌}
use mathlib.Core.Path.{◌≡◌, refl, sym, ◌∙◌}
use Prim.Native.Nat.{ℕ, ◌+◌, ◌≤◌, ◌<◌}
use native.Mathlib.Omega.{arith}
use borrow.Author.Tests.{eqb-true}
use lib.Dec.{eqb}
use lib.ListN.{length}
use Rattle.paper.specs.Values.{children_at, end_to_end, every_byte_once, holders}
use Rattle.paper.specs.declared.Child.{Child}
use Rattle.containers.specs.Children.{sizes, lengths_from, lengths_of, once_in, tiled_in}
use Rattle.containers.specs.declared.children.Lying.TheVariants.{EndToEnd, Scattered}
use Rattle.containers.specs.declared.children.Lying.{Lying}
use Rattle.paper.proofs.WordLaws.{and_both}
use Rattle.containers.proofs.ChildLaws.{SizedIn, children_sized}
use Rattle.containers.proofs.CoverLaws.{inside, holding, Holds, held, before_it, behind_it, holders_cons, AllWithin, total_sizes, once_by_sum}
use Rattle.containers.proofs.WalkLaws.{all_within}

-- ---- children end to end

tile_parts : (from end : ℕ) (child : Child) (more : List Child) → end_to_end from end (child ∷ more) ≡ true
    → (child.start ≡ from) × (end_to_end (child.start + child.size) end more ≡ true)
unfolding end_to_end
tile_parts from end child more e =
    let both = and_both (eqb child.start from) (end_to_end (child.start + child.size) end more) e in
    (eqb-true child.start from both.0, both.1)

tiled_sizes : (from end : ℕ) (children : List Child) → end_to_end from end children ≡ true → from + sizes children ≡ end
unfolding sizes
tiled_sizes from end [] e = let same : from ≡ end = ended e in omega arith
  where
    ended : end_to_end from end [] ≡ true → from ≡ end
    ended e = eqb-true from end (unfold end_to_end in e)
tiled_sizes from end (child ∷ more) e =
    let parts = tile_parts from end child more e in
    let rest = tiled_sizes (child.start + child.size) end more parts.1 in
    let first = parts.0 in
    omega arith

tiled_held : (from end : ℕ) (children : List Child) → end_to_end from end children ≡ true → (i : ℕ) → from ≤ i → i < end → 1 ≤ holders i children
tiled_held from end [] e i h k = let same = tiled_sizes from end [] e in absurd (none_left same)
  where
    none_left : from + sizes [] ≡ end → ⊥
    none_left same = unfold sizes in omega arith
tiled_held from end (child ∷ more) e i h k =
    go (tile_parts from end child more e) (holding i child) (λ b. tiled_held (child.start + child.size) end more (tile_parts from end child more e).1 i b k)
  where
    cons : holders i (child ∷ more) ≡ inside i child + holders i more
    cons = holders_cons i child more

    go : (child.start ≡ from) × (end_to_end (child.start + child.size) end more ≡ true) → Holds i child
        → (child.start + child.size ≤ i → 1 ≤ holders i more) → 1 ≤ holders i (child ∷ more)
    go parts (held a b f) rest = omega (arith, cons)
    go parts (before_it a f) rest = absurd (let first = parts.0 in omega arith)
    go parts (behind_it a f) rest = let later = rest a in omega (arith, cons)

tiled_once : (end : ℕ) (children : List Child) → AllWithin end children → end_to_end 0 end children ≡ true → every_byte_once end children ≡ true
tiled_once end children fit e =
    once_by_sum end children (λ i h. tiled_held 0 end children e i (omega arith) h)
    (total_sizes end children fit ∙ (let all = tiled_sizes 0 end children e in omega arith))

-- ---- by the lengths

module _ (end : ℕ) (K : Option (List Child)) where
  by_lengths : (r : Option Lying) → r ≡ lengths_of end K → r ≡ Some EndToEnd → tiled_in end K ≡ true
  unfolding lengths_of lengths_from tiled_in
  by_lengths r told e = go K (sym told ∙ e)
    where
      go : (K : Option (List Child)) → lengths_from true 0 end 0 K ≡ Some EndToEnd → tiled_in end K ≡ true
      go None f = absurd (let z : ◌≡◌ {A = ℕ} 0 1 = cc in omega arith)
      go (Some children) f = test (end_to_end 0 end children) f
        where
          test : (b : Bool) → cond b (Some EndToEnd) (Some (Scattered (0 + sizes children))) ≡ Some EndToEnd → b ≡ true
          test true g = refl
          test false g = absurd (let z : ◌≡◌ {A = ℕ} 0 1 = cc in omega arith)

  not_tiled : (r : Option Lying) → r ≡ lengths_of end K → (r ≡ Some EndToEnd → ⊥) → tiled_in end K ≡ false
  unfolding lengths_of lengths_from tiled_in
  not_tiled r told other = go K (λ f. other (told ∙ f))
    where
      go : (K : Option (List Child)) → (lengths_from true 0 end 0 K ≡ Some EndToEnd → ⊥) → tiled_in end K ≡ false
      go None f = refl
      go (Some children) f = test (end_to_end 0 end children) f
        where
          test : (b : Bool) → (cond b (Some EndToEnd) (Some (Scattered (0 + sizes children))) ≡ Some EndToEnd → ⊥) → b ≡ false
          test true g = absurd (g refl)
          test false g = refl

  broken_none : (r : Option Lying) → r ≡ lengths_of end K → r ≡ None → once_in end K ≡ false
  unfolding lengths_of lengths_from once_in
  broken_none r told e = go K (sym told ∙ e)
    where
      go : (K : Option (List Child)) → lengths_from true 0 end 0 K ≡ None → once_in end K ≡ false
      go None f = refl
      go (Some children) f = test (end_to_end 0 end children) f
        where
          test : (b : Bool) → cond b (Some EndToEnd) (Some (Scattered (0 + sizes children))) ≡ None → every_byte_once end children ≡ false
          test true g = absurd (let z : ◌≡◌ {A = ℕ} 0 1 = cc in omega arith)
          test false g = absurd (let z : ◌≡◌ {A = ℕ} 0 1 = cc in omega arith)

pub tiled_is_once : (area starts : List ℕ) → tiled_in (length area) (children_at area starts) ≡ true → once_in (length area) (children_at area starts) ≡ true
unfolding tiled_in once_in SizedIn
tiled_is_once area starts = go (children_at area starts) (children_sized area starts)
  where
    go : (K : Option (List Child)) → SizedIn area starts K → tiled_in (length area) K ≡ true → once_in (length area) K ≡ true
    go None sized e = e
    go (Some children) sized e = tiled_once (length area) children (all_within area children sized.0) e

-- ---- the answers about a container's children, by what their lengths come to

module _ (area starts : List ℕ) (r : Option Lying) (told : r ≡ lengths_of (length area) (children_at area starts)) where
  pub lies_tiled : r ≡ Some EndToEnd → true ≡ tiled_in (length area) (children_at area starts)
  lies_tiled e = sym (by_lengths (length area) (children_at area starts) r told e)

  pub lies_otherwise : (r ≡ Some EndToEnd → ⊥) → false ≡ tiled_in (length area) (children_at area starts)
  lies_otherwise other = sym (not_tiled (length area) (children_at area starts) r told other)

  pub lies_broken : r ≡ None → false ≡ tiled_in (length area) (children_at area starts)
  lies_broken e = lies_otherwise (λ f. let z : ◌≡◌ {A = ℕ} 0 1 = cc in omega arith)

  pub lies_scattered : (sum : ℕ) → r ≡ Some (Scattered sum) → false ≡ tiled_in (length area) (children_at area starts)
  lies_scattered sum e = lies_otherwise (λ f. let z : ◌≡◌ {A = ℕ} 0 1 = cc in omega arith)

  pub once_tiled : r ≡ Some EndToEnd → true ≡ once_in (length area) (children_at area starts)
  once_tiled e = sym (tiled_is_once area starts (sym (lies_tiled e)))

  pub once_broken : r ≡ None → false ≡ once_in (length area) (children_at area starts)
  once_broken e = sym (broken_none (length area) (children_at area starts) r told e)
