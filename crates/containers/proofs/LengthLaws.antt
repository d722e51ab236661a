-- What the lengths of children come to, one child more at a time.
use Rattle.std.specs.Prelude.{Option, None, Some}
use mathlib.Core.Bool.{Bool, true, false, cond, ◌&&◌, and_assoc}
use mathlib.Core.List.{List, [], ◌∷◌}
use mathlib.Core.Path.{◌≡◌, refl, sym, ap, ◌∙◌}
use Prim.Native.Nat.{ℕ, ◌+◌, ◌-◌, ◌*◌, ◌≤◌, ◌<◌}
use native.Mathlib.Nat.{add-zero, add_assoc}
use native.Mathlib.Omega.{arith}
use borrow.Author.Tests.{eq-eqb, ne_eqb, le-leb, lt-leb}
use lib.Dec.{eqb}
use lib.ListN.{length, get_or, drop, take, length-drop, drop_of_length-le}
use lib.Seq.{take_all}
use mir.Syntax.{w64}
use mir.Val.{Fits}
use Rattle.paper.specs.Bounds.{most_walked}
use Rattle.paper.specs.Values.{extent, child_extent, children_at, end_to_end}
use Rattle.paper.specs.declared.Child.{Child}
use Rattle.paper.specs.Words.{given, and_then}
use Rattle.containers.specs.Children.{sizes, lengths_from, lengths_of}
use Rattle.containers.specs.declared.children.Lying.TheVariants.{EndToEnd, Scattered}
use Rattle.containers.proofs.ChildLaws.{with_first, children_none, children_some, extent_fits}
use Rattle.runs.proofs.NumbersRunLaws.{next_number, no_more}

-- ---- the child at a start

module _ (area : List ℕ) (start : ℕ) where
  pub child_past : length area ≤ start → None ≡ child_extent area start
  unfolding child_extent extent and_then
  child_past h = rw (drop_of_length-le area h)

  -- r is what `extent_of` answered of the rest of the area
  module _ (r : Option ℕ) (is : r ≡ (extent (take (length area - start) (drop start area)))) where
    told : r ≡ extent (drop start area)
    told = is ∙ ap (λ (l : List ℕ). extent l) (take_all (length area - start) (drop start area) (simp length-drop (omega arith)))

    pub child_unknown : r ≡ None → None ≡ child_extent area start
    unfolding child_extent and_then
    child_unknown e = rw (sym told ∙ e)

    pub child_passes : (size : ℕ) → r ≡ Some size → start < length area → length area - start < size → None ≡ child_extent area start
    unfolding child_extent and_then given
    child_passes size e h k = rw (sym told ∙ e, lt-leb (start + size) (length area) (omega arith))

    pub child_known : (size : ℕ) → r ≡ Some size → start < length area → size ≤ length area - start → Some size ≡ child_extent area start
    unfolding child_extent and_then given
    child_known size e h k = rw (sym told ∙ e, le-leb (start + size) (length area) (omega arith))

-- ---- still in order

pub followed : (in_order : Bool) {start from : ℕ} → start ≡ from → in_order ≡ in_order && eqb start from
followed true {start} {from} e = sym (eq-eqb start from e)
followed false e = refl

pub not_followed : (in_order : Bool) {start from : ℕ} → (start ≡ from → ⊥) → false ≡ in_order && eqb start from
not_followed true {start} {from} e = sym (ne_eqb start from e)
not_followed false e = refl

-- ---- one child more

module _ (area : List ℕ) (in_order : Bool) (from end sum start : ℕ) (more : List ℕ) where
  pub lengths_broken : child_extent area start ≡ None → lengths_from in_order from end sum (children_at area (start ∷ more)) ≡ None
  unfolding lengths_from
  lengths_broken e = rw (children_none area start more e)

  pub lengths_more : (size : ℕ) → child_extent area start ≡ Some size
      → lengths_from in_order from end sum (children_at area (start ∷ more))
      ≡ lengths_from (in_order && eqb start from) (start + size) end (sum + size) (children_at area more)
  unfolding lengths_from with_first and_then end_to_end sizes
  lengths_more size e = rw (children_some area start more size e) (go (children_at area more))
    where
      go : (K : Option (List Child))
          → lengths_from in_order from end sum (with_first start size K) ≡ lengths_from (in_order && eqb start from) (start + size) end (sum + size) K
      go None = refl
      go (Some children) = rw (and_assoc, add_assoc)

pub lengths_ended : (in_order : Bool) (from end sum : ℕ) (area : List ℕ)
    → lengths_from in_order from end sum (children_at area []) ≡ cond (in_order && eqb from end) (Some EndToEnd) (Some (Scattered sum))
unfolding lengths_from children_at end_to_end sizes
lengths_ended in_order from end sum area = rw add-zero

-- ---- the loop over the starts

-- After i children: what is left decides together with what was seen.
pub record LengthsSeen (area starts : List ℕ) (in_order : Bool) (from sum i : ℕ) : Type 0 where
  pub from_small : from ≤ most_walked
  pub sum_small : sum ≤ i * most_walked
  pub whole : lengths_of (length area) (children_at area starts) ≡ lengths_from in_order from (length area) sum (children_at area (drop i starts))

pub lengths_start : (area starts : List ℕ) → LengthsSeen area starts true 0 0 0
unfolding lengths_of
lengths_start area starts = record { from_small = omega arith; sum_small = omega arith; whole = refl }

module _ {area starts : List ℕ} {in_order : Bool} {from sum i : ℕ} (seen : LengthsSeen area starts in_order from sum i) where
  module _ (h : i < length starts) (start : ℕ) (is : start ≡ get_or starts i 0) where
    next : drop i starts ≡ start ∷ drop (i + 1) starts
    next = next_number starts i h start is

    pub lengths_lost : (r : Option ℕ) → r ≡ child_extent area start → r ≡ None → None ≡ lengths_of (length area) (children_at area starts)
    lengths_lost r told e =
        sym (seen.whole ∙ ap (λ (l : List ℕ). lengths_from in_order from (length area) sum (children_at area l)) next
        ∙ lengths_broken area in_order from (length area) sum start (drop (i + 1) starts) (sym told ∙ e))

    module _ (small : length area ≤ most_walked) (r : Option ℕ) (told : r ≡ child_extent area start) (size : ℕ) (e : r ≡ Some size) where
      known : child_extent area start ≡ Some size
      known = sym told ∙ e

      pub lengths_end : start + size ≤ most_walked
      lengths_end = let end = (extent_fits area start size known).1 in omega arith

      pub lengths_end_fits : Fits w64 (start + size)
      lengths_end_fits = let end = lengths_end in record { fits = omega arith }

      pub lengths_sum_fits : length starts ≤ most_walked → Fits w64 (sum + size)
      lengths_sum_fits most =
          let end : start + size ≤ most_walked = lengths_end in
          let sum-now : sum ≤ i * most_walked = seen.sum_small in
          record { fits = omega arith }

      pub lengths_next : (b : Bool) → b ≡ in_order && eqb start from → LengthsSeen area starts b (start + size) (sum + size) (i + 1)
      lengths_next b f =
          let end : start + size ≤ most_walked = lengths_end in
          let sum-now : sum ≤ i * most_walked = seen.sum_small in
          record {
            from_small = end;
            sum_small = omega arith;
            whole = rw f (seen.whole ∙ ap (λ (l : List ℕ). lengths_from in_order from (length area) sum (children_at area l)) next
                ∙ lengths_more area in_order from (length area) sum start (drop (i + 1) starts) size known);
          }

  module _ (past : length starts ≤ i) (b : Bool) (f : b ≡ in_order && eqb from (length area)) where
    done : lengths_of (length area) (children_at area starts) ≡ cond b (Some EndToEnd) (Some (Scattered sum))
    done =
        seen.whole ∙ ap (λ (l : List ℕ). lengths_from in_order from (length area) sum (children_at area l)) (no_more starts i past)
        ∙ lengths_ended in_order from (length area) sum area ∙ ap (λ (t : Bool). cond t (Some EndToEnd) (Some (Scattered sum))) (sym f)

    pub lengths_tiled : b ≡ true → Some EndToEnd ≡ lengths_of (length area) (children_at area starts)
    lengths_tiled e = sym (done ∙ rw e)

    pub lengths_scattered : b ≡ false → Some (Scattered sum) ≡ lengths_of (length area) (children_at area starts)
    lengths_scattered e = sym (done ∙ rw e)
