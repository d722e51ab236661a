-- What `covered` answers: children that lie scattered cover the area once exactly when their sizes come to its length and
-- the walk over their marks ends well.
use Rattle.std.specs.Prelude.{Option, None, Some}
use mathlib.Core.Bool.{Bool, true, false, cond}
use mathlib.Core.List.{List, map}
use mathlib.Core.Path.{◌≡◌, refl, ap, ◌∙◌}
use Prim.Native.Nat.{ℕ, ◌+◌, ◌*◌, ◌≤◌}
use native.Mathlib.Omega.{arith}
use lib.ListN.{length, replicate}
use Rattle.paper.specs.Values.{children_at, end_to_end, every_byte_once}
use Rattle.paper.specs.declared.Child.{Child}
use Rattle.paper.specs.Words.{all_below}
use Rattle.containers.specs.Children.{sizes, lengths_from, lengths_of, once_in}
use Rattle.containers.specs.Marks.{mark_all, Marked}
use Rattle.containers.specs.declared.children.Lying.TheVariants.{EndToEnd, Scattered}
use Rattle.paper.proofs.WordLaws.{some_there}
use Rattle.containers.proofs.ChildLaws.{AllSized, SizedIn, children_sized, children_below}
use Rattle.containers.proofs.CoverLaws.{total, total_sizes, sum_of_once}
use Rattle.containers.proofs.WalkLaws.{all_within, below_more}

-- Scattered children are there, and their sizes come to the sum.
pub scattered_children : (end sum : ℕ) (K : Option (List Child)) → lengths_of end K ≡ Some (Scattered sum)
    → (children : List Child) × (K ≡ Some children) × (sizes children ≡ sum)
unfolding lengths_of lengths_from
scattered_children end sum None e = absurd (let z : ◌≡◌ {A = ℕ} 0 1 = cc in omega arith)
scattered_children end sum (Some children) e = (children, refl, go (end_to_end 0 end children) e)
  where
    go : (b : Bool) → cond b (Some EndToEnd) (Some (Scattered (0 + sizes children))) ≡ Some (Scattered sum) → sizes children ≡ sum
    go true f = absurd (let z : ◌≡◌ {A = ℕ} 0 1 = cc in omega arith)
    go false f = let same : 0 + sizes children ≡ sum = cc in omega arith

module _ (area starts : List ℕ) (sum : ℕ) (lie : lengths_of (length area) (children_at area starts) ≡ Some (Scattered sum)) where
  are : (children : List Child) × (children_at area starts ≡ Some children) × (sizes children ≡ sum)
  are = scattered_children (length area) sum (children_at area starts) lie

  pub covered_below : (size : ℕ) → length area ≤ size → all_below size starts ≡ true
  covered_below size h = below_more (length area) size starts h (children_below area starts (some_there (children_at area starts) are.1))

  pub covered_lie : sum ≡ length area → lengths_of (length area) (children_at area starts) ≡ Some (Scattered (length area))
  covered_lie e = lie ∙ ap (λ (n : ℕ). Some (Scattered n)) e

  pub covered_sum : (sum ≡ length area → ⊥) → false ≡ once_in (length area) (children_at area starts)
  unfolding once_in SizedIn
  covered_sum other = rw are.1 (go (every_byte_once (length area) are.0) refl)
    where
      sized : AllSized area are.0 × (map (λ (c : Child). c.start) are.0 ≡ starts)
      sized = rw are.1 at (children_sized area starts)

      go : (b : Bool) → every_byte_once (length area) are.0 ≡ b → false ≡ b
      go false e = refl
      go true e =
          let counted : total (length area) are.0 ≡ length area = sum_of_once (length area) are.0 e in
          let bytes : total (length area) are.0 ≡ sizes are.0 = total_sizes (length area) are.0 (all_within area are.0 sized.0) in
          let own : sizes are.0 ≡ sum = are.2 in
          absurd (other (omega arith))

  -- what the marking and the walk ask, and what the walk's answer is; the map is clean and has room
  module _ (e : sum ≡ length area) (clean : List ℕ) (is-clean : clean ≡ replicate (length clean) 0) (room : length area ≤ 8 * length clean) where
    pub covered_walked : (r : Bool) (marks : List ℕ)
        → ((runs : List ℕ) (children : List Child) → Marked area runs children marks → r ≡ every_byte_once (length area) children)
        → marks ≡ mark_all clean starts
        → r ≡ once_in (length area) (children_at area starts)
    unfolding once_in
    covered_walked r marks answers map_is =
        rw are.1
        (answers starts are.0
        (record { are = are.1; sum = are.2 ∙ e; size = length clean; room = room; map = map_is ∙ ap (λ (l : List ℕ). mark_all l starts) is-clean }))
