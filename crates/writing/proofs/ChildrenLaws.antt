-- A container's children written last to first: what stands from the place reached up to the end is the parts from one on.
use Rattle.std.specs.Prelude.{Option, Some, None}
use mathlib.Core.List.{List, [], ◌∷◌, ◌++◌}
use mathlib.Core.Path.{◌≡◌, refl, sym, ap, ◌∙◌, subst}
use Prim.Native.Nat.{ℕ, zero, suc, ◌+◌, ◌-◌, ◌≤◌}
use native.Mathlib.Omega.{arith}
use lib.ListN.{length, get_or, take, drop, length-append, drop_of_length-le, get_or-map}
use lib.Seq.{drop-cons}
use Rattle.paper.specs.Values.{child_extent, child_bytes}
use Rattle.paper.specs.Words.{joined}
use Rattle.containers.proofs.OwnLaws.{own_is, known}
use Rattle.writing.specs.Ends.{EndsAt}
use Rattle.writing.specs.Rewritten.{part_at, parts_in, rewritten}
use Rattle.writing.specs.Written.{Writable, WritableChild, Holding}
use Rattle.writing.proofs.EndLaws.{nothing_ends, ends_join, ends_length}
use Rattle.writing.proofs.InsideLaws.{part_is, child_small}
use Rattle.writing.proofs.RewrittenLaws.{parts_counted}
use Rattle.std.proofs.lemmas.Option.{same_Some}

joined_drop : (parts : List (List ℕ)) (k : ℕ) → length (joined (drop k parts)) ≤ length (joined parts)
unfolding joined
joined_drop [] zero = omega arith
joined_drop [] (suc k) = omega arith
joined_drop (one ∷ more) zero = omega arith
joined_drop (one ∷ more) (suc k) =
    let rest = joined_drop more k in
    let size : length (one ++ joined more) ≡ length one + length (joined more) = length-append one (joined more) in
    omega arith

-- With the first k children still to be written: the parts behind them stand up to the end.
pub record ChildrenSeen (levels : ℕ) (area starts ranks out₀ out : List ℕ) (end start k : ℕ) : Type 0 where
  pub within : k ≤ length starts
  pub same_size : length out ≡ length out₀
  pub ends : EndsAt (joined (drop k (parts_in (rewritten levels ranks) area starts))) out₀ out end start

pub children_start : (levels : ℕ) (area starts ranks out : List ℕ) (end : ℕ) → ChildrenSeen levels area starts ranks out out end end (length starts)
unfolding joined
children_start levels area starts ranks out end =
    let parts : List (List ℕ) = parts_in (rewritten levels ranks) area starts in
    let size : length parts ≡ length starts = parts_counted (rewritten levels ranks) area starts in
    let none : drop (length starts) parts ≡ [] = drop_of_length-le parts {i = length starts} (omega arith) in
    record {
      within = omega arith;
      same_size = refl;
      ends = subst (λ (p : List (List ℕ)). EndsAt (joined p) out out end end) (sym none) (nothing_ends out end);
    }

module _ {levels : ℕ} {area starts ranks out₀ out : List ℕ} {end start room before : ℕ}
    (seen : ChildrenSeen levels area starts ranks out₀ out end start before) (holding : Holding levels area starts ranks room end)
    (k : ℕ) (here : k + 1 ≡ before) (child : ℕ) (is : child ≡ get_or starts k 0) where
  own : WritableChild levels holding.names ranks area child
  own = let in_all = seen.within in subst (λ (n : ℕ). WritableChild levels holding.names ranks area n) (sym is) (holding.each k (omega arith))

  abbrev parts : List (List ℕ)
  parts = parts_in (rewritten levels ranks) area starts

  -- The child's part, in front of those behind it.
  part_here : drop k parts ≡ part_at (rewritten levels ranks) area child ∷ drop before parts
  part_here =
      let in_all = seen.within in
      let f = part_at (rewritten levels ranks) area in
      let size : length parts ≡ length starts = parts_counted (rewritten levels ranks) area starts in
      let at-it : get_or parts k (f 0) ≡ f child = get_or-map f starts k 0 ∙ ap f (sym is) in
      let next : suc k ≡ before = omega arith in
      drop-cons parts k (f 0) (omega arith) ∙ rw (at-it, next)

  module _ (r : Option ℕ) (told : r ≡ child_extent area child) where
    pub child_lost : r ≡ None → {A : Type 0} → A
    child_lost e =
        let same : r ≡ Some own.size = told ∙ own.long in
        let z : ◌≡◌ {A = ℕ} 0 1 = cc in
        absurd (omega arith)

    module _ (size : ℕ) (e : r ≡ Some size) where
      size_same : own.size ≡ size
      size_same = same_Some own.size size (sym own.long ∙ known area child r told size e)

      bytes_same : take (child + size - child) (drop child area) ≡ child_bytes area (record { start = child; size = own.size })
      bytes_same = own_is area child size (known area child r told size e) ∙ rw size_same

      part_bytes : part_at (rewritten levels ranks) area child ≡ rewritten levels ranks (take (child + size - child) (drop child area))
      part_bytes = part_is levels holding.names ranks area own ∙ ap (rewritten levels ranks) (sym bytes_same)

      parts_size : length (joined (drop k parts))
          ≡ length (rewritten levels ranks (take (child + size - child) (drop child area))) + length (joined (drop before parts))
      unfolding joined
      parts_size =
          ap (λ (p : List (List ℕ)). length (joined p)) part_here
          ∙ length-append (part_at (rewritten levels ranks) area child) (joined (drop before parts))
          ∙ ap (λ (l : List ℕ). length l + length (joined (drop before parts))) part_bytes

      pub child_ready : length out₀ ≡ room → Writable levels (take (child + size - child) (drop child area)) ranks (length out) start
      child_ready room-is =
          let all = parts_size in
          let less = joined_drop parts k in
          let fit = holding.fits in
          let end_in = holding.within in
          let most = holding.most in
          let ends = seen.ends.size in
          let same = seen.same_size in
          record {
            names = holding.names;
            meant = rw bytes_same own.meant;
            small = rw bytes_same (child_small levels holding.names ranks area holding.small own);
            ranked = rw bytes_same own.ranked;
            fits = omega arith;
            within = omega arith;
            most = omega arith;
          }

      pub children_next : length out₀ ≡ room → {after : List ℕ} {next : ℕ}
          → EndsAt (rewritten levels ranks (take (child + size - child) (drop child area))) out after start next
          → ChildrenSeen levels area starts ranks out₀ after end next k
      unfolding joined
      children_next room-is {after} {next} ended =
          let end_in = holding.within in
          let in_all = seen.within in
          let ends = seen.ends.size in
          let same = seen.same_size in
          let whole = ends_join seen.ends (omega arith) ended in
          record {
            within = omega arith;
            same_size = ends_length ended (omega arith) ∙ seen.same_size;
            ends = rw (part_here, part_bytes) whole;
          }

pub children_done : {levels : ℕ} {area starts ranks out₀ out : List ℕ} {end start k : ℕ}
    → ChildrenSeen levels area starts ranks out₀ out end start k → k ≤ 0
    → EndsAt (joined (parts_in (rewritten levels ranks) area starts)) out₀ out end start
children_done {levels} {area} {starts} {ranks} {out₀} {out} {end} {start} {k} seen none =
    let zero_left : k ≡ 0 = omega arith in
    subst (λ (n : ℕ). EndsAt (joined (drop n (parts_in (rewritten levels ranks) area starts))) out₀ out end start) zero_left seen.ends
