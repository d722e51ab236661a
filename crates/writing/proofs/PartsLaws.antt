-- A container's parts once they are written: they lie there, so many, and what fits with them fits in front of them.
use mathlib.Core.List.{List}
use mathlib.Core.Path.{◌≡◌, refl, sym, ap, ◌∙◌}
use Prim.Native.Nat.{ℕ, ◌+◌, ◌≤◌}
use native.Mathlib.Omega.{arith}
use lib.ListN.{length, drop}
use lib.Seq.{drop_at, drop-drop}
use Rattle.forms.proofs.PartLaws.{AllFilled}
use Rattle.paper.specs.Words.{joined}
use Rattle.writing.specs.Ends.{EndsAt, Lies, Lying}
use Rattle.writing.specs.Rewritten.{parts_in, rewritten}
use Rattle.writing.specs.Written.{Holding}
use Rattle.writing.proofs.EndLaws.{ends_behind, ends_length}
use Rattle.writing.proofs.InsideLaws.{parts_filled}
use Rattle.writing.proofs.RewrittenLaws.{parts_counted}

module _ {levels : ℕ} {area starts ranks : List ℕ} {room end : ℕ} (holding : Holding levels area starts ranks room end) where
  abbrev parts : List (List ℕ)
  parts = parts_in (rewritten levels ranks) area starts

  filled : AllFilled parts
  filled =
      let fit = holding.fits in
      let most = holding.most in
      parts_filled levels holding.names ranks area holding.small starts holding.each (omega arith)

  module _ {before middle : List ℕ} {start : ℕ} (room-is : length before ≡ room) (ended : EndsAt (joined parts) before middle end start) where
    pub in_room : end ≤ length before
    in_room = let within = holding.within in omega arith

    pub parts_lie : Lies middle start end parts
    parts_lie =
        let within = in_room in
        let size = ended.size in
        let same = ends_length ended within in
        let front = ends_behind ended within in
        let behind : drop end middle ≡ drop end before =
        ap (λ (n : ℕ). drop n middle) (sym size) ∙ sym (drop-drop (length (joined parts)) start middle)
        ∙ ap (drop (length (joined parts))) front ∙ drop_at (joined parts) (drop end before) (length (joined parts)) refl in
        record { filled = filled; size = size; are = rw behind front; within = omega arith }

    pub parts_lying : Lying middle start end (length starts)
    parts_lying = record { parts = parts; lie = parts_lie; count_is = parts_counted (rewritten levels ranks) area starts }

    pub parts_within : end ≤ length middle
    parts_within = parts_lie.within

    -- What stands in front of the parts fits in front of them.
    pub head_fits : (head : ℕ) {all : ℕ} → all ≤ end → all ≡ head + length (joined parts) → head ≤ start
    head_fits head fit size = let sum = ended.size in omega arith
