-- Parts that are written end to end, each one value: the children found at their starts are the parts.
use Rattle.std.specs.Prelude.{Some}
use mathlib.Core.Bool.{true}
use mathlib.Core.List.{List, [], ◌∷◌, ◌++◌, append_assoc}
use mathlib.Core.Path.{◌≡◌, refl, sym, ap, ◌∙◌}
use Prim.Native.Nat.{ℕ, suc, ◌+◌, ◌<◌}
use native.Mathlib.Nat.{zero-add, add_assoc}
use native.Mathlib.Omega.{arith}
use borrow.Author.Tests.{le-leb, lt-ltb, eq-eqb}
use lib.ListN.{length, drop, length-append}
use lib.Seq.{drop-append_seam, take-append_seam}
use Rattle.numbers.specs.Little.{number_bytes}
use Rattle.paper.specs.Normal.{offsets_from, numbers_bytes}
use Rattle.paper.specs.Values.{child_extent, children_at, end_to_end, every_byte_once, child_bytes}
use Rattle.paper.specs.declared.Child.{Child}
use Rattle.paper.specs.Words.{given, and_then, is_there, all_below, joined}
use Rattle.containers.specs.Children.{once_in, tiled_in}
use Rattle.forms.proofs.ScalarLaws.{Filled}
use Rattle.heads.proofs.HeadLaws.{extent_more}
use Rattle.containers.proofs.ChildLaws.{children_below}
use Rattle.containers.proofs.ShapeLaws.{tiled_is_once}

-- Where each part starts, from a place on: all offsets but the last.
unfoldable pub starts_from : ℕ → List (List ℕ) → List ℕ
starts_from start [] = []
starts_from start (one ∷ more) = start ∷ starts_from (start + length one) more

unfoldable pub children_from : ℕ → List (List ℕ) → List Child
children_from start [] = []
children_from start (one ∷ more) = record { start = start; size = length one } ∷ children_from (start + length one) more

unfoldable pub AllFilled : List (List ℕ) → Type 0
AllFilled [] = Unit {0}
AllFilled (one ∷ more) = Filled one × AllFilled more

pub starts_length : (start : ℕ) (parts : List (List ℕ)) → length (starts_from start parts) ≡ length parts
unfolding starts_from
starts_length start [] = refl
starts_length start (one ∷ more) = ap suc (starts_length (start + length one) more)

pub offsets_starts : (start : ℕ) (parts : List (List ℕ)) → offsets_from start parts ≡ starts_from start parts ++ ((start + length (joined parts)) ∷ [])
unfolding offsets_from starts_from joined
offsets_starts start [] = ap (λ (n : ℕ). n ∷ []) (omega arith)
offsets_starts start (one ∷ more) =
    ap (λ (l : List ℕ). start ∷ l) (offsets_starts (start + length one) more ∙ rw (length-append, add_assoc))

pub starts_below : (start bound : ℕ) (parts : List (List ℕ)) → start + length (joined parts) < bound → all_below bound (starts_from start parts) ≡ true
unfolding starts_from joined all_below
starts_below start bound [] h = refl
starts_below start bound (one ∷ more) h =
    let size : length (one ++ joined more) ≡ length one + length (joined more) = length-append one (joined more) in
    rw (lt-ltb start bound (omega arith), starts_below (start + length one) bound more (omega arith))

pub numbers_bytes-append : (width : ℕ) (ns ms : List ℕ) → numbers_bytes width (ns ++ ms) ≡ numbers_bytes width ns ++ numbers_bytes width ms
unfolding numbers_bytes
numbers_bytes-append width [] ms = refl
numbers_bytes-append width (n ∷ ns) ms =
    rw (numbers_bytes-append width ns ms) (sym (append_assoc (number_bytes width n) (numbers_bytes width ns) (numbers_bytes width ms)))

-- ---- the children

module _ (front one : List ℕ) (more : List (List ℕ)) where
  abbrev whole : List ℕ
  whole = front ++ (one ++ joined more)

  here : drop (length front) whole ≡ one ++ joined more
  here = drop-append_seam front (one ++ joined more)

  pub part_bytes : child_bytes whole (record { start = length front; size = length one }) ≡ one
  unfolding child_bytes
  part_bytes = rw here (take-append_seam one (joined more))

  part_extent : Filled one → child_extent whole (length front) ≡ Some (length one)
  unfolding child_extent and_then given
  part_extent fills =
      let size : length whole ≡ length front + (length one + length (joined more)) = length-append front (one ++ joined more) ∙ rw length-append in
      rw (here, extent_more one (joined more) fills, le-leb (length front + length one) (length whole) (omega arith))

  -- one part further on
  pub further : whole ≡ (front ++ one) ++ joined more
  further = sym (append_assoc front one (joined more))

pub children_back : (front : List ℕ) (parts : List (List ℕ)) → AllFilled parts
    → children_at (front ++ joined parts) (starts_from (length front) parts) ≡ Some (children_from (length front) parts)
unfolding AllFilled starts_from children_from joined children_at and_then
children_back front [] all = refl
children_back front (one ∷ more) all =
    let rest : children_at (front ++ (one ++ joined more)) (starts_from (length front + length one) more)
    ≡ Some (children_from (length front + length one) more) =
    rw (further front one more, ← length-append front one) (children_back (front ++ one) more all.1) in
    rw (part_extent front one more all.0, rest)

tiled_from : (start : ℕ) (parts : List (List ℕ)) → end_to_end start (start + length (joined parts)) (children_from start parts) ≡ true
unfolding children_from joined end_to_end
tiled_from start [] = eq-eqb start (start + 0) (omega arith)
tiled_from start (one ∷ more) = rw (eq-eqb start start refl, length-append, ← add_assoc) (tiled_from (start + length one) more)

-- From the start of an area.
module _ (parts : List (List ℕ)) (all : AllFilled parts) where
  pub parts_children : children_at (joined parts) (starts_from 0 parts) ≡ Some (children_from 0 parts)
  parts_children = children_back [] parts all

  pub parts_below : all_below (length (joined parts)) (starts_from 0 parts) ≡ true
  unfolding is_there
  parts_below = children_below (joined parts) (starts_from 0 parts) (ap is_there parts_children)

  pub parts_tiled : end_to_end 0 (length (joined parts)) (children_from 0 parts) ≡ true
  parts_tiled = rw zero-add at (tiled_from 0 parts)

  pub parts_once : every_byte_once (length (joined parts)) (children_from 0 parts) ≡ true
  unfolding tiled_in once_in
  parts_once =
      let tiled : tiled_in (length (joined parts)) (children_at (joined parts) (starts_from 0 parts)) ≡ true = rw parts_children parts_tiled in
      rw parts_children at (tiled_is_once (joined parts) (starts_from 0 parts) tiled)
