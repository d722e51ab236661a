-- The children of a lawful container: each is a part of the area, as long as it says, and together they are as long as it.
use Rattle.std.specs.Prelude.{Some}
use mathlib.Core.Bool.{Bool, true, false, ◌&&◌}
use mathlib.Core.List.{List, [], ◌∷◌}
use mathlib.Core.Path.{◌≡◌, refl, sym, ap, ◌∙◌}
use Prim.Native.Nat.{ℕ, zero, suc, ◌+◌, ◌≤◌, ◌<◌}
use native.Mathlib.Omega.{arith}
use borrow.Author.Tests.{ltb-true, ltb-false}
use lib.Dec.{ltb, lit<}
use lib.ListN.{length, get_or, take, drop, length-take, length-drop, length-map, get_or-eq_default}
use lib.Seq.{get_or-take, get_or-drop}
use Rattle.paper.specs.Metadata.{Dictionary, rising}
use Rattle.paper.specs.Values.{child_extent, children_at, end_to_end, every_byte_once, child_bytes, area_of, starts_of, ids_of, names_at, elements_of, members_of}
use Rattle.paper.specs.declared.Child.{Child}
use Rattle.paper.specs.Words.{given, and_then, numbers, all_below}
use Rattle.containers.specs.Children.{sizes, once_in, tiled_in}
use Rattle.paper.proofs.WordLaws.{given_some, then_some}
use Rattle.containers.proofs.ChildLaws.{AllSized, SizedIn, children_sized, extent_fits}
use Rattle.containers.proofs.CoverLaws.{total_sizes, sum_of_once}
use Rattle.containers.proofs.ShapeLaws.{tiled_is_once}
use Rattle.containers.proofs.WalkLaws.{all_within}
use Rattle.std.proofs.lemmas.Option.{same_Some}

-- ---- bytes, and parts of them

abbrev pub Bytes : List ℕ → Type 0
Bytes s = (i : ℕ) → get_or s i 0 < 256

pub bytes_drop : (n : ℕ) (s : List ℕ) → Bytes s → Bytes (drop n s)
bytes_drop n s bytes i = rw get_or-drop (bytes (n + i))

pub bytes_take : (n : ℕ) (s : List ℕ) → Bytes s → Bytes (take n s)
bytes_take n s bytes i = go (ltb i n) refl
  where
    go : (b : Bool) → ltb i n ≡ b → get_or (take n s) i 0 < 256
    go true e = rw (get_or-take n s i 0 (ltb-true i n e)) (bytes i)
    go false e =
        let past : n ≤ i = ltb-false i n e in
        let short : length (take n s) ≤ i = rw length-take (omega arith) in
        rw (get_or-eq_default (take n s) 0 short) (lit< tt)

pub child_length : (area : List ℕ) (child : Child) → child_extent area child.start ≡ Some child.size
    → length (child_bytes area child) ≡ child.size
unfolding child_bytes
child_length area child e =
    let end : child.start + child.size ≤ length area = (extent_fits area child.start child.size e).1 in
    rw (length-take, length-drop) (omega arith)

pub child_bytes_lem : (area : List ℕ) (child : Child) → Bytes area → Bytes (child_bytes area child)
unfolding child_bytes
child_bytes_lem area child bytes = bytes_take child.size (drop child.start area) (bytes_drop child.start area bytes)

-- ---- how they lie

pub record Lie (area starts : List ℕ) (children : List Child) : Type 0 where
  pub are : children_at area starts ≡ Some children
  pub once : every_byte_once (length area) children ≡ true

-- What passed the test of how they lie.
lie_by : (area starts : List ℕ) (b : Bool) (test : List Child → Bool) (children : List Child)
    → given b (and_then (children_at area starts) λ found. given (test found) (Some found)) ≡ Some children
    → (children_at area starts ≡ Some children) × (test children ≡ true)
lie_by area starts b test children e =
    let first = given_some b _ e in
    let second = then_some (children_at area starts) _ first.1 in
    let third = given_some (test second.0) (Some second.0) second.2 in
    let same : second.0 ≡ children = same_Some second.0 children third.1 in
    (second.1 ∙ third.1, ap test (sym same) ∙ third.0)

pub elements_lie : (s : List ℕ) (c w : ℕ) (children : List Child) → elements_of c w s ≡ Some children
    → Lie (area_of c 0 w s) (starts_of c 0 w s) children
unfolding elements_of tiled_in once_in
elements_lie s c w children e =
    let area : List ℕ = area_of c 0 w s in
    let starts : List ℕ = starts_of c 0 w s in
    let told = lie_by area starts (all_below (length area) starts) (end_to_end 0 (length area)) children e in
    let tiled : tiled_in (length area) (children_at area starts) ≡ true = rw told.0 told.1 in
    record { are = told.0; once = rw told.0 at (tiled_is_once area starts tiled) }

pub members_lie : (names : Dictionary) (s : List ℕ) (c i w : ℕ) (children : List Child) → members_of names c i w s ≡ Some children
    → Lie (area_of c i w s) (starts_of c i w s) children
unfolding members_of
members_lie names s c i w children e =
    let area : List ℕ = area_of c i w s in
    let starts : List ℕ = starts_of c i w s in
    let named = given_some (all_below (length names) (ids_of c i s) && rising (names_at names (ids_of c i s))) _ e in
    let told = lie_by area starts (all_below (length area) starts) (every_byte_once (length area)) children named.1 in
    record { are = told.0; once = told.1 }

module _ {area starts : List ℕ} {children : List Child} (lie : Lie area starts children) where
  sized : SizedIn area starts (Some children)
  sized = rw lie.are at (children_sized area starts)

  pub lie_sized : AllSized area children
  unfolding SizedIn
  lie_sized = sized.0

  pub lie_count : length children ≡ length starts
  unfolding SizedIn
  lie_count = sym (length-map children (λ (child : Child). child.start)) ∙ ap length sized.1

  pub lie_sizes : sizes children ≡ length area
  lie_sizes = sym (total_sizes (length area) children (all_within area children lie_sized)) ∙ sum_of_once (length area) children lie.once

pub numbers_few : (width count : ℕ) (s : List ℕ) → length (numbers width count s) ≤ count
unfolding numbers
numbers_few width zero s = omega arith
numbers_few width (suc count) [] = omega arith
numbers_few width (suc count) (b ∷ s) = let rest = numbers_few width count (drop width (b ∷ s)) in omega arith
