-- The child of a number: its start is read where it stands, and it is as long as it says.
use Rattle.std.specs.Prelude.{Option, None, Some}
use mathlib.Core.Bool.{Bool, true, false, cond, ◌&&◌}
use mathlib.Core.List.{List, [], ◌∷◌, map}
use mathlib.Core.Path.{◌≡◌, refl, sym, ap, ◌∙◌}
use Prim.Native.Nat.{ℕ, zero, suc, ◌≤◌, ◌<◌}
use native.Mathlib.Omega.{arith}
use lib.ListN.{length, get_or, length-map}
use Rattle.paper.specs.Metadata.{Dictionary, rising}
use Rattle.paper.specs.Paths.{child_named, child_number}
use Rattle.paper.specs.Values.{child_extent, children_at, area_of, starts_of, ids_of, names_at, members_of, elements_of, end_to_end, every_byte_once}
use Rattle.paper.specs.declared.Child.{Child}
use Rattle.paper.specs.Words.{same, and_then, is_there, all_below}
use Rattle.paths.specs.Places.{position_in}
use Rattle.paper.proofs.WordLaws.{given_some, there_some, then_some, and_both}
use Rattle.std.proofs.lemmas.Option.{same_Some}
use Rattle.containers.proofs.ChildLaws.{AllSized, SizedIn, children_sized}

-- ---- the child of a number

-- Past the last there is none.
number_past : (index : ℕ) (children : List Child) → length children ≤ index → child_number index children ≡ None
unfolding child_number
number_past index [] h = refl
number_past zero (child ∷ more) h = absurd (omega arith)
number_past (suc index) (child ∷ more) h = number_past index more (omega arith)

-- Else it is the one at that start, as long as it says there.
number_here : (area : List ℕ) (index : ℕ) (children : List Child) → AllSized area children → index < length children
    → (child : Child) × (child_number index children ≡ Some child) × (child.start ≡ get_or (map (λ (c : Child). c.start) children) index 0)
    × (child_extent area child.start ≡ Some child.size)
unfolding child_number AllSized
number_here area index [] sized h = absurd (omega arith)
number_here area zero (child ∷ more) sized h = (child, refl, refl, sized.0)
number_here area (suc index) (child ∷ more) sized h = number_here area index more sized.1 (omega arith)

module _ (area starts : List ℕ) (all : is_there (children_at area starts) ≡ true) where
  abbrev children : List Child
  children = (there_some (children_at area starts) all).0

  are : children_at area starts ≡ Some children
  are = (there_some (children_at area starts) all).1

  sized : AllSized area children × (map (λ (k : Child). k.start) children ≡ starts)
  unfolding SizedIn
  sized = rw are at (children_sized area starts)

  long : length children ≡ length starts
  long = sym (length-map children (λ (k : Child). k.start)) ∙ ap length sized.1

  module _ (index : ℕ) where
    pub child_past : length starts ≤ index → None ≡ and_then (children_at area starts) (child_number index)
    unfolding and_then
    child_past h = let size = long in rw (are, number_past index children (omega arith))

    module _ (h : index < length starts) (start : ℕ) (is : start ≡ get_or starts index 0) (r : Option ℕ) (told : r ≡ child_extent area start) where
      found : (child : Child) × (child_number index children ≡ Some child) × (child.start ≡ get_or (map (λ (k : Child). k.start) children) index 0)
          × (child_extent area child.start ≡ Some child.size)
      found = let size = long in number_here area index children sized.0 (omega arith)

      starts_here : found.0.start ≡ start
      starts_here = found.2 ∙ ap (λ (n : List ℕ). get_or n index 0) sized.1 ∙ sym is

      answers : r ≡ Some found.0.size
      answers = told ∙ ap (λ (n : ℕ). child_extent area n) (sym starts_here) ∙ found.3

      pub child_lost : r ≡ None → None ≡ and_then (children_at area starts) (child_number index)
      child_lost e = let f : Some found.0.size ≡ None = sym answers ∙ e in cc

      pub child_found : (size : ℕ) → r ≡ Some size
          → Some (record { start = start; size = size }) ≡ and_then (children_at area starts) (child_number index)
      unfolding and_then
      child_found size e = rw (are, found.1) (go found.0 starts_here (same_Some _ size (sym answers ∙ e)))
        where
          go : (child : Child) → child.start ≡ start → child.size ≡ size → Some (record { start = start; size = size }) ≡ Some child
          go child a b = rw (← a, ← b)

-- ---- the elements of an array

pub elements_are : (c w : ℕ) (s : List ℕ) → is_there (elements_of c w s) ≡ true → elements_of c w s ≡ children_at (area_of c 0 w s) (starts_of c 0 w s)
unfolding elements_of
elements_are c w s lawful =
    let some-children = there_some (elements_of c w s) lawful in
    let lie = given_some (all_below (length (area_of c 0 w s)) (starts_of c 0 w s)) _ some-children.1 in
    let are = then_some (children_at (area_of c 0 w s) (starts_of c 0 w s)) _ lie.1 in
    let tiled = given_some (end_to_end 0 (length (area_of c 0 w s)) are.0) (Some are.0) are.2 in
    some-children.1 ∙ sym (are.1 ∙ tiled.1)

-- ---- the field of a name

-- A name's child is the one of its position, where there are as many children as names.
named_number : (name : List ℕ) (names : List (List ℕ)) (children : List Child) → length names ≡ length children
    → child_number (position_in name names) children ≡ child_named name names children
unfolding child_named child_number position_in
named_number name [] [] e = refl
named_number name [] (child ∷ more) e = absurd (omega arith)
named_number name (first ∷ names) [] e = absurd (omega arith)
named_number name (first ∷ names) (child ∷ more) e = go (same first name) (named_number name names more (omega arith))
  where
    go : (b : Bool) → child_number (position_in name names) more ≡ child_named name names more
        → child_number (cond b 0 (suc (position_in name names))) (child ∷ more) ≡ cond b (Some child) (child_named name names more)
    go true f = refl
    go false f = f

-- The children of an object that are there are those at its starts, and its ids are below the dictionary's count.
pub members_are : (names : Dictionary) (c i w : ℕ) (s : List ℕ) → is_there (members_of names c i w s) ≡ true
    → (all_below (length names) (ids_of c i s) ≡ true) × (members_of names c i w s ≡ children_at (area_of c i w s) (starts_of c i w s))
unfolding members_of
members_are names c i w s lawful =
    let some-children = there_some (members_of names c i w s) lawful in
    let named = given_some (all_below (length names) (ids_of c i s) && rising (names_at names (ids_of c i s))) _ some-children.1 in
    let lie = given_some (all_below (length (area_of c i w s)) (starts_of c i w s)) _ named.1 in
    let are = then_some (children_at (area_of c i w s) (starts_of c i w s)) _ lie.1 in
    let once = given_some (every_byte_once (length (area_of c i w s)) are.0) (Some are.0) are.2 in
    ((and_both (all_below (length names) (ids_of c i s)) (rising (names_at names (ids_of c i s))) named.0).0, some-children.1 ∙ sym (are.1 ∙ once.1))

-- The child of a name is the one of the name's position among the names of the ids, one for each child.
pub field_is : (names : Dictionary) (area starts ids name : List ℕ) → length ids ≡ length starts
    → (index : ℕ) → index ≡ position_in name (names_at names ids) → (r : Option Child) → r ≡ and_then (children_at area starts) (child_number index)
    → r ≡ and_then (children_at area starts) (child_named name (names_at names ids))
unfolding and_then SizedIn names_at
field_is names area starts ids name same-count index is r e = e ∙ rw is (go (children_at area starts) (children_sized area starts))
  where
    fields : List (List ℕ)
    fields = names_at names ids

    fields_long : length fields ≡ length starts
    fields_long = length-map ids (λ (id : ℕ). get_or names id []) ∙ same-count

    go : (K : Option (List Child)) → SizedIn area starts K
        → and_then K (child_number (position_in name fields)) ≡ and_then K (child_named name fields)
    go None sized = refl
    go (Some children) sized =
        named_number name fields children (fields_long ∙ ap length (sym sized.1) ∙ length-map children (λ (k : Child). k.start))
