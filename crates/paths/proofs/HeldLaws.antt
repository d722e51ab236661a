-- The children of a lawful value are lawful, and lie inside it.
use Rattle.std.specs.Prelude.{Option, None, Some}
use mathlib.Core.Bool.{Bool, true, false, cond}
use mathlib.Core.List.{List, [], ◌∷◌}
use mathlib.Core.Path.{◌≡◌, sym, ◌∙◌}
use Prim.Native.Nat.{ℕ, zero, suc, ◌+◌, ◌-◌, ◌≤◌, ◌<◌}
use native.Mathlib.Omega.{arith}
use lib.ListN.{length, drop, length-drop}
use lib.Seq.{drop-drop}
use Rattle.numbers.specs.Little.{number_at}
use Rattle.paper.specs.Meaning.{Doc}
use Rattle.paper.specs.Metadata.{Dictionary}
use Rattle.paper.specs.Paths.{child_named, child_number, behind_head, into_field, into_element}
use Rattle.paper.specs.Values.{child_extent, children_at, child_bytes, area_of, starts_of, ids_of, names_at, head_size_of, members_of, elements_of}
use Rattle.paper.specs.declared.Child.{Child}
use Rattle.paper.specs.Words.{same, is_there}
use Rattle.paper.specs.declared.Reading.TheVariants.{ObjectHead, ArrayHead}
use Rattle.paths.specs.Places.{position_in}
use Rattle.values.specs.Insides.{all_good, insides_good}
use Rattle.paper.proofs.WordLaws.{never, then_some, some_there, and_both}
use Rattle.paths.proofs.PlaceLaws.{elements_are, members_are}
use Rattle.containers.proofs.ChildLaws.{AllSized, SizedIn, children_sized, extent_fits, extent_inside}
use Rattle.std.proofs.lemmas.Option.{same_Some}

-- ---- one of some children

number_sized : (area : List ℕ) (index : ℕ) (children : List Child) (child : Child) → AllSized area children → child_number index children ≡ Some child
    → child_extent area child.start ≡ Some child.size
unfolding child_number AllSized is_there
number_sized area index [] child sized e = never (sym (some_there None e))
number_sized area zero (first ∷ more) child sized e = rw (← same_Some first child e) sized.0
number_sized area (suc index) (first ∷ more) child sized e = number_sized area index more child sized.1 e

number_good : (inner : List ℕ → Option Doc) (area : List ℕ) (index : ℕ) (children : List Child) (child : Child) → all_good inner area children ≡ true
    → child_number index children ≡ Some child → is_there (inner (child_bytes area child)) ≡ true
unfolding child_number all_good is_there
number_good inner area index [] child good e = never (sym (some_there None e))
number_good inner area zero (first ∷ more) child good e =
    rw (← same_Some first child e) (and_both (is_there (inner (child_bytes area first))) (all_good inner area more) good).0
number_good inner area (suc index) (first ∷ more) child good e =
    number_good inner area index more child (and_both (is_there (inner (child_bytes area first))) (all_good inner area more) good).1 e

-- A name's child is the one of its position.
named_index : (name : List ℕ) (names : List (List ℕ)) (children : List Child) (child : Child) → child_named name names children ≡ Some child
    → child_number (position_in name names) children ≡ Some child
unfolding child_named child_number position_in is_there
named_index name [] children child e = never (sym (some_there None e))
named_index name (first ∷ names) [] child e = never (sym (some_there None e))
named_index name (first ∷ names) (one ∷ more) child e = go (same first name) e (named_index name names more child)
  where
    go : (b : Bool) → cond b (Some one) (child_named name names more) ≡ Some child
        → (child_named name names more ≡ Some child → child_number (position_in name names) more ≡ Some child)
        → child_number (cond b 0 (suc (position_in name names))) (one ∷ more) ≡ Some child
    go true f rest = f
    go false f rest = rest f

-- ---- a child of a container, as a part of it

module _ (s : List ℕ) (c i w : ℕ) (children : List Child) (are : children_at (area_of c i w s) (starts_of c i w s) ≡ Some children) (index : ℕ) (child : Child)
    (e : child_number index children ≡ Some child) where
  sized : child_extent (area_of c i w s) child.start ≡ Some child.size
  unfolding SizedIn
  sized = number_sized (area_of c i w s) index children child (let all = rw are at (children_sized (area_of c i w s) (starts_of c i w s)) in all.0) e

  pub held_inside : head_size_of (number_at s 1 c) c i w + child.start + child.size ≤ length s
  unfolding area_of
  held_inside =
      let fit : child.start + child.size ≤ length (drop (head_size_of (number_at s 1 c) c i w) s) = (extent_fits (area_of c i w s) child.start child.size sized).1 in
      let inside : child.start < length (drop (head_size_of (number_at s 1 c) c i w) s) = extent_inside (area_of c i w s) child.start child.size sized in
      let long : length (drop (head_size_of (number_at s 1 c) c i w) s) ≡ length s - head_size_of (number_at s 1 c) c i w = length-drop (head_size_of (number_at s 1 c) c i w) s in
      omega arith

  pub held_bytes : child_bytes s (behind_head (head_size_of (number_at s 1 c) c i w) child) ≡ child_bytes (area_of c i w s) child
  unfolding child_bytes behind_head area_of
  held_bytes = rw drop-drop

  pub held_good : (inner : List ℕ → Option Doc) → insides_good inner (area_of c i w s) (children_at (area_of c i w s) (starts_of c i w s)) ≡ true
      → is_there (inner (child_bytes s (behind_head (head_size_of (number_at s 1 c) c i w) child))) ≡ true
  unfolding insides_good
  held_good inner good =
      rw held_bytes (number_good inner (area_of c i w s) index children child (rw are at good) e)

-- ---- where a step into a container leads

-- It leads into the container, and is lawful where the children's insides are.
pub record Held (s : List ℕ) (c i w : ℕ) (child : Child) : Type 0 where
  pub inside : child.start + child.size ≤ length s
  pub good : (inner : List ℕ → Option Doc) → insides_good inner (area_of c i w s) (children_at (area_of c i w s) (starts_of c i w s)) ≡ true
      → is_there (inner (child_bytes s child)) ≡ true

held : (s : List ℕ) (c i w : ℕ) (children : List Child) → children_at (area_of c i w s) (starts_of c i w s) ≡ Some children
    → (index : ℕ) (one : Child) → child_number index children ≡ Some one → (child : Child) → behind_head (head_size_of (number_at s 1 c) c i w) one ≡ child
    → Held s c i w child
unfolding behind_head
held s c i w children are index one e child same-child =
    rw (← same-child) (record { inside = held_inside s c i w children are index one e; good = held_good s c i w children are index one e })

pub element_held : (s : List ℕ) (c w index : ℕ) (child : Child) → is_there (elements_of c w s) ≡ true → into_element index (ArrayHead c w) s ≡ Some child
    → Held s c 0 w child
unfolding into_element
element_held s c w index child lawful e =
    let first = then_some (elements_of c w s) _ e in
    let second = then_some (child_number index first.0) _ first.2 in
    held s c 0 w first.0 (sym (elements_are c w s lawful) ∙ first.1) index second.0 second.1 child (same_Some _ child second.2)

pub field_held : (names : Dictionary) (s : List ℕ) (c i w : ℕ) (name : List ℕ) (child : Child) → is_there (members_of names c i w s) ≡ true
    → into_field names name (ObjectHead c i w) s ≡ Some child → Held s c i w child
unfolding into_field
field_held names s c i w name child lawful e =
    let first = then_some (members_of names c i w s) _ e in
    let second = then_some (child_named name (names_at names (ids_of c i s)) first.0) _ first.2 in
    held s c i w first.0 (sym (members_are names c i w s lawful).1 ∙ first.1)
    (position_in name (names_at names (ids_of c i s))) second.0 (named_index name (names_at names (ids_of c i s)) first.0 second.0 second.1)
    child (same_Some _ child second.2)
