-- Where a name or an index leads: the child that is found in a container's area, as a part of the container.
use Rattle.std.specs.Prelude.{Option, None, Some}
use mathlib.Core.Bool.{true}
use mathlib.Core.List.{List}
use mathlib.Core.Path.{◌≡◌, refl, sym, ap, ◌∙◌}
use Prim.Native.Nat.{ℕ, ◌+◌, ◌-◌, ◌≤◌}
use native.Mathlib.Omega.{arith}
use lib.ListN.{length, length-drop}
use Rattle.numbers.specs.Little.{number_at}
use Rattle.paper.specs.FirstBytes.{reading_of}
use Rattle.paper.specs.Metadata.{Dictionary}
use Rattle.paper.specs.Paths.{child_named, child_number, behind_head, into_field, into_element}
use Rattle.paper.specs.Values.{children_at, area_of, starts_of, ids_of, names_at, head_size_of, members_of, elements_of}
use Rattle.paper.specs.declared.Child.{Child}
use Rattle.paper.specs.declared.Reading.TheVariants.{ObjectHead, ArrayHead}
use Rattle.paper.specs.declared.Reading.{Reading}
use Rattle.paper.specs.Words.{at, and_then, is_there, all_below}
use Rattle.paths.specs.Places.{LawfulIn}
use Rattle.containers.specs.Layouts.{HeadThere}
use Rattle.containers.proofs.LayoutLaws.{ids_starts_length}
use Rattle.heads.proofs.HeadLaws.{container_some}
use Rattle.paths.proofs.HeldLaws.{element_held, field_held}
use Rattle.paths.proofs.LawfulLaws.{object_asks, object_members, array_asks, array_elements}
use Rattle.paths.proofs.PlaceLaws.{elements_are, members_are}

regroup : {A B C : Type 0} (x : Option A) (f : A → Option B) (g : B → Option C) → (and_then x λ a. and_then (f a) g) ≡ and_then (and_then x f) g
unfolding and_then
regroup None f g = refl
regroup (Some a) f g = refl

-- A child of the area, which lies inside the container.
module _ (s : List ℕ) (c i w : ℕ) (there : HeadThere s c i w) where
  abbrev head : ℕ
  head = head_size_of (number_at s 1 c) c i w

  area_long : length (area_of c i w s) ≡ length s - head
  unfolding area_of
  area_long = length-drop head s

  head_is : length s - length (area_of c i w s) ≡ head
  head_is = let fit = (container_some s c i w there.fills).head_there in let long = area_long in omega arith

  part_fits : (child : Child) → head + child.start + child.size ≤ length s → (length (area_of c i w s) ≤ length s) × (child.start + child.size ≤ length (area_of c i w s))
  part_fits child inside = let long = area_long in (omega arith, omega arith)

module _ {names : Dictionary} {s : List ℕ} (lawful : LawfulIn names s) {r : Reading} (told : r ≡ reading_of (at s 0)) where
  -- ---- an object

  module _ {c i w : ℕ} (e : r ≡ ObjectHead c i w) {ids starts area : List ℕ} (ids_are : ids ≡ ids_of c i s) (starts_are : starts ≡ starts_of c i w s)
      (area_is : area ≡ area_of c i w s) where
    members : (all_below (length names) (ids_of c i s) ≡ true) × (members_of names c i w s ≡ children_at (area_of c i w s) (starts_of c i w s))
    members = members_are names c i w s (object_members lawful r told c i w e)

    object_head : HeadThere s c i w
    object_head = (object_asks lawful r told c i w e).0

    pub field_asks : (is_there (children_at area starts) ≡ true) × (all_below (length names) ids ≡ true) × (length ids ≡ length starts)
    field_asks = rw (ids_are, starts_are, area_is) (
      ap is_there (sym members.1) ∙ object_members lawful r told c i w e,
      members.0,
      ids_starts_length s c i w object_head (object_asks lawful r told c i w e).1,
    )

    module _ (name : List ℕ) (found : Option Child) (is : found ≡ and_then (children_at area starts) (child_named name (names_at names ids))) where
      field_by : into_field names name (ObjectHead c i w) s ≡ and_then found λ child. Some (behind_head (head s c i w object_head) child)
      unfolding into_field
      field_by =
          regroup (members_of names c i w s) (child_named name (names_at names (ids_of c i s))) (λ child. Some (behind_head (head s c i w object_head) child))
          ∙ rw (members.1, is, ids_are, starts_are, area_is)

      pub field_none : found ≡ None → None ≡ into_field names name (reading_of (at s 0)) s
      unfolding and_then
      field_none lost = rw (← told, e, field_by, lost)

      module _ (child : Child) (here : found ≡ Some child) where
        field_here : into_field names name (ObjectHead c i w) s ≡ Some (behind_head (head s c i w object_head) child)
        unfolding and_then
        field_here = rw (field_by, here)

        pub field_part : (length area ≤ length s) × (child.start + child.size ≤ length area)
        unfolding behind_head
        field_part =
            rw area_is
            (part_fits s c i w object_head child (field_held names s c i w name _ (object_members lawful r told c i w e) field_here).inside)

        pub field_some : (q : Child) → q ≡ behind_head (length s - length area) child → Some q ≡ into_field names name (reading_of (at s 0)) s
        field_some q part = rw (← told, e, field_here, part, area_is, head_is s c i w object_head)

  -- ---- an array

  module _ {c w : ℕ} (e : r ≡ ArrayHead c w) {starts area : List ℕ} (starts_are : starts ≡ starts_of c 0 w s) (area_is : area ≡ area_of c 0 w s) where
    elements : elements_of c w s ≡ children_at (area_of c 0 w s) (starts_of c 0 w s)
    elements = elements_are c w s (array_elements lawful r told c w e)

    array_head : HeadThere s c 0 w
    array_head = array_asks lawful r told c w e

    pub element_asks : is_there (children_at area starts) ≡ true
    element_asks = rw (starts_are, area_is) (ap is_there (sym elements) ∙ array_elements lawful r told c w e)

    module _ (index : ℕ) (found : Option Child) (is : found ≡ and_then (children_at area starts) (child_number index)) where
      element_by : into_element index (ArrayHead c w) s ≡ and_then found λ child. Some (behind_head (head s c 0 w array_head) child)
      unfolding into_element
      element_by =
          regroup (elements_of c w s) (child_number index) (λ child. Some (behind_head (head s c 0 w array_head) child))
          ∙ rw (elements, is, starts_are, area_is)

      pub element_none : found ≡ None → None ≡ into_element index (reading_of (at s 0)) s
      unfolding and_then
      element_none lost = rw (← told, e, element_by, lost)

      module _ (child : Child) (here : found ≡ Some child) where
        element_here : into_element index (ArrayHead c w) s ≡ Some (behind_head (head s c 0 w array_head) child)
        unfolding and_then
        element_here = rw (element_by, here)

        pub element_part : (length area ≤ length s) × (child.start + child.size ≤ length area)
        unfolding behind_head
        element_part =
            rw area_is
            (part_fits s c 0 w array_head child (element_held s c w index _ (array_elements lawful r told c w e) element_here).inside)

        pub element_some : (q : Child) → q ≡ behind_head (length s - length area) child → Some q ≡ into_element index (reading_of (at s 0)) s
        element_some q part = rw (← told, e, element_here, part, area_is, head_is s c 0 w array_head)
