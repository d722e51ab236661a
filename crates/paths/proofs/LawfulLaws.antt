-- A lawful value by its first byte, and that where a step leads is a lawful value again.
use Rattle.std.specs.Prelude.{Option, None, Some}
use mathlib.Core.Bool.{true, ◌&&◌}
use mathlib.Core.List.{List}
use mathlib.Core.Path.{◌≡◌, refl, sym, ◌∙◌}
use Prim.Native.Nat.{ℕ, zero, suc, ◌+◌, ◌≤◌, ◌<◌}
use native.Mathlib.Omega.{arith}
use lib.ListN.{length, length-take, length-drop}
use Rattle.paper.specs.FirstBytes.{reading_of}
use Rattle.paper.specs.Metadata.{Dictionary, rising}
use Rattle.paper.specs.Paths.{into_field, into_element, step_into}
use Rattle.paper.specs.Standing.{Step, by_name, by_index}
use Rattle.paper.specs.Values.{children_at, child_bytes, area_of, starts_of, ids_of, names_at, members_of, elements_of, meaning_by, meaning_of, whole}
use Rattle.paper.specs.declared.Child.{Child}
use Rattle.paper.specs.Words.{at, and_then, is_there, all_below}
use Rattle.paper.specs.declared.Reading.TheVariants.{Fixed, Prefixed, Short, ObjectHead, ArrayHead, Nothing}
use Rattle.paper.specs.declared.Reading.{Reading}
use Rattle.paths.specs.Places.{LawfulIn}
use Rattle.containers.specs.Children.{tiled_in, once_in}
use Rattle.containers.specs.Layouts.{HeadThere}
use Rattle.paper.proofs.WordLaws.{never, there_given, some_there, and_both}
use Rattle.paths.proofs.HeldLaws.{element_held, field_held}
use Rattle.containers.proofs.LayoutLaws.{ids_starts_length}
use Rattle.values.proofs.ValueLaws.{array_container, object_container, object_id, whole_some}
use Rattle.values.proofs.VerdictLaws.{array_verdict, object_verdict}

-- ---- a lawful value by its first byte

first_there : {A B : Type 0} (x : Option A) (next : A → Option B) → is_there (and_then x next) ≡ true → is_there x ≡ true
unfolding and_then is_there
first_there None next e = e
first_there (Some a) next e = refl

-- What a lawful value tells: it fills its bytes, and its first byte's rules hold one level further in.
record Meant (names : Dictionary) (s : List ℕ) : Type 0 where
  levels : ℕ
  fills : whole s ≡ true
  by : is_there (meaning_by (meaning_of levels names) names (reading_of (at s 0)) s) ≡ true

module _ {names : Dictionary} {s : List ℕ} (lawful : LawfulIn names s) where
  meant : Meant names s
  unfolding meaning_of is_there
  meant = go lawful.levels lawful.meant
    where
      go : (levels : ℕ) → is_there (meaning_of levels names s) ≡ true → Meant names s
      go zero e = never (sym e)
      go (suc n) e =
          let both = and_both (whole s) _ (sym (there_given (whole s) (meaning_by (meaning_of n names) names (reading_of (at s 0)) s)) ∙ e) in
          record { levels = n; fills = both.0; by = both.1 }

  pub lawful_some : 0 < length s
  lawful_some = whole_some s meant.fills

  members_in : (c i w : ℕ) → reading_of (at s 0) ≡ ObjectHead c i w → is_there (members_of names c i w s) ≡ true
  unfolding meaning_by
  members_in c i w e = first_there (members_of names c i w s) _ (rw e at meant.by)

  elements_in : (c w : ℕ) → reading_of (at s 0) ≡ ArrayHead c w → is_there (elements_of c w s) ≡ true
  unfolding meaning_by
  elements_in c w e = first_there (elements_of c w s) _ (rw e at meant.by)

  module _ (r : Reading) (told : r ≡ reading_of (at s 0)) where
    pub object_asks : (c i w : ℕ) → r ≡ ObjectHead c i w → HeadThere s c i w × (1 ≤ i)
    object_asks c i w e =
        (object_container s meant.fills r told c i w e lawful.small, object_id s meant.fills r told c i w e)

    pub object_members : (c i w : ℕ) → r ≡ ObjectHead c i w → is_there (members_of names c i w s) ≡ true
    object_members c i w e = members_in c i w (sym told ∙ e)

    pub array_asks : (c w : ℕ) → r ≡ ArrayHead c w → HeadThere s c 0 w
    array_asks c w e = array_container s meant.fills r told c w e lawful.small

    pub array_elements : (c w : ℕ) → r ≡ ArrayHead c w → is_there (elements_of c w s) ≡ true
    array_elements c w e = elements_in c w (sym told ∙ e)

  -- ---- where a step leads is lawful again

  again : (child : Child) → child.start + child.size ≤ length s → is_there (meaning_of meant.levels names (child_bytes s child)) ≡ true
      → (child.start + child.size ≤ length s) × LawfulIn names (child_bytes s child)
  unfolding child_bytes
  again child inside good =
      let small = lawful.small in
      (inside, record { levels = meant.levels; meant = good; small = rw (length-take, length-drop) (omega arith) })

  into_held : (r : Reading) → reading_of (at s 0) ≡ r → (name : List ℕ) (child : Child) → into_field names name r s ≡ Some child
      → (child.start + child.size ≤ length s) × LawfulIn names (child_bytes s child)
  unfolding into_field is_there
  into_held (Fixed code size) e name child f = never (sym (some_there None f))
  into_held (Prefixed code) e name child f = never (sym (some_there None f))
  into_held (Short size) e name child f = never (sym (some_there None f))
  into_held (ArrayHead c w) e name child f = never (sym (some_there None f))
  into_held Nothing e name child f = never (sym (some_there None f))
  into_held (ObjectHead c i w) e name child f =
      let container = object_container s meant.fills (reading_of (at s 0)) refl c i w e lawful.small in
      let least = object_id s meant.fills (reading_of (at s 0)) refl c i w e in
      let by : is_there (meaning_by (meaning_of meant.levels names) names (ObjectHead c i w) s) ≡ true = rw e at meant.by in
      let verdict = object_verdict (meaning_of meant.levels names) names s c i w (ids_starts_length s c i w container least) in
      let lie = and_both (all_below (length names) (ids_of c i s) && rising (names_at names (ids_of c i s))) _ (sym verdict ∙ by) in
      let insides = and_both (once_in (length (area_of c i w s)) (children_at (area_of c i w s) (starts_of c i w s))) _ lie.1 in
      let has = field_held names s c i w name child (members_in c i w e) f in
      again child has.inside (has.good (meaning_of meant.levels names) insides.1)

  into_element-held : (r : Reading) → reading_of (at s 0) ≡ r → (index : ℕ) (child : Child) → into_element index r s ≡ Some child
      → (child.start + child.size ≤ length s) × LawfulIn names (child_bytes s child)
  unfolding into_element is_there
  into_element-held (Fixed code size) e index child f = never (sym (some_there None f))
  into_element-held (Prefixed code) e index child f = never (sym (some_there None f))
  into_element-held (Short size) e index child f = never (sym (some_there None f))
  into_element-held (ObjectHead c i w) e index child f = never (sym (some_there None f))
  into_element-held Nothing e index child f = never (sym (some_there None f))
  into_element-held (ArrayHead c w) e index child f =
      let by : is_there (meaning_by (meaning_of meant.levels names) names (ArrayHead c w) s) ≡ true = rw e at meant.by in
      let verdict = array_verdict (meaning_of meant.levels names) names s c w in
      let insides = and_both (tiled_in (length (area_of c 0 w s)) (children_at (area_of c 0 w s) (starts_of c 0 w s))) _ (sym verdict ∙ by) in
      let has = element_held s c w index child (elements_in c w e) f in
      again child has.inside (has.good (meaning_of meant.levels names) insides.1)

  pub step_held : (step : Step) (child : Child) → step_into names step s ≡ Some child
      → (child.start + child.size ≤ length s) × LawfulIn names (child_bytes s child)
  unfolding step_into
  step_held (by_name name) child e = into_held (reading_of (at s 0)) refl name child e
  step_held (by_index index) child e = into_element-held (reading_of (at s 0)) refl index child e
