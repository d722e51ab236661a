-- The side of a name in a lawful object: nothing where no child has the name, else what the child's bytes say.
use Rattle.std.specs.Prelude.{Float, Option, None, Some}
use mathlib.Core.Bool.{true}
use mathlib.Core.List.{List}
use mathlib.Core.Path.{◌≡◌, sym, ◌∙◌}
use Prim.Native.Nat.{ℕ, ◌+◌, ◌-◌, ◌^◌, ◌≤◌, ◌<◌}
use native.Mathlib.Omega.{arith}
use lib.ListN.{length, take, drop}
use mir.Syntax.{w64}
use mir.Val.{Fits}
use Rattle.boxes.specs.Sides.{side_by, Lawful, Means, LawfulObject}
use Rattle.paper.specs.Boxes.{double_of, side, box_in, box_of}
use Rattle.paper.specs.FirstBytes.{reading_of}
use Rattle.paper.specs.Limits.{most_levels}
use Rattle.paper.specs.Meaning.{Doc, Fields}
use Rattle.paper.specs.Metadata.{Dictionary}
use Rattle.paper.specs.Paths.{child_named}
use Rattle.paper.specs.Standing.{field_at}
use Rattle.paper.specs.Values.{children_at, child_bytes, area_of, starts_of, ids_of, names_at, meaning_of, whole}
use Rattle.paper.specs.declared.Child.{Child}
use Rattle.paper.specs.declared.LotBox.{LotBox}
use Rattle.paper.specs.Words.{at, and_then, is_there, all_below}
use Rattle.paper.specs.declared.Reading.TheVariants.{ObjectHead}
use Rattle.paper.specs.declared.Reading.{Reading}
use Rattle.containers.specs.Layouts.{HeadThere}
use Rattle.boxes.proofs.DoubleLaws.{meant}
use Rattle.boxes.proofs.MemberLaws.{made_of, ids_below, field_named, named_means, named_within}
use Rattle.paper.proofs.WordLaws.{there_some, some_there}
use Rattle.containers.proofs.ChildLaws.{SizedIn, children_sized}
use Rattle.containers.proofs.LayoutLaws.{ids_starts_length}
use Rattle.containers.proofs.WalkLaws.{all_within}
use Rattle.containers.proofs.CoverLaws.{AllWithin}
use Rattle.values.proofs.ValueLaws.{object_container, object_id, whole_some}

-- ---- a lawful value, and the object that it may be

module _ {names : Dictionary} {s : List ℕ} (lawful : Lawful names s) where
  means : (d : Doc) × (meaning_of most_levels names s ≡ Some d)
  means = there_some (meaning_of most_levels names s) lawful.means

  fills : whole s ≡ true
  fills = (meant most_levels names s means.1).fills

  pub lawful_some : 0 < length s
  lawful_some = whole_some s fills

  module _ {r : Reading} (told : r ≡ reading_of (at s 0)) {c i w : ℕ} (e : r ≡ ObjectHead c i w) where
    pub object_asks : HeadThere s c i w × (1 ≤ i)
    object_asks = (object_container s fills r told c i w e lawful.small, object_id s fills r told c i w e)

    reads : reading_of (at s 0) ≡ ObjectHead c i w
    reads = sym told ∙ e

    module _ {ids starts area : List ℕ} (ids_are : ids ≡ ids_of c i s) (starts_are : starts ≡ starts_of c i w s) (area_is : area ≡ area_of c i w s) where
      pub lawful_object : LawfulObject names ids starts area
      lawful_object =
          let made = made_of most_levels names c i w s reads means.1 in
          rw (ids_are, starts_are, area_is) (record {
            fields = made.0;
            means = made.2;
            below = ids_below most_levels names c i w s reads means.1;
            count = ids_starts_length s c i w object_asks.0 object_asks.1;
          })

      -- the box of an object is the box in its fields
      pub object_box : (r : Option LotBox) → ((fs : Fields) → Means names ids starts area fs → r ≡ box_in fs)
          → (d : Doc) → meaning_of most_levels names s ≡ Some d → r ≡ box_of d
      unfolding box_of
      object_box r says d f =
          let made = made_of most_levels names c i w s reads f in
          rw made.1 (says made.0 (rw (ids_are, starts_are, area_is) made.2))

-- ---- a side of an opened object

module _ {names : Dictionary} {ids starts area : List ℕ} (lot : LawfulObject names ids starts area) where
  pub field_asks : (is_there (children_at area starts) ≡ true) × (all_below (length names) ids ≡ true) × (length ids ≡ length starts)
  field_asks = (some_there (children_at area starts) lot.means.are, lot.below, lot.count)

  -- the names of its fields
  abbrev field_names : List (List ℕ)
  field_names = names_at names ids

  within : {fs : Fields} (ms : Means names ids starts area fs) → AllWithin (length area) ms.children
  unfolding SizedIn
  within ms =
      let sized : SizedIn area starts (Some ms.children) = rw ms.are at (children_sized area starts) in
      all_within area ms.children sized.0

  module _ (name : List ℕ) (r : Option Child) (told : r ≡ and_then (children_at area starts) (child_named name field_names)) where
    -- what the place says of the children that the object's meaning is made of
    named : {fs : Fields} (ms : Means names ids starts area fs) {x : Option Child} → r ≡ x → child_named name field_names ms.children ≡ x
    unfolding and_then
    named ms e = rw ms.are at (sym told ∙ e)

    field_is : {fs : Fields} (ms : Means names ids starts area fs)
        → field_at name fs ≡ and_then (child_named name field_names ms.children) (λ child. meaning_of ms.levels names (child_bytes area child))
    field_is {fs} ms = field_named (meaning_of ms.levels names) area name field_names ms.children fs ms.docs

    pub no_side : r ≡ None → (fs : Fields) → Means names ids starts area fs → None ≡ side_by (side name fs)
    unfolding side side_by and_then
    no_side e fs ms = rw (field_is ms, named ms e)

    module _ (child : Child) (e : r ≡ Some child) where
      pub side_in_area : child.start + child.size ≤ length area
      side_in_area = named_within (length area) name field_names lot.means.children (within lot.means) (named lot.means e)

      pub side_fits : length area < 2 ^ 64 → Fits w64 (child.start + child.size)
      side_fits small = let fit = side_in_area in record { fits = omega arith }

      own_is : take (child.start + child.size - child.start) (drop child.start area) ≡ child_bytes area child
      unfolding child_bytes
      own_is = let cut : child.start + child.size - child.start ≡ child.size = omega arith in rw cut

      pub side_whole : whole (take (child.start + child.size - child.start) (drop child.start area)) ≡ true
      side_whole =
          let ms = lot.means in
          let means = named_means (meaning_of ms.levels names) area name field_names ms.children ms.docs (named ms e) in
          rw own_is (meant ms.levels names (child_bytes area child) means.1).fills

      pub side_read : (q : Option Float)
          → ((levels : ℕ) (names : Dictionary) (d : Doc) → meaning_of levels names (take (child.start + child.size - child.start) (drop child.start area)) ≡ Some d → q ≡ side_by (double_of d))
          → (fs : Fields) → Means names ids starts area fs → q ≡ side_by (side name fs)
      unfolding side and_then
      side_read q says fs ms =
          let means = named_means (meaning_of ms.levels names) area name field_names ms.children ms.docs (named ms e) in
          rw (field_is ms, named ms e, means.1) (says ms.levels names means.0 (rw own_is means.1))
