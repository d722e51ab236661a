-- What a place shows is what stands there: one step at a time. An element of a lawful list is there (rule e); a field of a name that
-- the node names comes from its place alone, as the names of a node differ and the leftover has none of them (rule c).
use Rattle.std.specs.Prelude.{Option, None, Some}
use mathlib.Core.Bool.{Bool, true, false, cond, not, ◌&&◌, ◌||◌}
use mathlib.Core.List.{List, [], ◌∷◌}
use mathlib.Core.Path.{◌≡◌, refl, sym, ap, ◌∙◌}
use Prim.Native.Nat.{ℕ, zero, suc, ◌-◌}
use borrow.Author.Tests.{not-true}
use Rattle.names.proofs.RisingLaws.{rising_more, rising_once}
use Rattle.names.proofs.SameLaws.{same_is}
use Rattle.order.proofs.OrderLaws.{equal_same}
use Rattle.std.specs.declared.cmp.Ordering.{Ordering}
use Rattle.std.specs.declared.cmp.Ordering.TheVariants.{Less, Equal, Greater}
use Rattle.order.specs.Before.{order_of}
use Rattle.paper.proofs.WordLaws.{never, then_some, and_both}
use Rattle.paper.specs.Meaning.{Doc, null, scalar, array, object, Fields, no_fields, field}
use Rattle.paper.specs.Metadata.{Dictionary, rising}
use Rattle.paper.specs.Rebuilding.{insert_field_by, insert_field, merge, fields_in, or_null, place_meaning_by, inner_doc, list_meaning, add_field, place_meaning, fields_meaning}
use Rattle.paper.specs.Rows.{Place, empty, leftover, typed, both, Typed, cell, inner, Places, no_places, place}
use Rattle.paper.specs.Rules.{has_leftover, has_typed, leftover_of, is_fields_node, named_by, any_named, has_any, breaks_a, breaks_b, breaks_c, breaks_e, elements_lawful, place_lawful}
use Rattle.paper.specs.Schemas.{Schema, leftover_only, column, list, fields, SchemaFields, none_named, named, column_names}
use Rattle.paper.specs.Standing.{Step, by_name, by_index, field_at, element_at, step_from, stands_at}
use Rattle.paper.specs.Words.{and_then, same, among}
use Rattle.schemas.proofs.GoodLaws.{good_element, good_object, good_field}
use Rattle.schemas.specs.Written.{good_schema, good_fields}
use Rattle.promises.specs.Walking.{Stop, inner_in, inner_of, place_number, place_named, step_to, place_at}
use Rattle.promises.proofs.WalkingLaws.{nowhere, or_none, same_stop, own_kept, elements_lawful_lem, element_holds, field_holds, lawful_step}
use Rattle.std.proofs.lemmas.Option.{same_Some}

-- ---- a field of a name, among merged fields

insert_other : (name own : List ℕ) (d : Doc) (fs : Fields) → same own name ≡ false → field_at name (insert_field own d fs) ≡ field_at name fs
unfolding insert_field insert_field_by field_at
insert_other name own d no_fields other = rw other
insert_other name own d (field first e more) other = go (order_of own first) refl (insert_other name own d more other)
  where
    go : (o : Ordering) → order_of own first ≡ o → field_at name (insert_field own d more) ≡ field_at name more
        → field_at name (insert_field_by o own d first e more (insert_field own d more)) ≡ cond (same first name) (Some e) (field_at name more)
    go Less is rest = rw other
    go Equal is rest = rw (other, ← equal_same own first is, other)
    go Greater is rest = rw rest

merge_other : (names : List (List ℕ)) (name : List ℕ) (left others : Fields) → among name names ≡ true → any_named names left ≡ false
    → field_at name (merge left others) ≡ field_at name others
unfolding merge any_named
merge_other names name no_fields others there apart = refl
merge_other names name (field own d left) others there apart = go (among own names) refl apart (merge_other names name left others there)
  where
    differs : (b : Bool) → same own name ≡ b → among own names ≡ false → b ≡ false
    differs false e absent = refl
    differs true e absent = never (sym there ∙ ap (λ (n : List ℕ). among n names) (sym (same_is own name e)) ∙ absent)

    go : (b : Bool) → among own names ≡ b → b || any_named names left ≡ false
        → (any_named names left ≡ false → field_at name (merge left others) ≡ field_at name others)
        → field_at name (insert_field own d (merge left others)) ≡ field_at name others
    go true is apart rest = never apart
    go false is apart rest = insert_other name own d (merge left others) (differs _ refl is) ∙ rest apart

-- ---- a field of a name, by its place

not_meant : (name : List ℕ) (columns : SchemaFields) (ps : Places) → among name (column_names columns) ≡ false
    → field_at name (fields_meaning columns ps) ≡ None
unfolding fields_meaning column_names among field_at add_field
not_meant name none_named ps absent = refl
not_meant name (named own node columns) no_places absent = refl
not_meant name (named own node columns) (place p ps) absent = go (same own name) refl absent (place_meaning node p) (not_meant name columns ps)
  where
    go : (b : Bool) → same own name ≡ b → b || among name (column_names columns) ≡ false → (x : Option Doc)
        → (among name (column_names columns) ≡ false → field_at name (fields_meaning columns ps) ≡ None)
        → field_at name (add_field own x (fields_meaning columns ps)) ≡ None
    go true is absent x rest = never absent
    go false is absent None rest = rest absent
    go false is absent (Some d) rest = rw is (rest absent)

pub field_shown : (name : List ℕ) (columns : SchemaFields) (ps : Places) (stop : Stop) → rising (column_names columns) ≡ true
    → place_named name columns ps ≡ Some stop → field_at name (fields_meaning columns ps) ≡ place_meaning stop.node stop.held
unfolding place_named fields_meaning column_names field_at add_field
field_shown name none_named ps stop rise found = nowhere found
field_shown name (named own node columns) no_places stop rise found = nowhere found
field_shown name (named own node columns) (place p ps) stop rise found =
    go (same own name) refl found (field_shown name columns ps stop (rising_more own (column_names columns) rise))
  where
    here : same own name ≡ true → (x : Option Doc) → field_at name (add_field own x (fields_meaning columns ps)) ≡ x
    here is None = not_meant name columns ps (rw (← same_is own name is) (rising_once own (column_names columns) rise))
    here is (Some d) = rw is

    behind : same own name ≡ false → (x : Option Doc) → field_at name (add_field own x (fields_meaning columns ps)) ≡ field_at name (fields_meaning columns ps)
    behind is None = refl
    behind is (Some d) = rw is

    go : (b : Bool) → same own name ≡ b → cond b (Some (record { node = node; held = p })) (place_named name columns ps) ≡ Some stop
        → (place_named name columns ps ≡ Some stop → field_at name (fields_meaning columns ps) ≡ place_meaning stop.node stop.held)
        → field_at name (add_field own (place_meaning node p) (fields_meaning columns ps)) ≡ place_meaning stop.node stop.held
    go true is found rest =
        same_stop (λ n q. field_at name (add_field own (place_meaning node p) (fields_meaning columns ps)) ≡ place_meaning n q) node p stop found
        (here is (place_meaning node p))
    go false is found rest = behind is (place_meaning node p) ∙ rest found

pub found_named : (name : List ℕ) (columns : SchemaFields) (ps : Places) (stop : Stop) → place_named name columns ps ≡ Some stop
    → among name (column_names columns) ≡ true
unfolding place_named column_names among
found_named name none_named ps stop found = nowhere found
found_named name (named own node columns) no_places stop found = nowhere found
found_named name (named own node columns) (place p ps) stop found = go (same own name) found (found_named name columns ps stop)
  where
    go : (b : Bool) → cond b (Some (record { node = node; held = p })) (place_named name columns ps) ≡ Some stop
        → (place_named name columns ps ≡ Some stop → among name (column_names columns) ≡ true) → b || among name (column_names columns) ≡ true
    go true found rest = refl
    go false found rest = rest found

-- ---- an element, by its place

present_by : (means : Typed → Doc) (q : Place) → breaks_e q ≡ false → Some (or_null (place_meaning_by means q)) ≡ place_meaning_by means q
unfolding place_meaning_by or_null breaks_e has_leftover has_typed
present_by means empty there = never there
present_by means (leftover d) there = refl
present_by means (typed t) there = refl
present_by means (both d t) there = refl

present : (node : Schema) (q : Place) → breaks_e q ≡ false → Some (or_null (place_meaning node q)) ≡ place_meaning node q
unfolding place_meaning
present leftover_only q there = present_by _ q there
present (column said) q there = present_by _ q there
present (list element) q there = present_by _ q there
present (fields columns) q there = present_by _ q there

element_shown : (means : Place → Option Doc) (index : ℕ) (ps : Places) (q : Place) → place_number index ps ≡ Some q
    → element_at index (list_meaning means ps) ≡ Some (or_null (means q))
unfolding place_number list_meaning element_at
element_shown means index no_places q found = nowhere found
element_shown means zero (place p ps) q found = ap (λ (p : Place). Some (or_null (means p))) (same_Some p q found)
element_shown means (suc index) (place p ps) q found = element_shown means index ps q found

-- ---- one step

no_named : (name : List ℕ) (columns : SchemaFields) → place_named name columns no_places ≡ None
unfolding place_named
no_named name none_named = refl
no_named name (named own node columns) = refl

unnamed_beside : (columns : SchemaFields) (d : Doc) → has_any (column_names columns) d ≡ false → any_named (column_names columns) (fields_in d) ≡ false
unfolding has_any fields_in any_named
unnamed_beside columns null nothing = refl
unnamed_beside columns (scalar value) nothing = refl
unnamed_beside columns (array ds) nothing = refl
unnamed_beside columns (object fs) nothing = nothing

-- A leftover beside something typed has none of the node's names (rule c).
pub beside_unnamed : (columns : SchemaFields) (names : Dictionary) (d : Doc) (t : Typed) → place_lawful (fields columns) names (both d t) ≡ true
    → has_any (column_names columns) d ≡ false
unfolding place_lawful breaks_a breaks_c has_leftover has_typed is_fields_node named_by leftover_of
beside_unnamed columns names d t lawful =
    let kept = (own_kept (fields columns) _ (both d t) lawful).0 in
    (or_none (has_any (column_names columns) d) _ (or_none (breaks_b (both d t)) _ kept).1).0

module _ (names : Dictionary) where
  -- An element of a lawful list is not empty.
  element_there : (element : Schema) (p : Place) (index : ℕ) (q : Place) → place_lawful (list element) names p ≡ true
      → place_number index (inner_of p) ≡ Some q → breaks_e q ≡ false
  unfolding elements_lawful
  element_there element p index q lawful found =
      element_holds (λ ps. elements_lawful (λ q. place_lawful element names q) ps ≡ true) (λ q. breaks_e q ≡ false)
      (λ p ps all.
      let own = and_both (not (breaks_e p) && place_lawful element names p) _ all in
      (not-true (breaks_e p) (and_both (not (breaks_e p)) _ own.0).0, own.1))
      index (inner_of p) q (elements_lawful_lem names element p lawful) found

  list_shown : (element : Schema) (p : Place) (d : Doc) (index : ℕ) (next : Stop) → place_lawful (list element) names p ≡ true
      → place_meaning (list element) p ≡ Some d → step_to (list element) p (by_index index) ≡ Some next
      → step_from d (by_index index) ≡ place_meaning next.node next.held
  unfolding step_to inner_of inner_in place_number and_then place_meaning place_meaning_by inner_doc step_from place_lawful breaks_a has_leftover has_typed is_fields_node
  list_shown element empty d index next lawful means found = nowhere found
  list_shown element (leftover e) d index next lawful means found = nowhere found
  list_shown element (typed (cell said value)) d index next lawful means found = nowhere found
  list_shown element (typed (inner ps)) d index next lawful means found =
      let q = then_some (place_number index ps) _ found in
      let shown : element_at index (list_meaning (λ p. place_meaning element p) ps) ≡ place_meaning element q.0 =
      element_shown (λ p. place_meaning element p) index ps q.0 q.1
      ∙ present element q.0 (element_there element (typed (inner ps)) index q.0 lawful q.1) in
      rw (← same_Some _ d means) (same_stop (λ n q. element_at index (list_meaning (λ p. place_meaning element p) ps) ≡ place_meaning n q) element q.0 next q.2 shown)
  list_shown element (both e t) d index next lawful means found = never (own_kept (list element) _ (both e t) lawful).0

  fields_shown : (columns : SchemaFields) (p : Place) (d : Doc) (name : List ℕ) (next : Stop) → rising (column_names columns) ≡ true
      → place_lawful (fields columns) names p ≡ true → place_meaning (fields columns) p ≡ Some d → step_to (fields columns) p (by_name name) ≡ Some next
      → step_from d (by_name name) ≡ place_meaning next.node next.held
  unfolding step_to inner_of inner_in place_meaning place_meaning_by inner_doc fields_in step_from
  fields_shown columns empty d name next rise lawful means found = nowhere (sym (no_named name columns) ∙ found)
  fields_shown columns (leftover e) d name next rise lawful means found = nowhere (sym (no_named name columns) ∙ found)
  fields_shown columns (typed (cell said value)) d name next rise lawful means found = nowhere (sym (no_named name columns) ∙ found)
  fields_shown columns (typed (inner ps)) d name next rise lawful means found =
      rw (← same_Some _ d means) (field_shown name columns ps next rise found)
  fields_shown columns (both e (cell said value)) d name next rise lawful means found = nowhere (sym (no_named name columns) ∙ found)
  fields_shown columns (both e (inner ps)) d name next rise lawful means found =
      rw (← same_Some _ d means)
      (merge_other (column_names columns) name (fields_in e) (fields_meaning columns ps) (found_named name columns ps next found)
      (unnamed_beside columns e (beside_unnamed columns names e (inner ps) lawful))
      ∙ field_shown name columns ps next rise found)

-- ---- along a path

-- A node of a good schema.
abbrev pub Good : Schema → Type 0
Good node = (levels : ℕ) × (good_schema node levels ≡ true)

good_step : (node : Schema) (p : Place) (step : Step) (next : Stop) → Good node → step_to node p step ≡ Some next → Good next.node
unfolding step_to
good_step leftover_only p step next good found = nowhere found
good_step (column said) p step next good found = nowhere found
good_step (list element) p (by_name name) next good found = nowhere found
good_step (list element) p (by_index index) next good found =
    let q = then_some (place_number index (inner_of p)) _ found in
    same_stop (λ node p. Good node) element q.0 next q.2 (good.0 - 1, good_element element good.0 good.1)
good_step (fields columns) p (by_index index) next good found = nowhere found
good_step (fields columns) p (by_name name) next good found =
    field_holds (λ columns ps. (levels : ℕ) × (good_fields columns levels ≡ true)) (λ node p. Good node)
    (λ name node columns p ps all. let parts = good_field name node columns all.0 all.1 in ((all.0, parts.0), (all.0, parts.1)))
    name columns (inner_of p) next (good.0 - 1, (good_object columns good.0 good.1).inside) found

shown_step : (names : Dictionary) (node : Schema) (p : Place) (d : Doc) (step : Step) (next : Stop) → Good node → place_lawful node names p ≡ true
    → place_meaning node p ≡ Some d → step_to node p step ≡ Some next → step_from d step ≡ place_meaning next.node next.held
unfolding step_to
shown_step names leftover_only p d step next good lawful means found = nowhere found
shown_step names (column said) p d step next good lawful means found = nowhere found
shown_step names (list element) p d (by_name name) next good lawful means found = nowhere found
shown_step names (list element) p d (by_index index) next good lawful means found = list_shown names element p d index next lawful means found
shown_step names (fields columns) p d (by_index index) next good lawful means found = nowhere found
shown_step names (fields columns) p d (by_name name) next good lawful means found =
    fields_shown names columns p d name next (good_object columns good.0 good.1).rise lawful means found

-- From an empty place there is no step, and it shows nothing.
empty_step : (node : Schema) (step : Step) → step_to node empty step ≡ None
unfolding step_to inner_of place_number and_then
empty_step leftover_only step = refl
empty_step (column said) step = refl
empty_step (list element) (by_name name) = refl
empty_step (list element) (by_index index) = refl
empty_step (fields columns) (by_name name) = no_named name columns
empty_step (fields columns) (by_index index) = refl

nothing_by : (means : Typed → Doc) (q : Place) → place_meaning_by means q ≡ None → q ≡ empty
unfolding place_meaning_by
nothing_by means empty nothing = refl
nothing_by means (leftover d) nothing = nowhere (sym nothing)
nothing_by means (typed t) nothing = nowhere (sym nothing)
nothing_by means (both d t) nothing = nowhere (sym nothing)

nothing_shown : (node : Schema) (q : Place) → place_meaning node q ≡ None → q ≡ empty
unfolding place_meaning
nothing_shown leftover_only q nothing = nothing_by _ q nothing
nothing_shown (column said) q nothing = nothing_by _ q nothing
nothing_shown (list element) q nothing = nothing_by _ q nothing
nothing_shown (fields columns) q nothing = nothing_by _ q nothing

pub empty_nowhere : {A : Type 0} (node : Schema) (q : Place) (step : Step) (more : List Step) (stop : Stop) → place_meaning node q ≡ None
    → place_at node q (step ∷ more) ≡ Some stop → A
unfolding place_at
empty_nowhere node q step more stop nothing found =
    let first = then_some (step_to node q step) _ found in
    nowhere (sym (empty_step node step) ∙ ap (λ (p : Place). step_to node p step) (sym (nothing_shown node q nothing)) ∙ first.1)

empty_stays : (path : List Step) (node : Schema) (q : Place) (stop : Stop) → place_meaning node q ≡ None → place_at node q path ≡ Some stop
    → place_meaning stop.node stop.held ≡ None
unfolding place_at
empty_stays [] node q stop nothing found = same_stop (λ n q. place_meaning n q ≡ None) node q stop found nothing
empty_stays (step ∷ more) node q stop nothing found = empty_nowhere node q step more stop nothing found

pub shown_at : (names : Dictionary) (path : List Step) (node : Schema) (p : Place) (d : Doc) (stop : Stop) → Good node → place_lawful node names p ≡ true
    → place_meaning node p ≡ Some d → place_at node p path ≡ Some stop → stands_at d path ≡ place_meaning stop.node stop.held
unfolding place_at stands_at and_then
shown_at names [] node p d stop good lawful means found =
    same_stop (λ n q. Some d ≡ place_meaning n q) node p stop found (sym means)
shown_at names (step ∷ more) node p d stop good lawful means found =
    let first = then_some (step_to node p step) _ found in
    let next = first.0 in
    go next (shown_step names node p d step next good lawful means first.1) (place_meaning next.node next.held) refl first.2
    (λ e is. shown_at names more next.node next.held e stop (good_step node p step next good first.1) (lawful_step names node p step next lawful first.1) is first.2)
  where
    go : (next : Stop) → step_from d step ≡ place_meaning next.node next.held → (x : Option Doc) → place_meaning next.node next.held ≡ x
        → place_at next.node next.held more ≡ Some stop
        → ((e : Doc) → place_meaning next.node next.held ≡ Some e → stands_at e more ≡ place_meaning stop.node stop.held)
        → and_then (step_from d step) (λ inner. stands_at inner more) ≡ place_meaning stop.node stop.held
    go next leads None is found rest = rw (leads, is) (sym (empty_stays more next.node next.held stop is found))
    go next leads (Some e) is found rest = rw (leads, is) (rest e is)
