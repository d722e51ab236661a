-- Where find leads in a lawful value, and what stands there in its meaning, go step by step together. A part that is lawful within
-- some levels is so within more, and means the same.
use Rattle.std.specs.Prelude.{Option, None, Some}
use mathlib.Core.Bool.{Bool, true, false, cond}
use mathlib.Core.List.{List, [], ◌∷◌}
use mathlib.Core.Path.{◌≡◌, refl, sym, ap, ◌∙◌}
use Prim.Native.Nat.{ℕ, zero, suc, ◌+◌}
use lib.Dec.{eqb}
use lib.ListN.{length, take, drop}
use lib.Seq.{drop-drop, take-nil}
use Rattle.numbers.specs.Little.{number_at}
use Rattle.paper.proofs.WordLaws.{given_some, then_some}
use Rattle.paper.specs.FirstBytes.{reading_of}
use Rattle.paper.specs.Meaning.{Scalar, text_meaning, Doc, null, scalar, array, object, Docs, no_docs, doc, Fields, no_fields, field}
use Rattle.paper.specs.Metadata.{Dictionary}
use Rattle.paper.specs.Paths.{child_named, child_number, behind_head, into_field, into_element, step_into, find_from}
use Rattle.paper.specs.Standing.{Step, by_name, by_index, field_at, element_at, step_from, stands_at}
use Rattle.paper.specs.Values.{child_bytes, head_size_of, area_of, ids_of, names_at, members_of, elements_of, primitive_meaning, string_meaning, prefixed_meaning, element_docs, member_docs, meaning_by, whole, meaning_of}
use Rattle.paper.specs.declared.Child.{Child}
use Rattle.paper.specs.Words.{at, given, and_then, same}
use Rattle.paper.specs.declared.Reading.TheVariants.{Fixed, Prefixed, Short, ObjectHead, ArrayHead, Nothing}
use Rattle.paper.specs.declared.Reading.{Reading}
use Rattle.promises.proofs.WalkingLaws.{nowhere}
use Rattle.std.proofs.lemmas.Option.{same_Some}

-- ---- more levels

module _ {inner outer : List ℕ → Option Doc} (more : (s : List ℕ) (d : Doc) → inner s ≡ Some d → outer s ≡ Some d) where
  more_elements : (area : List ℕ) (children : List Child) (ds : Docs) → element_docs inner area children ≡ Some ds → element_docs outer area children ≡ Some ds
  unfolding element_docs and_then
  more_elements area [] ds e = e
  more_elements area (child ∷ children) ds e =
      let first = then_some (inner (child_bytes area child)) _ e in
      let second = then_some (element_docs inner area children) _ first.2 in
      rw (more (child_bytes area child) first.0 first.1, more_elements area children second.0 second.1) second.2

  more_members : (area : List ℕ) (names : List (List ℕ)) (children : List Child) (fs : Fields) → member_docs inner area names children ≡ Some fs
      → member_docs outer area names children ≡ Some fs
  unfolding member_docs and_then
  more_members area [] children fs e = e
  more_members area (name ∷ names) [] fs e = nowhere e
  more_members area (name ∷ names) (child ∷ children) fs e =
      let first = then_some (inner (child_bytes area child)) _ e in
      let second = then_some (member_docs inner area names children) _ first.2 in
      rw (more (child_bytes area child) first.0 first.1, more_members area names children second.0 second.1) second.2

  more_by : (names : Dictionary) (r : Reading) (s : List ℕ) (d : Doc) → meaning_by inner names r s ≡ Some d → meaning_by outer names r s ≡ Some d
  unfolding meaning_by and_then
  more_by names (Fixed type size) s d e = e
  more_by names (Prefixed type) s d e = e
  more_by names (Short size) s d e = e
  more_by names Nothing s d e = e
  more_by names (ObjectHead c i w) s d e =
      let members = then_some (members_of names c i w s) _ e in
      let docs = then_some (member_docs inner (area_of c i w s) (names_at names (ids_of c i s)) members.0) _ members.2 in
      rw (members.1, more_members (area_of c i w s) (names_at names (ids_of c i s)) members.0 docs.0 docs.1) docs.2
  more_by names (ArrayHead c w) s d e =
      let elements = then_some (elements_of c w s) _ e in
      let docs = then_some (element_docs inner (area_of c 0 w s) elements.0) _ elements.2 in
      rw (elements.1, more_elements (area_of c 0 w s) elements.0 docs.0 docs.1) docs.2

one_more : (names : Dictionary) (levels : ℕ) (s : List ℕ) (d : Doc) → meaning_of levels names s ≡ Some d → meaning_of (suc levels) names s ≡ Some d
unfolding meaning_of given
one_more names zero s d e = nowhere e
one_more names (suc levels) s d e =
    let own = given_some (whole s) _ e in
    rw own.0 (more_by (one_more names levels) names (reading_of (at s 0)) s d own.1)

-- ---- a step, in the bytes and in the meaning

-- Both lead nowhere, or the bytes of the child mean where the meaning leads.
pub data Led (inner : List ℕ → Option Doc) (bytes : Child → List ℕ) : Option Child → Option Doc → Type 0 where
  led_nowhere : Led inner bytes None None
  led_to : {child : Child} {d : Doc} → inner (bytes child) ≡ Some d → Led inner bytes (Some child) (Some d)

module _ (inner : List ℕ → Option Doc) (area : List ℕ) where
  named_led : (name : List ℕ) (names : List (List ℕ)) (children : List Child) (fs : Fields) → member_docs inner area names children ≡ Some fs
      → Led inner (child_bytes area) (child_named name names children) (field_at name fs)
  unfolding member_docs child_named field_at
  named_led name [] children fs e = rw (← same_Some no_fields fs e) led_nowhere
  named_led name (own ∷ names) [] fs e = nowhere e
  named_led name (own ∷ names) (child ∷ children) fs e =
      let first = then_some (inner (child_bytes area child)) _ e in
      let second = then_some (member_docs inner area names children) _ first.2 in
      rw (← same_Some (field own first.0 second.0) fs second.2)
      (go (same own name) first.0 second.0 first.1 (named_led name names children second.0 second.1))
    where
      go : (b : Bool) (d : Doc) (more : Fields) → inner (child_bytes area child) ≡ Some d → Led inner (child_bytes area) (child_named name names children) (field_at name more)
          → Led inner (child_bytes area) (cond b (Some child) (child_named name names children)) (cond b (Some d) (field_at name more))
      go true d more means rest = led_to means
      go false d more means rest = rest

  indexed_led : (index : ℕ) (children : List Child) (ds : Docs) → element_docs inner area children ≡ Some ds
      → Led inner (child_bytes area) (child_number index children) (element_at index ds)
  unfolding element_docs child_number element_at
  indexed_led index [] ds e = rw (← same_Some no_docs ds e) led_nowhere
  indexed_led zero (child ∷ children) ds e =
      let first = then_some (inner (child_bytes area child)) _ e in
      let second = then_some (element_docs inner area children) _ first.2 in
      rw (← same_Some (doc first.0 second.0) ds second.2) (led_to first.1)
  indexed_led (suc index) (child ∷ children) ds e =
      let first = then_some (inner (child_bytes area child)) _ e in
      let second = then_some (element_docs inner area children) _ first.2 in
      rw (← same_Some (doc first.0 second.0) ds second.2) (indexed_led index children second.0 second.1)

-- A child of the area is one of the value, behind its head.
behind_led : {inner : List ℕ → Option Doc} (s : List ℕ) (head : ℕ) {x : Option Child} {y : Option Doc} → Led inner (child_bytes (drop head s)) x y
    → Led inner (child_bytes s) (and_then x (λ child. Some (behind_head head child))) y
unfolding child_bytes behind_head and_then
behind_led s head led_nowhere = led_nowhere
behind_led s head (led_to {child = child} {d = d} means) =
    led_to {child = behind_head head child} {d = d} (rw (← drop-drop child.start head s) means)

-- From a scalar or null no step leads anywhere.
no_step : (step : Step) → (step_from null step ≡ None) × ((value : Scalar) → step_from (scalar value) step ≡ None)
unfolding step_from
no_step (by_name name) = (refl, λ value. refl)
no_step (by_index index) = (refl, λ value. refl)

primitive_plain : (type : ℕ) (s : List ℕ) (d : Doc) (step : Step) → primitive_meaning type s ≡ Some d → step_from d step ≡ None
unfolding primitive_meaning
primitive_plain zero s d step e = rw (← same_Some _ d e) (no_step step).0
primitive_plain (suc zero) s d step e = rw (← same_Some _ d e) ((no_step step).1 _)
primitive_plain (suc (suc zero)) s d step e = rw (← same_Some _ d e) ((no_step step).1 _)
primitive_plain (suc (suc (suc more))) s d step e = rw (← same_Some _ d (given_some _ _ e).1) ((no_step step).1 _)

string_plain : (s : List ℕ) (d : Doc) (step : Step) → string_meaning s ≡ Some d → step_from d step ≡ None
unfolding string_meaning text_meaning and_then
string_plain s d step e = rw (← same_Some _ d e) ((no_step step).1 _)

prefixed_plain : (string : Bool) (type : ℕ) (s : List ℕ) (d : Doc) (step : Step) → prefixed_meaning string type s ≡ Some d → step_from d step ≡ None
unfolding prefixed_meaning
prefixed_plain true type s d step e = string_plain s d step e
prefixed_plain false type s d step e = rw (← same_Some _ d e) ((no_step step).1 _)

module _ (inner : List ℕ → Option Doc) (names : Dictionary) where
  field_led : (name : List ℕ) (r : Reading) (s : List ℕ) (d : Doc) → meaning_by inner names r s ≡ Some d
      → Led inner (child_bytes s) (into_field names name r s) (step_from d (by_name name))
  unfolding meaning_by into_field step_from and_then area_of
  field_led name (Fixed type size) s d e = rw (primitive_plain type (drop 1 s) d (by_name name) e) led_nowhere
  field_led name (Prefixed type) s d e = rw (prefixed_plain (eqb type 16) type (drop 5 s) d (by_name name) e) led_nowhere
  field_led name (Short size) s d e = rw (string_plain (drop 1 s) d (by_name name) e) led_nowhere
  field_led name Nothing s d e = nowhere e
  field_led name (ArrayHead c w) s d e =
      let elements = then_some (elements_of c w s) _ e in
      let docs = then_some (element_docs inner (area_of c 0 w s) elements.0) _ elements.2 in
      rw (← same_Some _ d docs.2) led_nowhere
  field_led name (ObjectHead c i w) s d e =
      let members = then_some (members_of names c i w s) _ e in
      let docs = then_some (member_docs inner (area_of c i w s) (names_at names (ids_of c i s)) members.0) _ members.2 in
      go members.0 docs.0 members.1 docs.1 docs.2
    where
      go : (children : List Child) (fs : Fields) → members_of names c i w s ≡ Some children
          → member_docs inner (area_of c i w s) (names_at names (ids_of c i s)) children ≡ Some fs → Some (object fs) ≡ Some d
          → Led inner (child_bytes s) (into_field names name (ObjectHead c i w) s) (step_from d (by_name name))
      go children fs are means is =
          rw (← same_Some (object fs) d is, are)
          (behind_led s (head_size_of (number_at s 1 c) c i w) (named_led inner (area_of c i w s) name (names_at names (ids_of c i s)) children fs means))

  element_led : (index : ℕ) (r : Reading) (s : List ℕ) (d : Doc) → meaning_by inner names r s ≡ Some d
      → Led inner (child_bytes s) (into_element index r s) (step_from d (by_index index))
  unfolding meaning_by into_element step_from and_then area_of
  element_led index (Fixed type size) s d e = rw (primitive_plain type (drop 1 s) d (by_index index) e) led_nowhere
  element_led index (Prefixed type) s d e = rw (prefixed_plain (eqb type 16) type (drop 5 s) d (by_index index) e) led_nowhere
  element_led index (Short size) s d e = rw (string_plain (drop 1 s) d (by_index index) e) led_nowhere
  element_led index Nothing s d e = nowhere e
  element_led index (ObjectHead c i w) s d e =
      let members = then_some (members_of names c i w s) _ e in
      let docs = then_some (member_docs inner (area_of c i w s) (names_at names (ids_of c i s)) members.0) _ members.2 in
      rw (← same_Some _ d docs.2) led_nowhere
  element_led index (ArrayHead c w) s d e =
      let elements = then_some (elements_of c w s) _ e in
      let docs = then_some (element_docs inner (area_of c 0 w s) elements.0) _ elements.2 in
      go elements.0 docs.0 elements.1 docs.1 docs.2
    where
      go : (children : List Child) (ds : Docs) → elements_of c w s ≡ Some children → element_docs inner (area_of c 0 w s) children ≡ Some ds
          → Some (array ds) ≡ Some d → Led inner (child_bytes s) (into_element index (ArrayHead c w) s) (step_from d (by_index index))
      go children ds are means is =
          rw (← same_Some (array ds) d is, are)
          (behind_led s (head_size_of (number_at s 1 c) c 0 w) (indexed_led inner (area_of c 0 w s) index children ds means))

step_led : (names : Dictionary) (levels : ℕ) (s : List ℕ) (d : Doc) (step : Step) → meaning_of (suc levels) names s ≡ Some d
    → Led (meaning_of levels names) (child_bytes s) (step_into names step s) (step_from d step)
unfolding meaning_of step_into
step_led names levels s d (by_name name) e = field_led (meaning_of levels names) names name (reading_of (at s 0)) s d (given_some (whole s) _ e).1
step_led names levels s d (by_index index) e = element_led (meaning_of levels names) names index (reading_of (at s 0)) s d (given_some (whole s) _ e).1

-- ---- parts of parts

take_twice : (a b : ℕ) (w : List ℕ) → (k : ℕ) × (take a (take b w) ≡ take k w)
take_twice zero b w = (0, refl)
take_twice (suc a) zero w = (0, refl)
take_twice (suc a) (suc b) [] = (0, refl)
take_twice (suc a) (suc b) (x ∷ w) = let rest = take_twice a b w in (suc rest.0, ap (λ (l : List ℕ). x ∷ l) rest.1)

take_inside : (size start n : ℕ) (w : List ℕ) → (k : ℕ) × (take size (drop start (take n w)) ≡ take k (drop start w))
take_inside size zero n w = take_twice size n w
take_inside size (suc start) zero w = (0, take-nil size)
take_inside size (suc start) (suc n) [] = (0, take-nil size)
take_inside size (suc start) (suc n) (x ∷ w) = take_inside size start n w

take_own : (k : ℕ) (w : List ℕ) → take (length (take k w)) w ≡ take k w
take_own zero w = refl
take_own (suc k) [] = refl
take_own (suc k) (x ∷ w) = ap (λ (l : List ℕ). x ∷ l) (take_own k w)

-- A child of a part of the value is a part of the value.
child_part : (value s : List ℕ) (place : ℕ) (child : Child) → take (length s) (drop place value) ≡ s
    → take (length (child_bytes s child)) (drop (place + child.start) value) ≡ child_bytes s child
unfolding child_bytes
child_part value s place child part_is =
    let inside = take_inside child.size child.start (length s) (drop place value) in
    let is : take child.size (drop child.start s) ≡ take inside.0 (drop (place + child.start) value) =
    ap (λ (l : List ℕ). take child.size (drop child.start l)) (sym part_is) ∙ inside.1
    ∙ ap (take inside.0) (drop-drop child.start place value) in
    rw is (take_own inside.0 (drop (place + child.start) value))

-- ---- along a path

-- Both lead nowhere, or what is found in the value means what stands there.
pub data FoundIn (names : Dictionary) (levels : ℕ) (value : List ℕ) : Option Child → Option Doc → Type 0 where
  found_nowhere : FoundIn names levels value None None
  found_at : {child : Child} {d : Doc} → meaning_of levels names (child_bytes value child) ≡ Some d → FoundIn names levels value (Some child) (Some d)

found_more : {names : Dictionary} {levels : ℕ} {value : List ℕ} {x : Option Child} {y : Option Doc} → FoundIn names levels value x y
    → FoundIn names (suc levels) value x y
found_more found_nowhere = found_nowhere
found_more {names} {levels} {value} (found_at {child = child} {d = d} means) = found_at (one_more names levels (child_bytes value child) d means)

pub find_led : (names : Dictionary) (value : List ℕ) (steps : List Step) (levels place : ℕ) (s : List ℕ) (d : Doc) → take (length s) (drop place value) ≡ s
    → meaning_of levels names s ≡ Some d → FoundIn names levels value (find_from names steps place s) (stands_at d steps)
unfolding find_from stands_at and_then
find_led names value [] levels place s d part_is means =
    found_at {child = record { start = place; size = length s }} {d = d} (unfold child_bytes in rw part_is means)
find_led names value (step ∷ more) zero place s d part_is means = nowhere {a = d} (unfold meaning_of in means)
find_led names value (step ∷ more) (suc levels) place s d part_is means =
    go (step_led names levels s d step means)
    (λ child e inside. find_led names value more levels (place + child.start) (child_bytes s child) e (child_part value s place child part_is) inside)
  where
    go : {x : Option Child} {y : Option Doc} → Led (meaning_of levels names) (child_bytes s) x y
        → ((child : Child) (e : Doc) → meaning_of levels names (child_bytes s child) ≡ Some e
        → FoundIn names levels value (find_from names more (place + child.start) (child_bytes s child)) (stands_at e more))
        → FoundIn names (suc levels) value (and_then x (λ child. find_from names more (place + child.start) (child_bytes s child))) (and_then y (λ inner. stands_at inner more))
    go led_nowhere rest = found_nowhere
    go (led_to {child = child} {d = e} inside) rest = found_more (rest child e inside)
