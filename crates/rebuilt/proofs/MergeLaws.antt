-- Members and fields merged. The leftover's fields, put one by one into the typed ones, give what going through both side by
-- side gives, and the members that are these fields come to the same order by their normal ids.
use mathlib.Core.Bool.{Bool, true, false, cond, ◌||◌}
use mathlib.Core.List.{List, [], ◌∷◌, map}
use mathlib.Core.Path.{◌≡◌, refl, sym, ap, ◌∙◌}
use Prim.Native.Nat.{ℕ, ◌<◌}
use native.Mathlib.Omega.{arith}
use borrow.Author.Tests.{lt-ltb, le-ltb}
use lib.Dec.{ltb}
use lib.ListN.{get_or}
use Rattle.names.proofs.IdLaws.{id_rises}
use Rattle.names.proofs.RisingLaws.{rising_more, rising_first}
use Rattle.names.proofs.SameLaws.{same_refl, among_first}
use Rattle.order.proofs.OrderLaws.{before_asymmetric, before_transitive, before_total}
use Rattle.order.specs.Before.{before, order_of}
use Rattle.paper.proofs.WordLaws.{never}
use Rattle.paper.specs.Meaning.{Doc, object, Fields, no_fields, field}
use Rattle.paper.specs.Metadata.{Dictionary, rising}
use Rattle.paper.specs.Normal.{id_of, field_names, value_bytes, member_bytes}
use Rattle.paper.specs.Rebuilding.{insert_field_by, insert_field, merge}
use Rattle.paper.specs.Rules.{any_named}
use Rattle.paper.specs.Words.{same, among}
use Rattle.rebuilt.specs.Members.{Member, merge_into, merged_by, normal_id_of, object_of}
use Rattle.writing.specs.Rewritten.{ranks_at}

-- ---- two lists of fields side by side, as `merged_by` goes through members

unfoldable mix_into : (name : List ℕ) → Doc → (Fields → Fields) → Fields → Fields
mix_into name d rest no_fields = field name d (rest no_fields)
mix_into name d rest (field first e more) =
    cond (before first name) (field first e (mix_into name d rest more)) (field name d (rest (field first e more)))

unfoldable mixed : (typed left : Fields) → Fields
mixed no_fields left = left
mixed (field name d typed) left = mix_into name d (mixed typed) left

or_false_both : (a b : Bool) → a || b ≡ false → (a ≡ false) × (b ≡ false)
or_false_both true b e = never e
or_false_both false b e = (refl, e)

-- A field that comes before the first of some stays in front.
pub insert_before : (name first : List ℕ) (d e : Doc) (more : Fields) → before name first ≡ true
    → insert_field name d (field first e more) ≡ field name d (field first e more)
unfolding insert_field insert_field_by order_of
insert_before name first d e more lower = rw lower

pub insert_behind : (name first : List ℕ) (d e : Doc) (more : Fields) → before first name ≡ true
    → insert_field name d (field first e more) ≡ field first e (insert_field name d more)
unfolding insert_field insert_field_by order_of
insert_behind name first d e more higher = rw (before_asymmetric first name higher, higher)

-- A field that is smaller than all of a leftover, put into what is mixed: in front, or behind a smaller typed one.
module _ (name : List ℕ) (d : Doc) (typed-name : List ℕ) (c : Doc) (rest : Fields → Fields) where
  mix_lower : (left : Fields) → rising (field_names (field name d left)) ≡ true → before name typed-name ≡ true
      → insert_field name d (mix_into typed-name c rest left) ≡ field name d (mix_into typed-name c rest left)
  unfolding mix_into field_names
  mix_lower no_fields rise lower = insert_before name typed-name d c (rest no_fields) lower
  mix_lower (field first e more) rise lower = go (before first typed-name)
    where
      go : (b : Bool) → (let both = cond b (field first e (mix_into typed-name c rest more)) (field typed-name c (rest (field first e more))) in
          insert_field name d both ≡ field name d both)
      go true = insert_before name first d e (mix_into typed-name c rest more) (rising_first name (first ∷ field_names more) first rise (among_first first (field_names more)))
      go false = insert_before name typed-name d c (rest (field first e more)) lower

  mix_higher : (left : Fields) → rising (field_names (field name d left)) ≡ true → before typed-name name ≡ true
      → insert_field name d (mix_into typed-name c rest left) ≡ field typed-name c (insert_field name d (rest left))
  unfolding mix_into field_names
  mix_higher no_fields rise higher = insert_behind name typed-name d c (rest no_fields) higher
  mix_higher (field first e more) rise higher =
      let further : before name first ≡ true = rising_first name (first ∷ field_names more) first rise (among_first first (field_names more)) in
      let front : before first typed-name ≡ false = before_asymmetric typed-name first (before_transitive typed-name name first higher further) in
      rw front (insert_behind name typed-name d c (rest (field first e more)) higher)

-- The smallest field of a leftover, whose name is not typed, may be put in last.
mixed_insert : (name : List ℕ) (d : Doc) (typed left : Fields) → rising (field_names (field name d left)) ≡ true
    → among name (field_names typed) ≡ false → mixed typed (field name d left) ≡ insert_field name d (mixed typed left)
unfolding mixed mix_into field_names among
mixed_insert name d no_fields no_fields rise other = unfold insert_field in refl
mixed_insert name d no_fields (field first e more) rise other =
    sym (insert_before name first d e more (rising_first name (first ∷ field_names more) first rise (among_first first (field_names more))))
mixed_insert name d (field typed-name c typed) left rise other =
    let both = or_false_both (same typed-name name) (among name (field_names typed)) other in
    go (before name typed-name) (before typed-name name) refl refl both.0 (mixed_insert name d typed left rise both.1)
  where
    go : (lower higher : Bool) → before name typed-name ≡ lower → before typed-name name ≡ higher → same typed-name name ≡ false
        → mixed typed (field name d left) ≡ insert_field name d (mixed typed left)
        → cond lower (field name d (mix_into typed-name c (mixed typed) left)) (field typed-name c (mixed typed (field name d left)))
        ≡ insert_field name d (mix_into typed-name c (mixed typed) left)
    go true higher e f differs others = sym (mix_lower name d typed-name c (mixed typed) left rise e)
    go false true e f differs others = ap (field typed-name c) others ∙ sym (mix_higher name d typed-name c (mixed typed) left rise f)
    go false false e f differs others =
        never (sym (same_refl name) ∙ ap (λ (n : List ℕ). same n name) (before_total name typed-name e f) ∙ differs)

mixed_alone : (typed : Fields) → mixed typed no_fields ≡ typed
unfolding mixed mix_into
mixed_alone no_fields = refl
mixed_alone (field name d typed) = ap (field name d) (mixed_alone typed)

-- A leftover put into typed fields that share no name with it.
merge_is : (left typed : Fields) → rising (field_names left) ≡ true → any_named (field_names typed) left ≡ false → merge left typed ≡ mixed typed left
unfolding merge any_named field_names
merge_is no_fields typed rise apart = sym (mixed_alone typed)
merge_is (field name d left) typed rise apart =
    let both = or_false_both (among name (field_names typed)) (any_named (field_names typed) left) apart in
    ap (insert_field name d) (merge_is left typed (rising_more name (field_names left) rise) both.1)
    ∙ sym (mixed_insert name d typed left rise both.0)

-- ---- members that are fields

module _ (normal : Dictionary) (ranks : List ℕ) where
  -- A member is a field: its name has its number, and its bytes are the normal form.
  pub record IsField (m : Member) (name : List ℕ) (d : Doc) : Type 0 where
    pub rank : get_or ranks m.id 0 ≡ id_of normal name
    pub there : among name normal ≡ true
    pub bytes_are : m.bytes ≡ value_bytes normal d

  pub data AreFields : List Member → Fields → Type 0 where
    none_are : AreFields [] no_fields
    one_more : {m : Member} {name : List ℕ} {d : Doc} {ms : List Member} {fs : Fields}
        → IsField m name d → AreFields ms fs → AreFields (m ∷ ms) (field name d fs)

  -- They are written as the object of these fields.
  ids_are : {ms : List Member} {fs : Fields} → AreFields ms fs
      → ranks_at ranks (map (λ (m : Member). m.id) ms) ≡ map (id_of normal) (field_names fs)
  unfolding ranks_at field_names
  ids_are none_are = refl
  ids_are (one_more is are) = rw (is.rank, ids_are are)

  parts_are : {ms : List Member} {fs : Fields} → AreFields ms fs → map (λ (m : Member). m.bytes) ms ≡ member_bytes normal fs
  unfolding member_bytes
  parts_are none_are = refl
  parts_are (one_more is are) = rw (is.bytes_are, parts_are are)

  pub object_is : {ms : List Member} {fs : Fields} → AreFields ms fs → object_of ranks ms ≡ value_bytes normal (object fs)
  unfolding object_of value_bytes
  object_is are = rw (ids_are are, parts_are are)

  -- ---- and stay so when they are merged

  module _ (rise : rising normal ≡ true) where
    -- Normal ids compare as their names do.
    ids_compare : (a b : List ℕ) → among a normal ≡ true → among b normal ≡ true → ltb (id_of normal a) (id_of normal b) ≡ before a b
    ids_compare a b in-a in_b = go (before a b) (before b a) refl refl
      where
        go : (p q : Bool) → before a b ≡ p → before b a ≡ q → ltb (id_of normal a) (id_of normal b) ≡ p
        go true q e f = lt-ltb (id_of normal a) (id_of normal b) (id_rises normal a b rise in-a in_b e)
        go false true e f =
            let less : id_of normal b < id_of normal a = id_rises normal b a rise in_b in-a f in
            le-ltb (id_of normal a) (id_of normal b) (omega arith)
        go false false e f =
            let is : id_of normal a ≡ id_of normal b = ap (id_of normal) (before_total a b e f) in
            le-ltb (id_of normal a) (id_of normal b) (omega arith)

    into_are : {x : Member} {name : List ℕ} {d : Doc} → IsField x name d → (rest : List Member → List Member) (others : Fields → Fields)
        → ((ms : List Member) (fs : Fields) → AreFields ms fs → AreFields (rest ms) (others fs))
        → {ms : List Member} {fs : Fields} → AreFields ms fs
        → AreFields (merge_into (normal_id_of ranks) x rest ms) (mix_into name d others fs)
    unfolding merge_into mix_into normal_id_of
    into_are is rest others each none_are = one_more is (each [] no_fields none_are)
    into_are {x} {name} {d} is rest others each (one_more {m = m} {name = first} {d = e} {ms = ms} {fs = fs} one are) =
        rw (one.rank, is.rank, ids_compare first name one.there is.there)
        (go (before first name) (into_are is rest others each are))
      where
        go : (b : Bool) → AreFields (merge_into (normal_id_of ranks) x rest ms) (mix_into name d others fs)
            → AreFields (cond b (m ∷ merge_into (normal_id_of ranks) x rest ms) (x ∷ rest (m ∷ ms)))
            (cond b (field first e (mix_into name d others fs)) (field name d (others (field first e fs))))
        go true further = one_more one further
        go false further = one_more is (each (m ∷ ms) (field first e fs) (one_more one are))

    mixed_are : {xs ys : List Member} {typed left : Fields} → AreFields xs typed → AreFields ys left
        → AreFields (merged_by (normal_id_of ranks) xs ys) (mixed typed left)
    unfolding merged_by mixed
    mixed_are none_are lefts = lefts
    mixed_are (one_more {fs = typed} is are) lefts = into_are is _ (mixed typed) (λ ms fs more. mixed_are are more) lefts

    pub merged_are : {xs ys : List Member} {typed left : Fields} → AreFields xs typed → AreFields ys left → rising (field_names left) ≡ true
        → any_named (field_names typed) left ≡ false → AreFields (merged_by (normal_id_of ranks) xs ys) (merge left typed)
    merged_are {typed = typed} {left} types lefts rises apart = rw (merge_is left typed rises apart) (mixed_are types lefts)
