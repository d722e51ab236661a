-- An object's named fields, in the order of the names, and its unnamed ones put among them give back all of it.
use Rattle.std.specs.Prelude.{None, Some}
use mathlib.Core.Bool.{Bool, true, false, cond, ◌||◌}
use mathlib.Core.List.{List, [], ◌∷◌}
use mathlib.Core.Path.{◌≡◌, refl, sym, ap, ◌∙◌}
use Prim.Native.Nat.{ℕ}
use Rattle.clashes.proofs.SharedLaws.{same_sym}
use Rattle.names.proofs.RisingLaws.{rising_more, rising_first, rising_once}
use Rattle.names.proofs.SameLaws.{same_refl, same_is, among_first, among_more}
use Rattle.order.proofs.OrderLaws.{before_asymmetric}
use Rattle.order.specs.Before.{before}
use Rattle.paper.proofs.WordLaws.{never}
use Rattle.paper.specs.Meaning.{Doc, Fields, no_fields, field}
use Rattle.paper.specs.Metadata.{rising}
use Rattle.paper.specs.Normal.{field_names}
use Rattle.paper.specs.Rebuilding.{insert_field, merge, add_field}
use Rattle.paper.specs.Shredding.{unnamed}
use Rattle.paper.specs.Standing.{field_at}
use Rattle.paper.specs.Words.{same, among}
use Rattle.rebuilt.proofs.MergeLaws.{insert_before, insert_behind}
use Rattle.written.proofs.FieldLaws.{unnamed_among}

-- ---- the named fields

-- As `unnamed`, the others.
unfoldable pub named_of : List (List ℕ) → Fields → Fields
named_of taken no_fields = no_fields
named_of taken (field name d fs) = cond (among name taken) (field name d (named_of taken fs)) (named_of taken fs)

pub named_none : (fs : Fields) → named_of [] fs ≡ no_fields
unfolding named_of among
named_none no_fields = refl
named_none (field name d fs) = named_none fs

not_found : (name : List ℕ) (fs : Fields) → among name (field_names fs) ≡ false → field_at name fs ≡ None
unfolding among field_names field_at
not_found name no_fields absent = refl
not_found name (field first d fs) absent = go (same first name) absent (not_found name fs)
  where
    go : (b : Bool) → b || among name (field_names fs) ≡ false → (among name (field_names fs) ≡ false → field_at name fs ≡ None)
        → cond b (Some d) (field_at name fs) ≡ None
    go true e rest = never e
    go false e rest = rest e

-- A name that comes before the first of rising ones is not among the others.
before_absent : (name first : List ℕ) (more : List (List ℕ)) → before name first ≡ true → rising (first ∷ more) ≡ true → among name more ≡ false
before_absent name first more lower rise = go (among name more) refl
  where
    go : (b : Bool) → among name more ≡ b → b ≡ false
    go false e = refl
    go true e = never (sym (rising_first first more name rise e) ∙ before_asymmetric name first lower)

-- With one name more in front of the others: its field first, if there is one.
pub named_more : (name : List ℕ) (taken : List (List ℕ)) (fs : Fields) → rising (name ∷ taken) ≡ true → rising (field_names fs) ≡ true
    → named_of (name ∷ taken) fs ≡ add_field name (field_at name fs) (named_of taken fs)
unfolding named_of field_at among field_names add_field
named_more name taken no_fields rise rises = refl
named_more name taken (field first d fs) rise rises =
    go (same name first) (among first taken) refl refl (named_more name taken fs rise (rising_more first (field_names fs) rises))
  where
    go : (a b : Bool) → same name first ≡ a → among first taken ≡ b → named_of (name ∷ taken) fs ≡ add_field name (field_at name fs) (named_of taken fs)
        → cond (a || b) (field first d (named_of (name ∷ taken) fs)) (named_of (name ∷ taken) fs)
        ≡ add_field name (cond (same first name) (Some d) (field_at name fs)) (cond b (field first d (named_of taken fs)) (named_of taken fs))
    go true true e f rest = never (sym f ∙ ap (λ (n : List ℕ). among n taken) (sym (same_is name first e)) ∙ rising_once name taken rise)
    go true false e f rest =
        let is : name ≡ first = same_is name first e in
        let here : same first name ≡ true = rw is (same_refl first) in
        let gone : field_at name fs ≡ None = not_found name fs (rw is (rising_once first (field_names fs) rises)) in
        rw (rest, here, gone) (ap (λ (n : List ℕ). field n d (named_of taken fs)) (sym is))
    go false true e f rest =
        let lower : before name first ≡ true = rising_first name taken first rise f in
        let gone : field_at name fs ≡ None = not_found name fs (before_absent name first (field_names fs) lower rises) in
        rw (rest, same_sym name first e, gone)
    go false false e f rest = rw (same_sym name first e) rest

-- ---- the unnamed put among the named

merge_front : (left others : Fields) (name : List ℕ) (d : Doc) → ((n : List ℕ) → among n (field_names left) ≡ true → before name n ≡ true)
    → merge left (field name d others) ≡ field name d (merge left others)
unfolding merge field_names
merge_front no_fields others name d lower = refl
merge_front (field first e left) others name d lower =
    ap (insert_field first e) (merge_front left others name d (λ n there. lower n (among_more n first (field_names left) there)))
    ∙ insert_behind first name e d (merge left others) (lower first (among_first first (field_names left)))

insert_first : (name : List ℕ) (d : Doc) (fs : Fields) → rising (name ∷ field_names fs) ≡ true → insert_field name d fs ≡ field name d fs
unfolding insert_field field_names
insert_first name d no_fields rise = refl
insert_first name d (field first e more) rise =
    insert_before name first d e more (rising_first name (first ∷ field_names more) first rise (among_first first (field_names more)))

pub merged : (taken : List (List ℕ)) (fs : Fields) → rising (field_names fs) ≡ true → merge (unnamed taken fs) (named_of taken fs) ≡ fs
unfolding merge unnamed named_of field_names
merged taken no_fields rise = refl
merged taken (field name d fs) rise = go (among name taken) (merged taken fs (rising_more name (field_names fs) rise))
  where
    go : (b : Bool) → merge (unnamed taken fs) (named_of taken fs) ≡ fs
        → merge (cond b (unnamed taken fs) (field name d (unnamed taken fs))) (cond b (field name d (named_of taken fs)) (named_of taken fs)) ≡ field name d fs
    go true rest =
        merge_front (unnamed taken fs) (named_of taken fs) name d (λ n there. rising_first name (field_names fs) n rise (unnamed_among taken n fs there))
        ∙ ap (field name d) rest
    go false rest = ap (insert_field name d) rest ∙ insert_first name d fs rise
