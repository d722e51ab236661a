-- The names of a normal dictionary are the names used in its document, rising: that says which list they are.
use mathlib.Core.Bool.{Bool, true, false, cond, ◌||◌, or_assoc, or-false}
use mathlib.Core.List.{List, [], ◌∷◌}
use mathlib.Core.Logic.{◌⊎◌, inl, inr}
use mathlib.Core.Path.{◌≡◌, refl, sym, ap, ◌∙◌}
use Prim.Native.Nat.{ℕ}
use Rattle.names.specs.Used.{used_in, used_in_all, used_in_fields}
use Rattle.order.specs.Before.{before, order_of}
use Rattle.std.specs.declared.cmp.Ordering.TheVariants.{Less, Equal, Greater}
use Rattle.paper.specs.Meaning.{Doc, null, scalar, array, object, Docs, no_docs, doc, Fields, no_fields, field}
use Rattle.paper.specs.Metadata.{Dictionary, rising}
use Rattle.paper.specs.Normal.{insert_by, insert_name, add_names, add_names_of_all, add_names_of_fields, names_used}
use Rattle.paper.specs.Words.{same, among}
use Rattle.names.proofs.RisingLaws.{rising_more, rising_first, rising_front, rising_unique}
use Rattle.names.proofs.SameLaws.{or_either, same_is}
use Rattle.order.proofs.OrderLaws.{before_total}

-- ---- a name inserted

swap : (a b c : Bool) → a || (b || c) ≡ b || (a || c)
swap true true c = refl
swap true false c = refl
swap false b c = refl

twice : (a b : Bool) → a || b ≡ a || (a || b)
twice true b = refl
twice false b = refl

-- Among the names is then that one too, and no other.
pub among_insert : (name new : List ℕ) (names : Dictionary) → among name (insert_name new names) ≡ same new name || among name names
unfolding insert_name insert_by order_of among
among_insert name new [] = refl
among_insert name new (first ∷ more) = go (before new first) (before first new) refl refl (among_insert name new more)
  where
    go : (p q : Bool) → before new first ≡ p → before first new ≡ q → among name (insert_name new more) ≡ same new name || among name more
        → among name (insert_by (cond p Less (cond q Greater Equal)) new first more (insert_name new more))
        ≡ same new name || (same first name || among name more)
    go true q e f rest = refl
    go false true e f rest = ap (λ (b : Bool). same first name || b) rest ∙ swap (same first name) (same new name) (among name more)
    go false false e f rest = rw (before_total new first e f) (twice (same first name) (among name more))

pub insert_rises : (new : List ℕ) (names : Dictionary) → rising names ≡ true → rising (insert_name new names) ≡ true
unfolding insert_name insert_by order_of rising
insert_rises new [] rise = refl
insert_rises new (first ∷ more) rise =
    go (before new first) (before first new) refl refl (insert_rises new more (rising_more first more rise))
  where
    lower : before first new ≡ true → (name : List ℕ) → among name (insert_name new more) ≡ true → before first name ≡ true
    lower f name in_all = by (or_either (same new name) (among name more) (sym (among_insert name new more) ∙ in_all))
      where
        by : (same new name ≡ true) ⊎ (among name more ≡ true) → before first name ≡ true
        by (inl is) = rw (same_is new name is) at f
        by (inr in-more) = rising_first first more name rise in-more

    go : (p q : Bool) → before new first ≡ p → before first new ≡ q → rising (insert_name new more) ≡ true
        → rising (insert_by (cond p Less (cond q Greater Equal)) new first more (insert_name new more)) ≡ true
    go true q e f rest = rw e rise
    go false true e f rest = rising_front first (insert_name new more) rest (lower f)
    go false false e f rest = rise

-- ---- the names of a document added to others

mutual
  unfolding add_names

  pub add_rises : (d : Doc) (names : Dictionary) → rising names ≡ true → rising (add_names d names) ≡ true
  add_rises null names rise = rise
  add_rises (scalar s) names rise = rise
  add_rises (array ds) names rise = add_all_rises ds names rise
  add_rises (object fs) names rise = add_fields_rises fs names rise

  pub add_all_rises : (ds : Docs) (names : Dictionary) → rising names ≡ true → rising (add_names_of_all ds names) ≡ true
  add_all_rises no_docs names rise = rise
  add_all_rises (doc d ds) names rise = add_rises d (add_names_of_all ds names) (add_all_rises ds names rise)

  pub add_fields_rises : (fs : Fields) (names : Dictionary) → rising names ≡ true → rising (add_names_of_fields fs names) ≡ true
  add_fields_rises no_fields names rise = rise
  add_fields_rises (field name d fs) names rise =
      insert_rises name (add_names d (add_names_of_fields fs names)) (add_rises d (add_names_of_fields fs names) (add_fields_rises fs names rise))

mutual
  unfolding add_names used_in

  pub among_add : (name : List ℕ) (d : Doc) (names : Dictionary) → among name (add_names d names) ≡ used_in name d || among name names
  among_add name null names = refl
  among_add name (scalar s) names = refl
  among_add name (array ds) names = among_add_all name ds names
  among_add name (object fs) names = among_add_fields name fs names

  pub among_add_all : (name : List ℕ) (ds : Docs) (names : Dictionary) → among name (add_names_of_all ds names) ≡ used_in_all name ds || among name names
  among_add_all name no_docs names = refl
  among_add_all name (doc d ds) names =
      among_add name d (add_names_of_all ds names) ∙ ap (λ (b : Bool). used_in name d || b) (among_add_all name ds names)
      ∙ sym (or_assoc (used_in name d) (used_in_all name ds) (among name names))

  pub among_add_fields : (name : List ℕ) (fs : Fields) (names : Dictionary)
      → among name (add_names_of_fields fs names) ≡ used_in_fields name fs || among name names
  among_add_fields name no_fields names = refl
  among_add_fields name (field first d fs) names =
      among_insert name first (add_names d (add_names_of_fields fs names))
      ∙ ap (λ (b : Bool). same first name || b) (among_add name d (add_names_of_fields fs names)
      ∙ ap (λ (b : Bool). used_in name d || b) (among_add_fields name fs names)
      ∙ sym (or_assoc (used_in name d) (used_in_fields name fs) (among name names)))
      ∙ sym (or_assoc (same first name) (used_in name d || used_in_fields name fs) (among name names))

-- ---- the names used

pub names_rise : (d : Doc) → rising (names_used d) ≡ true
unfolding names_used rising
names_rise d = add_rises d [] refl

pub among_used : (name : List ℕ) (d : Doc) → among name (names_used d) ≡ used_in name d
unfolding names_used among
among_used name d = among_add name d [] ∙ or-false (used_in name d)

pub names_are : (d : Doc) (names : Dictionary) → rising names ≡ true → ((name : List ℕ) → among name names ≡ used_in name d) → names ≡ names_used d
names_are d names rise exact = rising_unique names (names_used d) rise (names_rise d) (λ name. exact name ∙ sym (among_used name d))
