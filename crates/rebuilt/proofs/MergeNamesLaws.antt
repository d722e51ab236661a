-- The names that two objects' fields use together once they are merged: those of both. A field put among others replaces the one
-- of its own name, so no name may stand twice: a leftover's names rise, and by rule c none of them is the node's.
use mathlib.Core.Bool.{Bool, true, false, cond, ◌||◌, or_assoc}
use mathlib.Core.List.{List, ◌∷◌}
use mathlib.Core.Path.{◌≡◌, refl, sym, ap, ◌∙◌}
use Prim.Native.Nat.{ℕ}
use Rattle.names.specs.Used.{used_in, used_in_fields}
use Rattle.order.specs.Before.{before, order_of}
use Rattle.std.specs.declared.cmp.Ordering.TheVariants.{Less, Equal, Greater}
use Rattle.paper.specs.Meaning.{Doc, Fields, no_fields, field}
use Rattle.paper.specs.Metadata.{rising}
use Rattle.paper.specs.Normal.{insert_by, insert_name, field_names}
use Rattle.paper.specs.Rebuilding.{insert_field_by, insert_field, merge}
use Rattle.paper.specs.Rules.{any_named}
use Rattle.paper.specs.Words.{same, among}
use Rattle.names.proofs.RisingLaws.{rising_more, rising_once}
use Rattle.names.proofs.SameLaws.{same_refl}
use Rattle.names.proofs.UsedLaws.{among_insert}
use Rattle.order.proofs.OrderLaws.{before_total}
use Rattle.paper.proofs.WordLaws.{never}

-- ---- a field put among others

or_neither : (a b : Bool) → a || b ≡ false → (a ≡ false) × (b ≡ false)
or_neither true b e = never e
or_neither false b e = (refl, e)

-- Its name is put among theirs.
insert_named : (name : List ℕ) (d : Doc) (fs : Fields) → field_names (insert_field name d fs) ≡ insert_name name (field_names fs)
unfolding insert_field insert_field_by insert_name insert_by order_of field_names
insert_named name d no_fields = refl
insert_named name d (field first e more) = go (before name first) (before first name) refl refl (insert_named name d more)
  where
    go : (p q : Bool) → before name first ≡ p → before first name ≡ q → field_names (insert_field name d more) ≡ insert_name name (field_names more)
        → field_names (insert_field_by (cond p Less (cond q Greater Equal)) name d first e more (insert_field name d more))
        ≡ insert_by (cond p Less (cond q Greater Equal)) name first (field_names more) (insert_name name (field_names more))
    go true q f g rest = refl
    go false true f g rest = ap (λ (l : List (List ℕ)). first ∷ l) rest
    go false false f g rest = ap (λ (l : List ℕ). l ∷ field_names more) (before_total name first f g)

-- Where none of them has its name, it adds its own names to theirs.
insert_used : (name : List ℕ) (d : Doc) (fs : Fields) → among name (field_names fs) ≡ false
    → (n : List ℕ) → used_in_fields n (insert_field name d fs) ≡ same name n || (used_in n d || used_in_fields n fs)
unfolding insert_field insert_field_by order_of field_names used_in among
insert_used name d no_fields absent n = refl
insert_used name d (field first e more) absent n =
    go (before name first) (before first name) refl refl (insert_used name d more (or_neither (same first name) (among name (field_names more)) absent).1 n)
  where
    swap : (a b c d f : Bool) → a || (b || (c || (d || f))) ≡ c || (d || (a || (b || f)))
    swap true b true d f = refl
    swap true b false true f = refl
    swap true b false false f = refl
    swap false true true d f = refl
    swap false true false true f = refl
    swap false true false false f = refl
    swap false false c d f = refl

    go : (p q : Bool) → before name first ≡ p → before first name ≡ q
        → used_in_fields n (insert_field name d more) ≡ same name n || (used_in n d || used_in_fields n more)
        → used_in_fields n (insert_field_by (cond p Less (cond q Greater Equal)) name d first e more (insert_field name d more))
        ≡ same name n || (used_in n d || (same first n || (used_in n e || used_in_fields n more)))
    go true q f g rest = refl
    go false true f g rest =
        ap (λ (b : Bool). same first n || (used_in n e || b)) rest
        ∙ swap (same first n) (used_in n e) (same name n) (used_in n d) (used_in_fields n more)
    go false false f g rest =
        never (sym (same_refl first) ∙ sym (ap (same first) (before_total name first f g))
        ∙ (or_neither (same first name) (among name (field_names more)) absent).0)

-- ---- fields merged with others

merge_named : (fs gs : Fields) (name : List ℕ) → among name (field_names (merge fs gs)) ≡ among name (field_names fs) || among name (field_names gs)
unfolding merge field_names among
merge_named no_fields gs name = refl
merge_named (field first d fs) gs name =
    ap (among name) (insert_named first d (merge fs gs)) ∙ among_insert name first (field_names (merge fs gs))
    ∙ ap (λ (b : Bool). same first name || b) (merge_named fs gs name)
    ∙ sym (or_assoc (same first name) (among name (field_names fs)) (among name (field_names gs)))

-- Some names have all those of the second fields, and none of the first.
pub merge_used : (taken : List (List ℕ)) (fs gs : Fields) → rising (field_names fs) ≡ true → any_named taken fs ≡ false
    → ((name : List ℕ) → among name (field_names gs) ≡ true → among name taken ≡ true)
    → (name : List ℕ) → used_in_fields name (merge fs gs) ≡ used_in_fields name fs || used_in_fields name gs
unfolding merge used_in field_names any_named
merge_used taken no_fields gs rise apart all name = refl
merge_used taken (field first d fs) gs rise apart all name =
    let neither = or_neither (among first taken) (any_named taken fs) apart in
    insert_used first d (merge fs gs) (absent neither.0) name
    ∙ ap (λ (b : Bool). same first name || (used_in name d || b)) (merge_used taken fs gs (rising_more first (field_names fs) rise) neither.1 all name)
    ∙ regroup (same first name) (used_in name d) (used_in_fields name fs) (used_in_fields name gs)
  where
    regroup : (a b c d : Bool) → a || (b || (c || d)) ≡ (a || (b || c)) || d
    regroup true b c d = refl
    regroup false true c d = refl
    regroup false false c d = refl

    others : (b : Bool) → among first (field_names gs) ≡ b → among first taken ≡ false → b ≡ false
    others false e free = refl
    others true e free = never (sym (all first e) ∙ free)

    absent : among first taken ≡ false → among first (field_names (merge fs gs)) ≡ false
    absent free = merge_named fs gs first ∙ rw (rising_once first (field_names fs) rise) (others (among first (field_names gs)) refl free)
