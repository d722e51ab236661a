-- The field of a name in a lawful object is what the child of that name means.
use Rattle.std.specs.Prelude.{Option, None, Some}
use mathlib.Core.Bool.{Bool, true, false, cond}
use mathlib.Core.List.{List, [], ◌∷◌}
use mathlib.Core.Path.{◌≡◌, sym, ap, ◌∙◌}
use Prim.Native.Nat.{ℕ, ◌+◌, ◌≤◌}
use lib.ListN.{length}
use Rattle.boxes.specs.Sides.{Means}
use Rattle.paper.specs.FirstBytes.{reading_of}
use Rattle.paper.specs.Meaning.{Doc, object, Fields, no_fields, field}
use Rattle.paper.specs.Metadata.{Dictionary}
use Rattle.paper.specs.Paths.{child_named}
use Rattle.paper.specs.Standing.{field_at}
use Rattle.paper.specs.Values.{child_bytes, area_of, starts_of, ids_of, names_at, members_of, member_docs, meaning_by, meaning_of}
use Rattle.paper.specs.declared.Child.{Child}
use Rattle.paper.specs.Words.{at, and_then, is_there, all_below, same}
use Rattle.paper.specs.declared.Reading.TheVariants.{ObjectHead}
use Rattle.boxes.proofs.DoubleLaws.{meant}
use Rattle.paper.proofs.WordLaws.{never, then_some, some_there}
use Rattle.paths.proofs.PlaceLaws.{members_are}
use Rattle.containers.proofs.CoverLaws.{AllWithin}
use Rattle.std.proofs.lemmas.Option.{same_Some}

-- ---- a name among the names of children

module _ (inner : List ℕ → Option Doc) (area name : List ℕ) where
  pub field_named : (names : List (List ℕ)) (children : List Child) (fs : Fields) → member_docs inner area names children ≡ Some fs
      → field_at name fs ≡ and_then (child_named name names children) (λ child. inner (child_bytes area child))
  unfolding member_docs field_at child_named and_then is_there
  field_named [] children fs e = rw (← same_Some no_fields fs e)
  field_named (first ∷ names) [] fs e = never (sym (some_there None e))
  field_named (first ∷ names) (child ∷ more) fs e =
      let one = then_some (inner (child_bytes area child)) _ e in
      let others = then_some (member_docs inner area names more) _ one.2 in
      rw (← same_Some (field first one.0 others.0) fs others.2)
      (go (same first name) one.0 (field_at name others.0) one.1 (field_named names more others.0 others.1))
    where
      go : (here : Bool) (d : Doc) (further : Option Doc) → inner (child_bytes area child) ≡ Some d
          → further ≡ and_then (child_named name names more) (λ child. inner (child_bytes area child))
          → cond here (Some d) further ≡ and_then (cond here (Some child) (child_named name names more)) (λ child. inner (child_bytes area child))
      go true d further f g = sym f
      go false d further f g = g

  pub named_means : (names : List (List ℕ)) (children : List Child) {fs : Fields} {child : Child} → member_docs inner area names children ≡ Some fs
      → child_named name names children ≡ Some child → (d : Doc) × (inner (child_bytes area child) ≡ Some d)
  unfolding member_docs child_named is_there
  named_means [] children e f = never (sym (some_there None f))
  named_means (first ∷ names) [] e f = never (sym (some_there None f))
  named_means (first ∷ names) (other ∷ more) {fs} {child} e f =
      let one = then_some (inner (child_bytes area other)) _ e in
      let others = then_some (member_docs inner area names more) _ one.2 in
      go (same first name) one.0 one.1 (named_means names more others.1) f
    where
      go : (here : Bool) (d : Doc) → inner (child_bytes area other) ≡ Some d
          → (child_named name names more ≡ Some child → (d : Doc) × (inner (child_bytes area child) ≡ Some d))
          → cond here (Some other) (child_named name names more) ≡ Some child → (d : Doc) × (inner (child_bytes area child) ≡ Some d)
      go true d g further h = (d, ap (λ (c : Child). inner (child_bytes area c)) (sym (same_Some other child h)) ∙ g)
      go false d g further h = further h

pub named_within : (end : ℕ) (name : List ℕ) (names : List (List ℕ)) (children : List Child) {child : Child} → AllWithin end children
    → child_named name names children ≡ Some child → child.start + child.size ≤ end
unfolding child_named AllWithin is_there
named_within end name [] children fit f = never (sym (some_there None f))
named_within end name (first ∷ names) [] fit f = never (sym (some_there None f))
named_within end name (first ∷ names) (other ∷ more) {child} fit f =
    go (same first name) (named_within end name names more fit.1) f
  where
    go : (here : Bool) → (child_named name names more ≡ Some child → child.start + child.size ≤ end)
        → cond here (Some other) (child_named name names more) ≡ Some child → child.start + child.size ≤ end
    go true further h = rw (sym (same_Some other child h)) fit.0.1
    go false further h = further h

-- ---- what a lawful object's meaning is made of

module _ (levels : ℕ) (names : Dictionary) (c i w : ℕ) (s : List ℕ) (reads : reading_of (at s 0) ≡ ObjectHead c i w) where
  pub made_of : {d : Doc} → meaning_of levels names s ≡ Some d
      → (fs : Fields) × (d ≡ object fs) × Means names (ids_of c i s) (starts_of c i w s) (area_of c i w s) fs
  unfolding meaning_by
  made_of {d} e =
      let m = meant levels names s e in
      let inner = meaning_of m.below names in
      let by : meaning_by inner names (ObjectHead c i w) s ≡ Some d = rw reads at m.by in
      let found = then_some (members_of names c i w s) _ by in
      let docs = then_some (member_docs inner (area_of c i w s) (names_at names (ids_of c i s)) found.0) _ found.2 in
      let those = members_are names c i w s (some_there (members_of names c i w s) found.1) in (
        docs.0,
        sym (same_Some (object docs.0) d docs.2),
        record { levels = m.below; children = found.0; are = sym those.1 ∙ found.1; docs = docs.1 },
      )

  pub ids_below : {d : Doc} → meaning_of levels names s ≡ Some d → all_below (length names) (ids_of c i s) ≡ true
  unfolding meaning_by
  ids_below {d} e =
      let m = meant levels names s e in
      let by : meaning_by (meaning_of m.below names) names (ObjectHead c i w) s ≡ Some d = rw reads at m.by in
      (members_are names c i w s (some_there (members_of names c i w s) (then_some (members_of names c i w s) _ by).1)).0
