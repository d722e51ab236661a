-- An object's fields: what holds of each holds of the one of a name, and the unnamed ones rise, are in the dictionary and pass
-- a test as all do.
use Rattle.std.specs.Prelude.{None, Some}
use mathlib.Core.Bool.{Bool, true, false, cond, ◌&&◌, ◌||◌}
use mathlib.Core.List.{List}
use mathlib.Core.Path.{◌≡◌, refl, sym}
use Prim.Native.Nat.{ℕ}
use Rattle.forms.specs.WellFormed.{all_members, names_there, field_names_there}
use Rattle.names.proofs.RisingLaws.{rising_more, rising_first, rising_front}
use Rattle.names.proofs.SameLaws.{or_second, same_is}
use Rattle.paper.proofs.WordLaws.{never, and_both, some_there}
use Rattle.paper.specs.Meaning.{Doc, Fields, no_fields, field}
use Rattle.paper.specs.Metadata.{Dictionary, rising}
use Rattle.paper.specs.Normal.{field_names}
use Rattle.paper.specs.Rules.{any_named}
use Rattle.paper.specs.Shredding.{unnamed}
use Rattle.paper.specs.Standing.{field_at}
use Rattle.paper.specs.Words.{is_there, same, among}
use Rattle.std.proofs.lemmas.Option.{same_Some}

-- ---- the field of a name

module _ (All : Fields → Type 0) (One : List ℕ → Doc → Type 0)
    (each : (name : List ℕ) (d : Doc) (fs : Fields) → All (field name d fs) → One name d × All fs) where
  pub found_holds : (name : List ℕ) (fs : Fields) (d : Doc) → All fs → field_at name fs ≡ Some d → One name d
  unfolding field_at is_there
  found_holds name no_fields d all found = never (sym (some_there None found))
  found_holds name (field first e fs) d all found =
      let parts = each first e fs all in go (same first name) refl found parts.0 (found_holds name fs d parts.1)
    where
      go : (b : Bool) → same first name ≡ b → cond b (Some e) (field_at name fs) ≡ Some d → One first e → (field_at name fs ≡ Some d → One name d) → One name d
      go true is found_Here here rest = rw (← same_is first name is, ← same_Some e d found_Here) here
      go false is found_Here here rest = rest found_Here

-- In the dictionary are its name and its names.
pub field_there : (names : Dictionary) (name : List ℕ) (fs : Fields) (d : Doc) → field_names_there names fs ≡ true → field_at name fs ≡ Some d
    → (among name names ≡ true) × (names_there names d ≡ true)
unfolding field_names_there
field_there names =
    found_holds (λ fs. field_names_there names fs ≡ true) (λ name d. (among name names ≡ true) × (names_there names d ≡ true))
    (λ name d fs there.
    let own = and_both (among name names) (names_there names d && field_names_there names fs) there in
    let inside = and_both (names_there names d) (field_names_there names fs) own.1 in
    ((own.0, inside.0), inside.1))

-- ---- the unnamed fields

module _ (taken : List (List ℕ)) where
  -- None of them is named.
  pub unnamed_apart : (fs : Fields) → any_named taken (unnamed taken fs) ≡ false
  unfolding unnamed any_named
  unnamed_apart no_fields = refl
  unnamed_apart (field name d fs) = go (among name taken) refl (unnamed_apart fs)
    where
      go : (b : Bool) → among name taken ≡ b → any_named taken (unnamed taken fs) ≡ false
          → any_named taken (cond b (unnamed taken fs) (field name d (unnamed taken fs))) ≡ false
      go true e rest = rest
      go false e rest = rw (e, rest)

  pub unnamed_among : (name : List ℕ) (fs : Fields) → among name (field_names (unnamed taken fs)) ≡ true → among name (field_names fs) ≡ true
  unfolding unnamed field_names among
  unnamed_among name no_fields there = there
  unnamed_among name (field first d fs) there = go (among first taken) there (unnamed_among name fs)
    where
      go : (b : Bool) → among name (field_names (cond b (unnamed taken fs) (field first d (unnamed taken fs)))) ≡ true
          → (among name (field_names (unnamed taken fs)) ≡ true → among name (field_names fs) ≡ true) → same first name || among name (field_names fs) ≡ true
      go true found rest = or_second (same first name) (among name (field_names fs)) (rest found)
      go false found rest = by (same first name) found
        where
          by : (b : Bool) → b || among name (field_names (unnamed taken fs)) ≡ true → b || among name (field_names fs) ≡ true
          by true e = refl
          by false e = rest e

  pub unnamed_rises : (fs : Fields) → rising (field_names fs) ≡ true → rising (field_names (unnamed taken fs)) ≡ true
  unfolding unnamed field_names
  unnamed_rises no_fields rise = rise
  unnamed_rises (field first d fs) rise = go (among first taken) (unnamed_rises fs (rising_more first (field_names fs) rise))
    where
      go : (b : Bool) → rising (field_names (unnamed taken fs)) ≡ true → rising (field_names (cond b (unnamed taken fs) (field first d (unnamed taken fs)))) ≡ true
      go true rest = rest
      go false rest =
          rising_front first (field_names (unnamed taken fs)) rest
          (λ name there. rising_first first (field_names fs) name rise (unnamed_among name fs there))

  pub unnamed_pass : (test : Doc → Bool) (fs : Fields) → all_members test fs ≡ true → all_members test (unnamed taken fs) ≡ true
  unfolding unnamed all_members
  unnamed_pass test no_fields all = all
  unnamed_pass test (field name d fs) all =
      let both = and_both (test d) (all_members test fs) all in go (among name taken) both.0 (unnamed_pass test fs both.1)
    where
      go : (b : Bool) → test d ≡ true → all_members test (unnamed taken fs) ≡ true → all_members test (cond b (unnamed taken fs) (field name d (unnamed taken fs))) ≡ true
      go true first rest = rest
      go false first rest = rw (first, rest)

  pub unnamed_there : (names : Dictionary) (fs : Fields) → field_names_there names fs ≡ true → field_names_there names (unnamed taken fs) ≡ true
  unfolding unnamed field_names_there
  unnamed_there names no_fields there = there
  unnamed_there names (field name d fs) there =
      let own = and_both (among name names) (names_there names d && field_names_there names fs) there in
      let found = and_both (names_there names d) (field_names_there names fs) own.1 in
      go (among name taken) own.0 found.0 (unnamed_there names fs found.1)
    where
      go : (b : Bool) → among name names ≡ true → names_there names d ≡ true → field_names_there names (unnamed taken fs) ≡ true
          → field_names_there names (cond b (unnamed taken fs) (field name d (unnamed taken fs))) ≡ true
      go true here inside rest = rest
      go false here inside rest = rw (here, inside, rest)
