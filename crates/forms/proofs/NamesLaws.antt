-- A dictionary has the names of a document exactly when each name used in it is among them: so the normal one has them.
use mathlib.Core.Bool.{Bool, true, false, ◌&&◌, ◌||◌}
use mathlib.Core.List.{List}
use mathlib.Core.Logic.{⊎_elim}
use mathlib.Core.Path.{◌≡◌, refl, sym, ◌∙◌}
use Prim.Native.Nat.{ℕ}
use Rattle.forms.specs.WellFormed.{names_there, all_names_there, field_names_there}
use Rattle.names.specs.Used.{used_in, used_in_all, used_in_fields}
use Rattle.paper.specs.Meaning.{Doc, null, scalar, array, object, Docs, no_docs, doc, Fields, no_fields, field}
use Rattle.paper.specs.Metadata.{Dictionary}
use Rattle.paper.specs.Normal.{names_used}
use Rattle.paper.specs.Words.{same, among}
use Rattle.names.proofs.SameLaws.{or_either, or_second, same_refl, same_is}
use Rattle.names.proofs.UsedLaws.{among_used}
use Rattle.paper.proofs.WordLaws.{never, and_both}

or_first : (a b : Bool) → a ≡ true → a || b ≡ true
or_first true b e = refl
or_first false b e = never (sym e)

module _ (names : Dictionary) where
  mutual
    unfolding names_there used_in

    pub used_there : (d : Doc) → ((name : List ℕ) → used_in name d ≡ true → among name names ≡ true) → names_there names d ≡ true
    used_there null each = refl
    used_there (scalar a) each = refl
    used_there (array ds) each = all_used_there ds each
    used_there (object fs) each = fields_used_there fs each

    all_used_there : (ds : Docs) → ((name : List ℕ) → used_in_all name ds ≡ true → among name names ≡ true) → all_names_there names ds ≡ true
    all_used_there no_docs each = refl
    all_used_there (doc d ds) each =
        rw (used_there d (λ name e. each name (or_first (used_in name d) (used_in_all name ds) e)))
        (all_used_there ds (λ name e. each name (or_second (used_in name d) (used_in_all name ds) e)))

    fields_used_there : (fs : Fields) → ((name : List ℕ) → used_in_fields name fs ≡ true → among name names ≡ true) → field_names_there names fs ≡ true
    fields_used_there no_fields each = refl
    fields_used_there (field own d fs) each =
        let further : (name : List ℕ) → used_in name d || used_in_fields name fs ≡ true → among name names ≡ true =
        λ name e. each name (or_second (same own name) (used_in name d || used_in_fields name fs) e) in
        let here : among own names ≡ true = each own (or_first (same own own) (used_in own d || used_in_fields own fs) (same_refl own)) in
        simp (
          here,
          used_there d (λ name e. further name (or_first (used_in name d) (used_in_fields name fs) e)),
          fields_used_there fs (λ name e. further name (or_second (used_in name d) (used_in_fields name fs) e)),
        )

  mutual
    unfolding names_there used_in

    pub there_used : (d : Doc) → names_there names d ≡ true → (name : List ℕ) → used_in name d ≡ true → among name names ≡ true
    there_used null there name e = never (sym e)
    there_used (scalar a) there name e = never (sym e)
    there_used (array ds) there name e = all_there_used ds there name e
    there_used (object fs) there name e = fields_there_used fs there name e

    all_there_used : (ds : Docs) → all_names_there names ds ≡ true → (name : List ℕ) → used_in_all name ds ≡ true → among name names ≡ true
    all_there_used no_docs there name e = never (sym e)
    all_there_used (doc d ds) there name e =
        let both = and_both (names_there names d) (all_names_there names ds) there in
        ⊎_elim (λ f. there_used d both.0 name f) (λ f. all_there_used ds both.1 name f) (or_either (used_in name d) (used_in_all name ds) e)

    fields_there_used : (fs : Fields) → field_names_there names fs ≡ true → (name : List ℕ) → used_in_fields name fs ≡ true → among name names ≡ true
    fields_there_used no_fields there name e = never (sym e)
    fields_there_used (field own d fs) there name e =
        let first = and_both (among own names) (names_there names d && field_names_there names fs) there in
        let rest = and_both (names_there names d) (field_names_there names fs) first.1 in
        ⊎_elim (λ is. rw (← same_is own name is) first.0)
        (λ more. ⊎_elim (λ f. there_used d rest.0 name f) (λ f. fields_there_used fs rest.1 name f)
        (or_either (used_in name d) (used_in_fields name fs) more))
        (or_either (same own name) (used_in name d || used_in_fields name fs) e)

pub normal-names_there : (d : Doc) → names_there (names_used d) d ≡ true
normal-names_there d = used_there (names_used d) d (λ name e. among_used name d ∙ e)
