-- Verdicts put together: a place by what is typed in it, a list's and an object's places one after another.
use Rattle.std.specs.Prelude.{Option, None, Some}
use mathlib.Core.Bool.{Bool, true, false, cond, not, ◌&&◌}
use mathlib.Core.List.{List, ◌∷◌}
use mathlib.Core.Path.{◌≡◌, refl}
use Prim.Native.Nat.{ℕ, ◌-◌}
use Rattle.paper.specs.Framing.{Piece, pieces_of}
use Rattle.paper.specs.Metadata.{Dictionary}
use Rattle.paper.specs.Rows.{Place, inner, Places, place, place_under, place_within, inner_body, list_places, field_places}
use Rattle.paper.specs.Rules.{breaks_e, breaks_f, inner_lawful, elements_lawful, fields_lawful, place_lawful, place_lawful_by}
use Rattle.paper.specs.Schemas.{Schema, leftover_only, column, list, fields, SchemaFields, named}
use Rattle.paper.specs.Words.{and_then}
use Rattle.places.specs.Verdicts.{verdict_of, typed_under, typed_lawful, typed_verdict, elements_verdict, members_verdict, worse, broken_if}
use Rattle.places.specs.declared.verdicts.Verdict.TheVariants.{Lawful, Broken, Unparsed}
use Rattle.places.specs.declared.verdicts.Verdict.{Verdict}

-- ---- a place by its node

pub place_under_lem : (node : Schema) (levels : ℕ) (names : Dictionary) → place_under node levels names ≡ place_within levels names (typed_under node levels names)
unfolding place_under typed_under
place_under_lem leftover_only levels names = refl
place_under_lem (column said) levels names = refl
place_under_lem (list element) levels names = refl
place_under_lem (fields columns) levels names = refl

pub place_lawful_lem : (node : Schema) (names : Dictionary) → place_lawful node names ≡ place_lawful_by node (typed_lawful node names)
unfolding place_lawful typed_lawful
place_lawful_lem leftover_only names = refl
place_lawful_lem (column said) names = refl
place_lawful_lem (list element) names = refl
place_lawful_lem (fields columns) names = refl

-- ---- two together

pub worse_unparsed : (v : Verdict) → worse v Unparsed ≡ Unparsed
worse_unparsed Lawful = refl
worse_unparsed Broken = refl
worse_unparsed Unparsed = refl

pub worse_lawful : (v : Verdict) → worse v Lawful ≡ v
worse_lawful Lawful = refl
worse_lawful Broken = refl
worse_lawful Unparsed = refl

pub worse_assoc : (a b c : Verdict) → worse (worse a b) c ≡ worse a (worse b c)
worse_assoc Unparsed b c = refl
worse_assoc Lawful b c = refl
worse_assoc Broken Unparsed c = refl
worse_assoc Broken Lawful c = refl
worse_assoc Broken Broken Lawful = refl
worse_assoc Broken Broken Broken = refl
worse_assoc Broken Broken Unparsed = refl

-- A test more: a rule that is broken.
pub verdict_also : {A : Type 0} (x : Option A) (broken : Bool) (keeps : A → Bool) → verdict_of x (λ a. not broken && keeps a) ≡ broken_if broken (verdict_of x keeps)
unfolding verdict_of
verdict_also None true keeps = refl
verdict_also None false keeps = refl
verdict_also (Some a) false keeps = refl
verdict_also (Some a) true keeps = go (keeps a)
  where
    go : (b : Bool) → Broken ≡ broken_if true (cond b Lawful Broken)
    go true = refl
    go false = refl

-- ---- inner places

pub inner_verdict : (read : List Piece → Option Places) (keeps : Places → Bool) (s : List ℕ)
    → verdict_of (inner_body read s) (inner_lawful keeps) ≡ verdict_of (and_then (pieces_of s) read) keeps
unfolding inner_body verdict_of inner_lawful and_then
inner_verdict read keeps s = go (pieces_of s)
  where
    there : (x : Option Places) → verdict_of (and_then x λ ps. Some (inner ps)) (inner_lawful keeps) ≡ verdict_of x keeps
    there None = refl
    there (Some ps) = refl

    go : (x : Option (List Piece)) → verdict_of (and_then x λ pieces. and_then (read pieces) λ ps. Some (inner ps)) (inner_lawful keeps) ≡ verdict_of (and_then x read) keeps
    go None = refl
    go (Some pieces) = there (read pieces)

pub typed_list : (element : Schema) (levels : ℕ) (names : Dictionary) (s : List ℕ)
    → typed_verdict (list element) levels names s ≡ elements_verdict element (levels - 1) names s
unfolding typed_verdict typed_under typed_lawful elements_verdict
typed_list element levels names s = inner_verdict (list_places (place_under element (levels - 1) names)) (elements_lawful (place_lawful element names)) s

pub typed_fields : (columns : SchemaFields) (levels : ℕ) (names : Dictionary) (s : List ℕ)
    → typed_verdict (fields columns) levels names s ≡ members_verdict columns (levels - 1) names s
unfolding typed_verdict typed_under typed_lawful members_verdict
typed_fields columns levels names s = inner_verdict (field_places columns (levels - 1) names) (fields_lawful columns names) s

-- One place, and those behind it.
both_verdicts : (x : Option Place) (y : Option Places) (one : Place → Bool) (others keeps : Places → Bool)
    → ((p : Place) (ps : Places) → keeps (place p ps) ≡ one p && others ps)
    → verdict_of (and_then x λ p. and_then y λ ps. Some (place p ps)) keeps ≡ worse (verdict_of x one) (verdict_of y others)
unfolding verdict_of and_then
both_verdicts None y one others keeps split = refl
both_verdicts (Some p) None one others keeps split = go (one p)
  where
    go : (b : Bool) → Unparsed ≡ worse (cond b Lawful Broken) Unparsed
    go true = refl
    go false = refl
both_verdicts (Some p) (Some ps) one others keeps split = rw (split p ps) (go (one p) (others ps))
  where
    go : (b c : Bool) → cond (b && c) Lawful Broken ≡ worse (cond b Lawful Broken) (cond c Lawful Broken)
    go true c = refl
    go false true = refl
    go false false = refl

pub list_step : (read : Piece → Option Place) (one : Place → Bool) (piece : Piece) (more : List Piece)
    → verdict_of (list_places read (piece ∷ more)) (elements_lawful one)
    ≡ worse (verdict_of (read piece) (λ p. not (breaks_e p) && one p)) (verdict_of (list_places read more) (elements_lawful one))
unfolding list_places elements_lawful
list_step read one piece more =
    both_verdicts (read piece) (list_places read more) (λ p. not (breaks_e p) && one p) (elements_lawful one) (elements_lawful one) (λ p ps. refl)

pub fields_step : (name : List ℕ) (node : Schema) (columns : SchemaFields) (levels : ℕ) (names : Dictionary) (piece : Piece) (more : List Piece)
    → verdict_of (field_places (named name node columns) levels names (piece ∷ more)) (fields_lawful (named name node columns) names)
    ≡ worse (verdict_of (place_under node levels names piece) (λ p. not (breaks_f names name p) && place_lawful node names p))
    (verdict_of (field_places columns levels names more) (fields_lawful columns names))
unfolding field_places fields_lawful
fields_step name node columns levels names piece more =
    both_verdicts (place_under node levels names piece) (field_places columns levels names more) (λ p. not (breaks_f names name p) && place_lawful node names p)
    (fields_lawful columns names) (fields_lawful (named name node columns) names) (λ p ps. refl)
