-- Along a path: what holds of a place and goes with each step holds where the path leads. So do a test that holds everywhere, and
-- that a place breaks no rule.
use Rattle.std.specs.Prelude.{None, Some}
use mathlib.Core.Bool.{Bool, true, false, cond, not, ◌&&◌, ◌||◌}
use mathlib.Core.List.{List, [], ◌∷◌}
use mathlib.Core.Path.{◌≡◌, refl, sym, subst}
use Prim.Native.Nat.{ℕ, zero, suc}
use borrow.Author.Tests.{not-true}
use Rattle.paper.proofs.WordLaws.{never, some_there, then_some, and_both}
use Rattle.paper.specs.Metadata.{Dictionary}
use Rattle.paper.specs.Rows.{Place, empty, leftover, typed, both, Typed, cell, inner, Places, no_places, place}
use Rattle.paper.specs.Rules.{breaks_a, breaks_b, breaks_c, breaks_d, breaks_e, breaks_f, inside_lawful, inner_lawful, place_lawful_by, elements_lawful, place_lawful, fields_lawful}
use Rattle.paper.specs.Schemas.{Schema, leftover_only, column, list, fields, SchemaFields, none_named, named}
use Rattle.paper.specs.Standing.{Step, by_name, by_index}
use Rattle.paper.specs.Words.{is_there, same}
use Rattle.written.specs.Everywhere.{every_element, everywhere, every_field}
use Rattle.promises.specs.Walking.{Stop, inner_in, inner_of, place_number, place_named, step_to, place_at}
use Rattle.std.proofs.lemmas.Option.{same_Some}

-- What is not there is not found.
pub nowhere : {A B : Type 0} {a : A} → None ≡ Some a → B
unfolding is_there
nowhere found = never (sym (some_there None found))

-- Neither of two tests.
pub or_none : (a b : Bool) → a || b ≡ false → (a ≡ false) × (b ≡ false)
or_none true b e = never e
or_none false b e = (refl, e)

-- One stop is another, so what holds of the one holds of the other.
pub same_stop : (Holds : Schema → Place → Type 0) (node : Schema) (p : Place) (stop : Stop) → Some (record { node = node; held = p }) ≡ Some stop → Holds node p
    → Holds stop.node stop.held
same_stop Holds node p stop found holds = subst (λ (s : Stop). Holds s.node s.held) (same_Some _ stop found) holds

-- ---- along a path

pub walked : (Holds : Schema → Place → Type 0)
    → ((node : Schema) (p : Place) (step : Step) (next : Stop) → Holds node p → step_to node p step ≡ Some next → Holds next.node next.held)
    → (path : List Step) (node : Schema) (p : Place) (stop : Stop) → Holds node p → place_at node p path ≡ Some stop → Holds stop.node stop.held
unfolding place_at
walked Holds on [] node p stop holds found = same_stop Holds node p stop found holds
walked Holds on (step ∷ more) node p stop holds found =
    let first = then_some (step_to node p step) _ found in
    walked Holds on more first.0.node first.0.held stop (on node p step first.0 holds first.1) first.2

-- ---- one step: an element of a list's places, and the place of a name

module _ (All : Places → Type 0) (One : Place → Type 0) (each : (p : Place) (ps : Places) → All (place p ps) → One p × All ps) where
  pub element_holds : (index : ℕ) (ps : Places) (q : Place) → All ps → place_number index ps ≡ Some q → One q
  unfolding place_number
  element_holds index no_places q all found = nowhere found
  element_holds zero (place p ps) q all found = rw (same_Some p q found) at (each p ps all).0
  element_holds (suc index) (place p ps) q all found = element_holds index ps q (each p ps all).1 found

module _ (All : SchemaFields → Places → Type 0) (One : Schema → Place → Type 0)
    (each : (name : List ℕ) (node : Schema) (columns : SchemaFields) (p : Place) (ps : Places) → All (named name node columns) (place p ps) → One node p × All columns ps) where
  pub field_holds : (name : List ℕ) (columns : SchemaFields) (ps : Places) (stop : Stop) → All columns ps → place_named name columns ps ≡ Some stop
      → One stop.node stop.held
  unfolding place_named
  field_holds name none_named ps stop all found = nowhere found
  field_holds name (named own node columns) no_places stop all found = nowhere found
  field_holds name (named own node columns) (place p ps) stop all found =
      let parts = each own node columns p ps all in go (same own name) found parts.0 (field_holds name columns ps stop parts.1)
    where
      go : (b : Bool) → cond b (Some (record { node = node; held = p })) (place_named name columns ps) ≡ Some stop → One node p
          → (place_named name columns ps ≡ Some stop → One stop.node stop.held) → One stop.node stop.held
      go true found one rest = same_stop One node p stop found one
      go false found one rest = rest found

-- What holds of what is typed in a place holds of its inner places.
pub inside_inner : (All : Places → Bool) → All no_places ≡ true → (p : Place) → inside_lawful (inner_lawful All) p ≡ true → All (inner_of p) ≡ true
unfolding inside_lawful inner_lawful inner_of inner_in
inside_inner All none_there empty holds = none_there
inside_inner All none_there (leftover d) holds = none_there
inside_inner All none_there (typed (cell said value)) holds = none_there
inside_inner All none_there (typed (inner ps)) holds = holds
inside_inner All none_there (both d (cell said value)) holds = none_there
inside_inner All none_there (both d (inner ps)) holds = holds

-- ---- a test that holds everywhere

module _ (test : Schema → Place → Bool) where
  no_field : (columns : SchemaFields) → every_field test columns no_places ≡ true
  unfolding every_field
  no_field none_named = refl
  no_field (named name node columns) = refl

  everywhere_step : (node : Schema) (p : Place) (step : Step) (next : Stop) → everywhere test node p ≡ true → step_to node p step ≡ Some next
      → everywhere test next.node next.held ≡ true
  unfolding step_to everywhere every_element every_field
  everywhere_step leftover_only p step next holds found = nowhere found
  everywhere_step (column said) p step next holds found = nowhere found
  everywhere_step (list element) p (by_name name) next holds found = nowhere found
  everywhere_step (list element) p (by_index index) next holds found =
      let inside = (and_both (test (list element) p) _ holds).1 in
      let q = then_some (place_number index (inner_of p)) _ found in
      same_stop (λ node p. everywhere test node p ≡ true) element q.0 next q.2
      (element_holds (λ ps. every_element (λ q. everywhere test element q) ps ≡ true) (λ q. everywhere test element q ≡ true)
      (λ p ps all. and_both (everywhere test element p) _ all) index (inner_of p) q.0
      (inside_inner (every_element (λ q. everywhere test element q)) refl p inside) q.1)
  everywhere_step (fields columns) p (by_index index) next holds found = nowhere found
  everywhere_step (fields columns) p (by_name name) next holds found =
      let inside = (and_both (test (fields columns) p) _ holds).1 in
      field_holds (λ columns ps. every_field test columns ps ≡ true) (λ node q. everywhere test node q ≡ true)
      (λ name node columns p ps all. and_both (everywhere test node p) _ all) name columns (inner_of p) next
      (inside_inner (λ ps. every_field test columns ps) (no_field columns) p inside) found

  own_test : (node : Schema) (p : Place) → everywhere test node p ≡ true → test node p ≡ true
  unfolding everywhere
  own_test leftover_only p holds = holds
  own_test (column said) p holds = holds
  own_test (list element) p holds = (and_both (test (list element) p) _ holds).0
  own_test (fields columns) p holds = (and_both (test (fields columns) p) _ holds).0

  pub everywhere_at : (path : List Step) (node : Schema) (p : Place) (stop : Stop) → everywhere test node p ≡ true → place_at node p path ≡ Some stop
      → test stop.node stop.held ≡ true
  everywhere_at path node p stop holds found =
      own_test stop.node stop.held (walked (λ node p. everywhere test node p ≡ true) everywhere_step path node p stop holds found)

-- ---- that no rule is broken

-- A place's own rules, and what is inside it.
pub own_kept : (node : Schema) (inside : Typed → Bool) (p : Place) → place_lawful_by node inside p ≡ true
    → (breaks_a node p || (breaks_b p || (breaks_c node p || breaks_d node p)) ≡ false) × (inside_lawful inside p ≡ true)
unfolding place_lawful_by
own_kept node inside p lawful =
    let broken : Bool = breaks_a node p || (breaks_b p || (breaks_c node p || breaks_d node p)) in
    let both = and_both (not broken) (inside_lawful inside p) lawful in
    (not-true broken both.0, both.1)

module _ (names : Dictionary) where
  no_place : (columns : SchemaFields) → fields_lawful columns names no_places ≡ true
  unfolding fields_lawful
  no_place none_named = refl
  no_place (named name node columns) = refl

  pub elements_lawful_lem : (element : Schema) (p : Place) → place_lawful (list element) names p ≡ true
      → elements_lawful (λ q. place_lawful element names q) (inner_of p) ≡ true
  unfolding place_lawful elements_lawful
  elements_lawful_lem element p lawful =
      inside_inner (elements_lawful (λ q. place_lawful element names q)) refl p (own_kept (list element) _ p lawful).1

  pub places_lawful : (columns : SchemaFields) (p : Place) → place_lawful (fields columns) names p ≡ true → fields_lawful columns names (inner_of p) ≡ true
  unfolding place_lawful
  places_lawful columns p lawful =
      inside_inner (λ ps. fields_lawful columns names ps) (no_place columns) p (own_kept (fields columns) _ p lawful).1

  pub lawful_step : (node : Schema) (p : Place) (step : Step) (next : Stop) → place_lawful node names p ≡ true → step_to node p step ≡ Some next
      → place_lawful next.node names next.held ≡ true
  unfolding step_to elements_lawful fields_lawful
  lawful_step leftover_only p step next lawful found = nowhere found
  lawful_step (column said) p step next lawful found = nowhere found
  lawful_step (list element) p (by_name name) next lawful found = nowhere found
  lawful_step (list element) p (by_index index) next lawful found =
      let q = then_some (place_number index (inner_of p)) _ found in
      same_stop (λ node p. place_lawful node names p ≡ true) element q.0 next q.2
      (element_holds (λ ps. elements_lawful (λ q. place_lawful element names q) ps ≡ true) (λ q. place_lawful element names q ≡ true)
      (λ p ps all.
      let own = and_both (not (breaks_e p) && place_lawful element names p) _ all in ((and_both (not (breaks_e p)) _ own.0).1, own.1))
      index (inner_of p) q.0 (elements_lawful_lem element p lawful) q.1)
  lawful_step (fields columns) p (by_index index) next lawful found = nowhere found
  lawful_step (fields columns) p (by_name name) next lawful found =
      field_holds (λ columns ps. fields_lawful columns names ps ≡ true) (λ node q. place_lawful node names q ≡ true)
      (λ name node columns p ps all.
      let own = and_both (not (breaks_f names name p) && place_lawful node names p) _ all in ((and_both (not (breaks_f names name p)) _ own.0).1, own.1))
      name columns (inner_of p) next (places_lawful columns p lawful) found

  pub lawful_at : (path : List Step) (node : Schema) (p : Place) (stop : Stop) → place_lawful node names p ≡ true → place_at node p path ≡ Some stop
      → place_lawful stop.node names stop.held ≡ true
  lawful_at path node p stop lawful found = walked (λ node p. place_lawful node names p ≡ true) lawful_step path node p stop lawful found
