-- The walkers: what is typed by the kind of its node, and the two loops over inner places, each a verdict so far and what is
-- left to judge.
use Rattle.dictionary.specs.declared.ids.InputId.{InputId}
use Rattle.std.specs.Prelude.{Option, None, Some}
use mathlib.Core.Bool.{Bool, true, false, cond, not, ◌&&◌}
use mathlib.Core.List.{List}
use mathlib.Core.Path.{◌≡◌, refl, sym, ap, ◌∙◌}
use Prim.Native.Nat.{ℕ, ◌+◌, ◌-◌, ◌/◌, ◌≤◌, ◌<◌}
use native.Mathlib.Omega.{arith}
use borrow.Author.Tests.{eqb-true, eqb-false, lt-ltb, le-ltb}
use lib.Dec.{eqb, ltb}
use lib.ListN.{length, drop}
use Rattle.fields.specs.Telling.{entry_place, looked_at, FieldsTold}
use Rattle.lookup.specs.Looking.{Tells, found, missing}
use Rattle.paper.specs.Cells.{cell_meaning}
use Rattle.paper.specs.Meaning.{Scalar}
use Rattle.paper.specs.Metadata.{Dictionary}
use Rattle.paper.specs.Rows.{cell, no_body, cell_body}
use Rattle.paper.specs.Rules.{cell_lawful}
use Rattle.paper.specs.Schemas.{Column, Schema, SchemaFields, named, column_code}
use Rattle.paper.specs.Words.{part, among, and_then, is_there}
use Rattle.schemas.specs.Frames.{frame_end}
use Rattle.schemas.specs.Kinds.{kind_at, KindThere}
use Rattle.schemas.specs.Positions.{Stands, FieldsStand, field_node}
use Rattle.schemas.specs.declared.readers.Kind.TheVariants.{Leftover, Column as ColumnKind, List as ListKind, Fields}
use Rattle.schemas.specs.declared.readers.Kind.{Kind}
use Rattle.fields.proofs.EntryLaws.{entry_there}
use Rattle.fields.proofs.TellingLaws.{FirstTold, element_told, fields_told, field_told_lem}
use Rattle.names.proofs.SameLaws.{among_at}
use Rattle.schemas.proofs.FieldsStandLaws.{FirstField, first_field, no_field, one_list}
use Rattle.schemas.proofs.KindLaws.{kind_there, leftover_here_lem, column_here_lem, list_here_lem, object_here}
use Rattle.schemas.proofs.StandingLaws.{some_level}
use Rattle.places.proofs.StepLaws.{place_cut, place_ends, place_fits, elements_ended, elements_cut, elements_next, members_ended, members_more, members_few, members_cut, members_next}
use Rattle.places.proofs.VerdictLaws.{typed_list, typed_fields, worse_unparsed, worse_lawful, worse_assoc}
use Rattle.places.specs.Frames.{place_end}
use Rattle.places.specs.Verdicts.{verdict_of, typed_under, typed_lawful, typed_verdict, place_verdict, elements_verdict, members_verdict, worse, broken_if}
use Rattle.places.specs.Walking.{NodeReady, FieldsReady, LeftReady, is_nowhere}
use Rattle.places.specs.declared.verdicts.Verdict.TheVariants.{Lawful, Unparsed}
use Rattle.places.specs.declared.verdicts.Verdict.{Verdict}

-- What the rules of a leftover are judged by.
pub left_ready_lem : {levels : ℕ} {names : Dictionary} {s table : List ℕ} {place : ℕ} → NodeReady levels names s table place → LeftReady levels s place
left_ready_lem ready = record { node = ready.node; stands = ready.stands }

-- ---- what is typed, by the kind of the node

module _ {levels : ℕ} {s : List ℕ} {place : ℕ} {k : Kind} (is : k ≡ kind_at s place) (names : Dictionary) (body : List ℕ) where
  pub typed_none : k ≡ Leftover → (under : Schema) → Stands levels s place under → Unparsed ≡ typed_verdict under levels names body
  unfolding typed_verdict typed_under no_body verdict_of
  typed_none e under stands = rw (leftover_here_lem stands is e)

  pub typed_cell : {code : ℕ} → k ≡ ColumnKind code → (good : Bool) → good ≡ is_there (cell_meaning (record { code = code }) body) → (v : Verdict) → v ≡ cond good Lawful Unparsed
      → (under : Schema) → Stands levels s place under → v ≡ typed_verdict under levels names body
  unfolding typed_verdict typed_under typed_lawful cell_body
  typed_cell {code} e good told v is-v under stands =
      let here = column_here_lem stands is e in
      let same : ◌≡◌ {A = Column} (record { code = code }) here.0 = ap (λ (n : ℕ). record { code = n }) (sym here.2) in
      is-v ∙ rw (told, same) (go here.0 (cell_meaning here.0 body))
      ∙ ap (λ (n : Schema). verdict_of (typed_under n levels names body) (typed_lawful n names)) (sym here.1)
    where
      go : (said : Column) (x : Option Scalar) → cond (is_there x) Lawful Unparsed ≡ verdict_of (and_then x λ value. Some (cell said value)) cell_lawful
      go said None = unfold is_there in unfold verdict_of in unfold and_then in refl
      go said (Some value) = unfold is_there in unfold verdict_of in unfold and_then in unfold cell_lawful in refl

  pub typed_elements : k ≡ ListKind → (v : Verdict) → ((element : Schema) → Stands (levels - 1) s (place + 3) element → v ≡ elements_verdict element (levels - 1) names body)
      → (under : Schema) → Stands levels s place under → v ≡ typed_verdict under levels names body
  typed_elements e v told under stands =
      let here = list_here_lem stands is e in
      told here.0 here.2.inside ∙ sym (typed_list here.0 levels names body) ∙ ap (λ (n : Schema). typed_verdict n levels names body) (sym here.1)

  pub typed_members : k ≡ Fields → (to : ℕ) → to ≡ frame_end s place → (v : Verdict)
      → ((columns : SchemaFields) → FieldsStand (levels - 1) s (place + 3) to columns → v ≡ members_verdict columns (levels - 1) names body)
      → (under : Schema) → Stands levels s place under → v ≡ typed_verdict under levels names body
  typed_members e to ends v told under stands =
      let here = object_here stands is e in
      told here.0 (rw ends here.2.inside) ∙ sym (typed_fields here.0 levels names body) ∙ ap (λ (n : Schema). typed_verdict n levels names body) (sym here.1)

-- What the calls ask.
module _ {levels : ℕ} {names : Dictionary} {s table : List ℕ} {place : ℕ} (ready : NodeReady levels names s table place) where
  pub ready_kind : KindThere s place
  ready_kind = kind_there ready.stands

  pub ready_level : 1 ≤ levels
  ready_level = some_level ready.stands

  pub ready_frame : frame_end s place ≤ length s
  ready_frame = ready.stands.within

  module _ {k : Kind} (is : k ≡ kind_at s place) where
    pub ready_code : {code : ℕ} → k ≡ ColumnKind code → column_code code ≡ true
    ready_code e = let here = column_here_lem ready.stands is e in rw here.2 at here.3.good

    pub ready_element : k ≡ ListKind → NodeReady (levels - 1) names s table (place + 3)
    ready_element e =
        let here = list_here_lem ready.stands is e in
        record {
          tabled = ready.tabled;
          node = here.0;
          stands = here.2.inside;
          told = element_told (rw here.1 at ready.told);
        }

    pub ready_fields : k ≡ Fields → (to : ℕ) → to ≡ frame_end s place → FieldsReady (levels - 1) names s table (place + 3) to
    ready_fields e to ends =
        let here = object_here ready.stands is e in
        record {
          tabled = ready.tabled;
          columns = here.0;
          stand = rw ends here.2.inside;
          told = fields_told (rw here.1 at ready.told);
        }

-- ---- a list's places

pub record ListSeen (levels : ℕ) (names : Dictionary) (s : List ℕ) (node : ℕ) (body : List ℕ) (verdict : Verdict) (place : ℕ) : Type 0 where
  pub within : place ≤ length body
  pub whole_is : (element : Schema) → Stands levels s node element
      → elements_verdict element levels names body ≡ worse verdict (elements_verdict element levels names (drop place body))

module _ {levels : ℕ} {names : Dictionary} {s : List ℕ} {node : ℕ} {body : List ℕ} where
  pub list_start : ListSeen levels names s node body Lawful 0
  list_start = record { within = omega arith; whole_is = λ element stands. refl }

  module _ {verdict : Verdict} {place : ℕ} (seen : ListSeen levels names s node body verdict place) where
    pub list_done : length body ≤ place → (element : Schema) → Stands levels s node element → verdict ≡ elements_verdict element levels names body
    list_done h element stands = sym (seen.whole_is element stands ∙ ap (worse verdict) (elements_ended element levels names body place h) ∙ worse_lawful verdict)

    module _ (h : place < length body) {r : Option ℕ} (told : r ≡ place_end body place) where
      pub list_cut : r ≡ None → (element : Schema) → Stands levels s node element → Unparsed ≡ elements_verdict element levels names body
      list_cut e element stands =
          sym (seen.whole_is element stands ∙ ap (worse verdict) (elements_cut element levels names body place h (place_cut body place r told e)) ∙ worse_unparsed verdict)

      module _ {end : ℕ} (e : r ≡ Some end) where
        pub list_fits : (place + 3 ≤ end) × (end ≤ length body)
        list_fits = place_fits body place end (place_ends body place end r told e)

        pub list_next : (one : Verdict) → ((under : Schema) → Stands levels s node under → one ≡ place_verdict under levels names (part body (place + 3) end))
            → (also : Verdict) → also ≡ broken_if (eqb (place + 3) end) one → (next : Verdict) → next ≡ worse verdict also → ListSeen levels names s node body next end
        list_next one judged also is-also next is-next =
            record {
              within = list_fits.1;
              whole_is =
                  λ element stands.
                  seen.whole_is element stands
                  ∙ ap (worse verdict) (elements_next element levels names body place h end (place_ends body place end r told e))
                  ∙ sym (worse_assoc verdict (broken_if (eqb (place + 3) end) (place_verdict element levels names (part body (place + 3) end))) (elements_verdict element levels names (drop end body)))
                  ∙ ap (λ (v : Verdict). worse v (elements_verdict element levels names (drop end body)))
                  (sym (is-next ∙ ap (worse verdict) (is-also ∙ ap (broken_if (eqb (place + 3) end)) (judged element stands))));
            }

-- ---- an object's places

pub record FieldsSeen (levels : ℕ) (names : Dictionary) (s table : List ℕ) (from to : ℕ) (body : List ℕ) (verdict : Verdict) (field place : ℕ) : Type 0 where
  pub within : place ≤ length body
  pub rest : SchemaFields
  pub stand : FieldsStand levels s field to rest
  pub told : FieldsTold names s table rest field
  pub whole_is : (columns : SchemaFields) → FieldsStand levels s from to columns
      → members_verdict columns levels names body ≡ worse verdict (members_verdict rest levels names (drop place body))

pub fields_start : {levels : ℕ} {names : Dictionary} {s table : List ℕ} {from to : ℕ} → FieldsReady levels names s table from to
    → (body : List ℕ) → FieldsSeen levels names s table from to body Lawful from 0
fields_start {levels} {names} ready body =
    record {
      within = omega arith;
      rest = ready.columns;
      stand = ready.stand;
      told = ready.told;
      whole_is = λ columns stand. ap (λ (c : SchemaFields). members_verdict c levels names body) (one_list stand ready.stand);
    }

-- Rule f, by what the table tells of a name.
nowhere_is : {names : Dictionary} {name : List ℕ} {looked : Option InputId} → Tells names name looked → is_nowhere looked ≡ not (among name names)
unfolding is_nowhere
nowhere_is {names} (found id below is) = sym (ap not (ap (λ (n : List ℕ). among n names) (sym is) ∙ among_at names id.0 below))
nowhere_is (missing none_has) = rw none_has

present_is : (inner end : ℕ) → inner ≤ end → ltb inner end ≡ not (eqb inner end)
present_is inner end h = go (eqb inner end) refl
  where
    go : (b : Bool) → eqb inner end ≡ b → ltb inner end ≡ not b
    go true e = let same = eqb-true inner end e in le-ltb inner end (omega arith)
    go false e = let other = eqb-false inner end e in lt-ltb inner end (between other)
      where
        between : (inner ≡ end → ⊥) → inner < end
        between other = omega arith

module _ {levels : ℕ} {names : Dictionary} {s table : List ℕ} {from to : ℕ} {body : List ℕ} {verdict : Verdict} {field place : ℕ}
    (seen : FieldsSeen levels names s table from to body verdict field place) where
  -- no field is left
  module _ (over : to ≤ field) where
    pub fields_more : place < length body → (columns : SchemaFields) → FieldsStand levels s from to columns → Unparsed ≡ members_verdict columns levels names body
    fields_more h columns stand =
        sym (seen.whole_is columns stand
        ∙ ap (worse verdict) (ap (λ (c : SchemaFields). members_verdict c levels names (drop place body)) (no_field seen.stand over) ∙ members_more levels names body place h)
        ∙ worse_unparsed verdict)

    pub fields_done : length body ≤ place → (columns : SchemaFields) → FieldsStand levels s from to columns → verdict ≡ members_verdict columns levels names body
    fields_done h columns stand =
        sym (seen.whole_is columns stand
        ∙ ap (worse verdict) (ap (λ (c : SchemaFields). members_verdict c levels names (drop place body)) (no_field seen.stand over) ∙ members_ended levels names body place h)
        ∙ worse_lawful verdict)

  module _ (some_left : field < to) where
    first : FirstField levels s field to seen.rest
    first = first_field seen.stand some_left

    left_is : members_verdict seen.rest levels names (drop place body) ≡ members_verdict (named first.name first.node first.more) levels names (drop place body)
    left_is = ap (λ (c : SchemaFields). members_verdict c levels names (drop place body)) first.are

    first_told : FirstTold names s table first.name first.node first.more field
    first_told = field_told_lem (rw first.are at seen.told)

    pub field_node-in : field_node s field ≤ length s
    field_node-in = let inside = first.stands.inside.within in omega arith

    pub field_frame_in : frame_end s field ≤ length s
    field_frame_in = let frame = first.stands.frame_in in let all = seen.stand.within in omega arith

    pub field_entry : length s / 9 ≤ length table → entry_place field < length table
    field_entry tabled = let inside = first.stands.inside.within in entry_there field (length s) (length table) (omega arith) tabled

    pub field_ready : length s / 9 ≤ length table → (node : ℕ) → node ≡ field_node s field → NodeReady levels names s table node
    field_ready tabled node is =
        record { tabled = tabled; node = first.node; stands = rw is first.stands.inside; told = rw is first_told.inside }

    pub fields_few : length body ≤ place → (columns : SchemaFields) → FieldsStand levels s from to columns → Unparsed ≡ members_verdict columns levels names body
    fields_few h columns stand =
        sym (seen.whole_is columns stand
        ∙ ap (worse verdict) (left_is ∙ members_few levels names body first.name first.node first.more place h)
        ∙ worse_unparsed verdict)

    module _ (h : place < length body) {r : Option ℕ} (told : r ≡ place_end body place) where
      pub fields_cut : r ≡ None → (columns : SchemaFields) → FieldsStand levels s from to columns → Unparsed ≡ members_verdict columns levels names body
      fields_cut e columns stand =
          sym (seen.whole_is columns stand
          ∙ ap (worse verdict) (left_is ∙ members_cut levels names body first.name first.node first.more place h (place_cut body place r told e))
          ∙ worse_unparsed verdict)

      module _ {end : ℕ} (e : r ≡ Some end) where
        pub fields_fit : (place + 3 ≤ end) × (end ≤ length body)
        fields_fit = place_fits body place end (place_ends body place end r told e)

        pub fields_next : (node : ℕ) → node ≡ field_node s field → (one : Verdict)
            → ((under : Schema) → Stands levels s node under → one ≡ place_verdict under levels names (part body (place + 3) end))
            → (unnamed : Bool) → unnamed ≡ (ltb (place + 3) end && is_nowhere (looked_at table field))
            → (also : Verdict) → also ≡ broken_if unnamed one → (next : Verdict) → next ≡ worse verdict also → (behind : ℕ) → behind ≡ frame_end s field
            → FieldsSeen levels names s table from to body next behind end
        fields_next node is one judged unnamed is-unnamed also is-also next is-next behind is-behind =
            let rule : unnamed ≡ (not (eqb (place + 3) end) && not (among first.name names)) =
            is-unnamed ∙ rw (present_is (place + 3) end fields_fit.0, nowhere_is first_told.here) in
            let here : one ≡ place_verdict first.node levels names (part body (place + 3) end) = judged first.node (rw is first.stands.inside) in
            let broken : Verdict = broken_if (not (eqb (place + 3) end) && not (among first.name names)) (place_verdict first.node levels names (part body (place + 3) end)) in
            let is-broken : also ≡ broken = is-also ∙ rw (rule, here) in
            record {
              within = fields_fit.1;
              rest = first.more;
              stand = rw is-behind first.stands.behind;
              told = rw is-behind first_told.behind;
              whole_is =
                  λ columns stand.
                  seen.whole_is columns stand
                  ∙ ap (worse verdict) (left_is ∙ members_next levels names body first.name first.node first.more place h end (place_ends body place end r told e))
                  ∙ sym (worse_assoc verdict broken (members_verdict first.more levels names (drop end body)))
                  ∙ ap (λ (v : Verdict). worse v (members_verdict first.more levels names (drop end body))) (sym (is-next ∙ ap (worse verdict) is-broken));
            }
