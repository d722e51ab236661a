-- Stepping through a lawful row: the places of a list and of an object one after another, each with its piece.
use Rattle.std.specs.Prelude.{Option, None, Some}
use mathlib.Core.Bool.{Bool, true, false, not, ◌&&◌}
use mathlib.Core.List.{List, [], ◌∷◌}
use mathlib.Core.Path.{◌≡◌, refl, sym, ap, ◌∙◌}
use Prim.Native.Nat.{ℕ, ◌+◌, ◌≤◌, ◌<◌}
use native.Mathlib.Omega.{arith}
use borrow.Author.Tests.{leb-true, leb-false, eqb-false, ne_eqb, not-false}
use lib.Dec.{leb, eqb}
use lib.ListN.{length, get_or, drop}
use Rattle.dictionary.specs.declared.ids.InputId.{InputId}
use Rattle.fields.proofs.TellingLaws.{FirstTold, field_told_lem, field_in_table}
use Rattle.fields.specs.Telling.{entry_place, looked_at}
use Rattle.frames.proofs.FrameLaws.{pieces_by, pieces_at, pieces_ended}
use Rattle.frames.specs.Frames.{piece_in, frame_end as end_of}
use Rattle.lookup.specs.Looking.{Tells, found, missing}
use Rattle.paper.proofs.WordLaws.{never, given_some}
use Rattle.paper.specs.Framing.{Piece, pieces_of}
use Rattle.paper.specs.Metadata.{Dictionary}
use Rattle.paper.specs.Schemas.{SchemaFields, none_named}
use Rattle.paper.specs.Words.{at, part, among, and_then, is_there}
use Rattle.places.proofs.StepLaws.{place_cut, place_ends, place_fits, elements_cut, elements_next, members_more, members_few, members_cut, members_next}
use Rattle.places.specs.Frames.{place_end}
use Rattle.places.specs.Verdicts.{verdict_of, place_verdict, elements_verdict, members_verdict, worse, broken_if}
use Rattle.places.specs.declared.verdicts.Verdict.TheVariants.{Lawful, Broken, Unparsed}
use Rattle.places.specs.declared.verdicts.Verdict.{Verdict}
use Rattle.schemas.proofs.FieldsStandLaws.{FirstField, first_field, no_field, one_list, field_framed, field_named}
use Rattle.schemas.specs.Frames.{frame_end}
use Rattle.schemas.specs.Positions.{field_node}
use Rattle.rebuilt.proofs.ThereLaws.{unparsed_not, broken_not, not_broken}
use Rattle.rebuilt.specs.Rebuilt.{listed, pieces_in}
use Rattle.rebuilt.specs.There.{PlaceThere, ElementsThere, MembersThere}

-- ---- two verdicts, and the pieces

both_lawful : (v w : Verdict) → worse v w ≡ Lawful → (v ≡ Lawful) × (w ≡ Lawful)
both_lawful Unparsed w e = unparsed_not e
both_lawful Broken Unparsed e = unparsed_not e
both_lawful Broken Broken e = broken_not e
both_lawful Broken Lawful e = broken_not e
both_lawful Lawful w e = (refl, e)

-- What is lawful has its pieces.
pieces_there : {A : Type 0} (x : Option (List Piece)) (read : List Piece → Option A) (keeps : A → Bool) → verdict_of (and_then x read) keeps ≡ Lawful → is_there x ≡ true
unfolding and_then verdict_of is_there
pieces_there None read keeps e = unparsed_not e
pieces_there (Some pieces) read keeps e = refl

pub pieces_none : (body : List ℕ) (place : ℕ) → length body ≤ place → pieces_in (drop place body) ≡ []
unfolding pieces_in listed
pieces_none body place over = rw (pieces_ended body place over)

pieces_step : (body : List ℕ) (place end : ℕ) → place < length body → place_end body place ≡ Some end → is_there (pieces_of (drop end body)) ≡ true
    → pieces_in (drop place body) ≡ piece_in body place end ∷ pieces_in (drop end body)
unfolding pieces_in place_end pieces_by is_there listed and_then
pieces_step body place end h ends behind =
    rw (pieces_at body place h, (given_some (eqb (at body place) 0x50) (end_of body place) ends).1) (go (pieces_of (drop end body)) behind)
  where
    go : (x : Option (List Piece)) → is_there x ≡ true → listed (and_then x λ more. Some (piece_in body place end ∷ more)) ≡ piece_in body place end ∷ listed x
    go None e = never (sym e)
    go (Some more) e = refl

-- ---- a list's places

module _ {levels : ℕ} {names : Dictionary} {schema table : List ℕ} {node : ℕ} (body : List ℕ) (place : ℕ)
    (there : ElementsThere levels names schema table node (drop place body)) (h : place < length body) {r : Option ℕ} (told : r ≡ place_end body place) where
  pub element_whole : r ≡ None → ⊥
  element_whole e = unparsed_not (sym (elements_cut there.element levels names body place h (place_cut body place r told e)) ∙ there.lawful)

  module _ {end : ℕ} (e : r ≡ Some end) where
    element_both : (broken_if (eqb (place + 3) end) (place_verdict there.element levels names (part body (place + 3) end)) ≡ Lawful)
        × (elements_verdict there.element levels names (drop end body) ≡ Lawful)
    element_both = both_lawful _ _ (sym (elements_next there.element levels names body place h end (place_ends body place end r told e)) ∙ there.lawful)

    pub element_fits : (place + 3 < end) × (end ≤ length body)
    element_fits =
        let fits = place_fits body place end (place_ends body place end r told e) in
        let other = eqb-false (place + 3) end (not_broken _ _ element_both.0).0 in
        (between other fits.0, fits.1)
      where
        between : (place + 3 ≡ end → ⊥) → place + 3 ≤ end → place + 3 < end
        between other most = omega arith

    pub element_place : PlaceThere levels names schema table node (part body (place + 3) end)
    element_place =
        record { tabled = there.tabled; under = there.element; stands = there.stands; told = there.told; lawful = (not_broken (eqb (place + 3) end) _ element_both.0).1 }

    pub elements_behind : ElementsThere levels names schema table node (drop end body)
    elements_behind = record { tabled = there.tabled; element = there.element; stands = there.stands; told = there.told; lawful = element_both.1 }

    pub element_pieces : pieces_in (drop place body) ≡ piece_in body place end ∷ pieces_in (drop end body)
    unfolding elements_verdict
    element_pieces = pieces_step body place end h (place_ends body place end r told e) (pieces_there _ _ _ element_both.1)

-- ---- an object's places

-- The id of a field that is present.
pub record NamedBy (names : Dictionary) (name : List ℕ) (looked : Option InputId) : Type 0 where
  pub id : InputId
  pub looked_is : looked ≡ Some id
  pub below : id.0 < length names
  pub is : get_or names id.0 [] ≡ name

told_below : {names : Dictionary} {name : List ℕ} {looked : Option InputId} → Tells names name looked → (id : InputId) → looked ≡ Some id → id.0 < length names
told_below {names} (found own below is) id e = let same : own.0 ≡ id.0 = cc in rw (← same) below
told_below (missing none_has) id e = absurd (let z : ◌≡◌ {A = ℕ} 0 1 = cc in omega arith)

named_by : {names : Dictionary} {name : List ℕ} {looked : Option InputId} → Tells names name looked → among name names ≡ true → NamedBy names name looked
named_by (found id below is) e = record { id = id; looked_is = refl; below = below; is = is }
named_by (missing none_has) e = never (sym e ∙ none_has)

module _ {levels : ℕ} {names : Dictionary} {schema table : List ℕ} {field to : ℕ} (body : List ℕ) (place : ℕ)
    (there : MembersThere levels names schema table field to (drop place body)) where
  lawful_are : {columns : SchemaFields} → there.columns ≡ columns → members_verdict columns levels names (drop place body) ≡ Lawful
  lawful_are e = ap (λ (c : SchemaFields). members_verdict c levels names (drop place body)) (sym e) ∙ there.lawful

  module _ (over : to ≤ field) where
    pub members_none : there.columns ≡ none_named
    members_none = no_field there.stand over

    pub members_over : length body ≤ place
    members_over = go (leb (length body) place) refl
      where
        go : (b : Bool) → leb (length body) place ≡ b → length body ≤ place
        go true e = leb-true (length body) place e
        go false e = unparsed_not (sym (members_more levels names body place (leb-false (length body) place e)) ∙ lawful_are members_none)

  module _ (left : field < to) where
    pub member_first : FirstField levels schema field to there.columns
    member_first = first_field there.stand left

    member_told : FirstTold names schema table member_first.name member_first.node member_first.more field
    member_told = field_told_lem (rw member_first.are at there.told)

    pub member_has : place < length body
    member_has = go (leb (length body) place) refl
      where
        go : (b : Bool) → leb (length body) place ≡ b → place < length body
        go true e = unparsed_not (sym (members_few levels names body member_first.name member_first.node member_first.more place (leb-true (length body) place e)) ∙ lawful_are member_first.are)
        go false e = leb-false (length body) place e

    pub member-node_in : field_node schema field ≤ length schema
    member-node_in = field_named member_first.stands

    pub member_frame_in : frame_end schema field ≤ length schema
    member_frame_in = field_framed member_first.stands

    pub member_rises : field < frame_end schema field
    member_rises = omega arith

    pub member_entry : entry_place field < length table
    member_entry = field_in_table member_first.stands table there.tabled

    -- the field's id, whether it is present or not
    pub member_below : (id : InputId) → looked_at table field ≡ Some id → id.0 < length names
    member_below = told_below member_told.here

    module _ {r : Option ℕ} (told : r ≡ place_end body place) where
      pub member_whole : r ≡ None → ⊥
      member_whole e =
          unparsed_not (sym (members_cut levels names body member_first.name member_first.node member_first.more place member_has (place_cut body place r told e)) ∙ lawful_are member_first.are)

      module _ {end : ℕ} (e : r ≡ Some end) where
        abbrev unnamed : Bool
        unnamed = not (eqb (place + 3) end) && not (among member_first.name names)

        member_both : (broken_if unnamed (place_verdict member_first.node levels names (part body (place + 3) end)) ≡ Lawful)
            × (members_verdict member_first.more levels names (drop end body) ≡ Lawful)
        member_both =
            both_lawful _ _
            (sym (members_next levels names body member_first.name member_first.node member_first.more place member_has end (place_ends body place end r told e))
            ∙ lawful_are member_first.are)

        pub member_fits : (place + 3 ≤ end) × (end ≤ length body)
        member_fits = place_fits body place end (place_ends body place end r told e)

        pub member_place : (node : ℕ) → node ≡ field_node schema field → PlaceThere levels names schema table node (part body (place + 3) end)
        member_place node is =
            record {
              tabled = there.tabled;
              under = member_first.node;
              stands = rw is member_first.stands.inside;
              told = rw is member_told.inside;
              lawful = (not_broken unnamed _ member_both.0).1;
            }

        pub members_behind : (next : ℕ) → next ≡ frame_end schema field → MembersThere levels names schema table next to (drop end body)
        members_behind next is =
            record {
              tabled = there.tabled;
              columns = member_first.more;
              stand = rw is member_first.stands.behind;
              told = rw is member_told.behind;
              lawful = member_both.1;
            }

        pub members_behind_are : (next : ℕ) (is : next ≡ frame_end schema field) → (members_behind next is).columns ≡ member_first.more
        members_behind_are next is = one_list (members_behind next is).stand (rw is member_first.stands.behind)

        pub member_pieces : pieces_in (drop place body) ≡ piece_in body place end ∷ pieces_in (drop end body)
        unfolding members_verdict
        member_pieces = pieces_step body place end member_has (place_ends body place end r told e) (pieces_there _ _ _ member_both.1)

        module _ (present : place + 3 < end) where
          pub member_named : NamedBy names member_first.name (looked_at table field)
          member_named =
              let kept : not (among member_first.name names) ≡ false = rw (ne_eqb (place + 3) end (λ z. omega arith)) at (not_broken unnamed _ member_both.0).0 in
              named_by member_told.here (not-false (among member_first.name names) kept)

          pub member_known : {looked : Option InputId} → looked ≡ looked_at table field → looked ≡ None → ⊥
          member_known is-looked nowhere =
              let known = member_named.looked_is in let z : ◌≡◌ {A = ℕ} 0 1 = cc in omega arith
