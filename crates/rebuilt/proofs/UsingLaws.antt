-- The ids that a place of a lawful row uses are ids of the dictionary, and name exactly the names that its meaning uses: by its
-- node and what is inside it. A field that is present has its name in the dictionary (rule f), so the table tells its id.
use Rattle.std.specs.Prelude.{Option, None, Some}
use mathlib.Core.Bool.{Bool, true, false, cond, not, ◌&&◌, ◌||◌}
use mathlib.Core.List.{List, [], ◌∷◌}
use mathlib.Core.Path.{◌≡◌, refl, sym, ap, ◌∙◌}
use Prim.Native.Nat.{ℕ, ◌+◌, ◌-◌}
use lib.Dec.{eqb}
use lib.ListN.{length}
use Rattle.fields.specs.Telling.{looked_at, Told, FieldsTold}
use Rattle.lookup.specs.Looking.{Tells}
use Rattle.names.specs.Used.{used_in, used_in_fields}
use Rattle.paper.specs.Framing.{Piece, pieces_of}
use Rattle.paper.specs.Metadata.{Dictionary}
use Rattle.paper.specs.Normal.{names_used}
use Rattle.paper.specs.Rebuilding.{or_null, place_meaning_by, cell_doc, inner_doc, place_meaning, fields_meaning}
use Rattle.paper.specs.Rows.{Place, empty, leftover, typed, both, Typed, cell, inner, Places, place, place_under, place_within, place_by, inner_body, list_places, field_places}
use Rattle.paper.specs.Rules.{has_leftover, has_typed, breaks_f, inner_lawful, place_lawful, fields_lawful}
use Rattle.paper.specs.Schemas.{Schema, leftover_only, column, list, fields, SchemaFields, none_named, named}
use Rattle.paper.specs.Values.{names_at}
use Rattle.paper.specs.Words.{given, and_then, among, all_below, is_there}
use Rattle.places.specs.Verdicts.{verdict_of, typed_under, typed_lawful, place_verdict}
use Rattle.places.specs.declared.verdicts.Verdict.TheVariants.{Lawful, Broken}
use Rattle.schemas.specs.Frames.{frame_end}
use Rattle.schemas.specs.Positions.{field_node}
use Rattle.fields.proofs.TellingLaws.{element_told, fields_told, field_told_lem}
use Rattle.names.proofs.UsedLaws.{among_used}
use Rattle.paper.proofs.WordLaws.{never, and_both, given_some, then_some, some_there}
use Rattle.places.proofs.StepLaws.{present, place_present}
use Rattle.places.proofs.VerdictLaws.{place_under_lem}
use Rattle.rebuilt.specs.Meant.{place_doc}
use Rattle.rebuilt.specs.Rebuilt.{listed, pieces_in}
use Rattle.rebuilt.specs.Using.{place_ids, member_ids, element_ids, typed_ids}
use Rattle.rebuilt.proofs.PartsLaws.{typed_meaning, meaning_parts}
use Rattle.rebuilt.proofs.PlaceUsesLaws.{TypedUses, PlaceUses, uses_place}
use Rattle.rebuilt.proofs.UsesLaws.{Uses, uses_none, uses_as, uses_both, uses_elements, uses_field}
use Rattle.std.proofs.lemmas.Option.{same_Some}

-- ---- a field's place

-- A place means something exactly where it is present.
meant_present : (node : Schema) (p : Place) → is_there (place_meaning node p) ≡ present p
unfolding present place_meaning_by has_leftover has_typed is_there
meant_present node p = rw (meaning_parts node) (go p)
  where
    go : (p : Place) → is_there (place_meaning_by (typed_meaning node) p) ≡ has_leftover p || has_typed p
    go empty = refl
    go (leftover d) = refl
    go (typed t) = refl
    go (both d t) = refl

module _ (names : Dictionary) (name : List ℕ) (node : Schema) (levels : ℕ) (piece : Piece) (p : Place) (read : place_under node levels names piece ≡ Some p) where
  has_bytes : is_there (place_meaning node p) ≡ not (eqb (length piece.body) 0)
  unfolding place_within place_by given
  has_bytes =
      let there = (given_some (eqb piece.tag 0x50) _ (rw (place_under_lem node levels names) at read)).1 in
      meant_present node p ∙ place_present node levels names piece.body p (rw (place_under_lem node levels names) there)

  -- rule f
  is_known : not (breaks_f names name p) ≡ true → is_there (place_meaning node p) ≡ true → among name names ≡ true
  unfolding breaks_f
  is_known kept there = go (among name names) (rw (there_is) at kept)
    where
      there_is : has_leftover p || has_typed p ≡ true
      there_is = unfold present in sym (meant_present node p) ∙ there

      go : (b : Bool) → not (true && not b) ≡ true → b ≡ true
      go true e = refl
      go false e = never (sym e)

  uses_member : (schema table : List ℕ) (field : ℕ) → Tells names name (looked_at table field) → not (breaks_f names name p) ≡ true
      → Uses names (place_ids node levels schema table (field_node schema field) piece.body) (λ n. used_in n (or_null (place_meaning node p)))
      → (columns : SchemaFields) (more : List Piece) (ps : Places)
      → Uses names (member_ids columns levels schema table (frame_end schema field) more) (λ n. used_in_fields n (fields_meaning columns ps))
      → Uses names (member_ids (named name node columns) levels schema table field (piece ∷ more))
      (λ n. used_in_fields n (fields_meaning (named name node columns) (place p ps)))
  unfolding member_ids fields_meaning
  uses_member schema table field tells kept own columns more ps others =
      uses_field piece.body tells (place_meaning node p) has_bytes (is_known kept) (fields_meaning columns ps) (uses_both own others)

-- ---- inner places

inner_read : (read : List Piece → Option Places) (s : List ℕ) (t : Typed) → inner_body read s ≡ Some t
    → (ps : Places) × (read (pieces_in s) ≡ Some ps) × (inner ps ≡ t)
unfolding inner_body pieces_in listed
inner_read read s t e =
    let pieces = then_some (pieces_of s) _ e in
    let places = then_some (read pieces.0) _ pieces.2 in
    (places.0, ap (λ (x : Option (List Piece)). read (listed x)) pieces.1 ∙ places.1, same_Some (inner places.0) t places.2)

list_uses : (element : Schema) (levels : ℕ) (names : Dictionary) (schema table : List ℕ) (node : ℕ)
    → PlaceUses element (levels - 1) names schema table (node + 3) → TypedUses (list element) levels names schema table node
unfolding typed_under typed_lawful typed_ids typed_meaning element_ids inner_lawful inner_doc used_in
list_uses element levels names schema table node each s t e lawful =
    let read = inner_read (list_places (place_under element (levels - 1) names)) s t e in
    rw (← read.2)
    (uses_elements (place_under element (levels - 1) names) (place_lawful element names) (place_ids element (levels - 1) schema table (node + 3))
    (place_meaning element) each (pieces_in s) read.0 read.1 (rw (← read.2) at lawful))

abbrev MembersUse : SchemaFields → (levels : ℕ) → Dictionary → (schema table : List ℕ) → (field : ℕ) → Type 0
MembersUse columns levels names schema table field =
    (pieces : List Piece) (ps : Places) → field_places columns levels names pieces ≡ Some ps → fields_lawful columns names ps ≡ true
    → Uses names (member_ids columns levels schema table field pieces) (λ name. used_in_fields name (fields_meaning columns ps))

object_uses : (columns : SchemaFields) (levels : ℕ) (names : Dictionary) (schema table : List ℕ) (node : ℕ)
    → MembersUse columns (levels - 1) names schema table (node + 3) → TypedUses (fields columns) levels names schema table node
unfolding typed_under typed_lawful typed_ids typed_meaning inner_lawful inner_doc used_in
object_uses columns levels names schema table node all s t e lawful =
    let read = inner_read (field_places columns (levels - 1) names) s t e in
    rw (← read.2) (all (pieces_in s) read.0 read.1 (rw (← read.2) at lawful))

members_none : (levels : ℕ) (names : Dictionary) (schema table : List ℕ) (field : ℕ) → MembersUse none_named levels names schema table field
unfolding member_ids fields_meaning used_in
members_none levels names schema table field pieces ps e lawful = uses_none

members_next : (name : List ℕ) (node : Schema) (columns : SchemaFields) (levels : ℕ) (names : Dictionary) (schema table : List ℕ) (field : ℕ)
    → Tells names name (looked_at table field) → PlaceUses node levels names schema table (field_node schema field)
    → MembersUse columns levels names schema table (frame_end schema field) → MembersUse (named name node columns) levels names schema table field
unfolding field_places fields_lawful is_there
members_next name node columns levels names schema table field tells each others [] ps e lawful = never (sym (some_there None e))
members_next name node columns levels names schema table field tells each others (piece ∷ more) ps e lawful =
    let first = then_some (place_under node levels names piece) _ e in
    let rest = then_some (field_places columns levels names more) _ first.2 in
    let are : place first.0 rest.0 ≡ ps = same_Some (place first.0 rest.0) ps rest.2 in
    let kept = and_both (not (breaks_f names name first.0) && place_lawful node names first.0) (fields_lawful columns names rest.0) (rw (← are) at lawful) in
    let own = and_both (not (breaks_f names name first.0)) (place_lawful node names first.0) kept.0 in
    rw (← are)
    (uses_member names name node levels piece first.0 first.1 schema table field tells own.0 (each piece first.0 first.1 own.1)
    columns more rest.0 (others more rest.0 rest.1 kept.1))

-- ---- by the node

-- A cell uses no name.
cell_used : (t : Typed) (name : List ℕ) → false ≡ used_in name (cell_doc t)
unfolding used_in cell_doc
cell_used (cell said value) name = refl
cell_used (inner ps) name = refl

mutual
  unfolding typed_ids typed_meaning

  typed_uses : (under : Schema) (levels : ℕ) (names : Dictionary) (schema table : List ℕ) (node : ℕ) → Told names schema table under node
      → TypedUses under levels names schema table node
  typed_uses leftover_only levels names schema table node tells = λ s t e lawful. uses_as uses_none (cell_used t)
  typed_uses (column said) levels names schema table node tells = λ s t e lawful. uses_as uses_none (cell_used t)
  typed_uses (list element) levels names schema table node tells =
      list_uses element levels names schema table node
      (uses_place element (levels - 1) names schema table (node + 3) (typed_uses element (levels - 1) names schema table (node + 3) (element_told tells)))
  typed_uses (fields columns) levels names schema table node tells =
      object_uses columns levels names schema table node (members_use columns (levels - 1) names schema table (node + 3) (fields_told tells))

  members_use : (columns : SchemaFields) (levels : ℕ) (names : Dictionary) (schema table : List ℕ) (field : ℕ) → FieldsTold names schema table columns field
      → MembersUse columns levels names schema table field
  members_use none_named levels names schema table field tells = members_none levels names schema table field
  members_use (named name node columns) levels names schema table field tells =
      let first = field_told_lem tells in
      members_next name node columns levels names schema table field first.here
      (uses_place node levels names schema table (field_node schema field) (typed_uses node levels names schema table (field_node schema field) first.inside))
      (members_use columns levels names schema table (frame_end schema field) first.behind)

-- ---- a lawful place

lawful_there : {A : Type 0} (x : Option A) (keeps : A → Bool) → verdict_of x keeps ≡ Lawful → (a : A) × (x ≡ Some a) × (keeps a ≡ true)
unfolding verdict_of
lawful_there None keeps e = never cc
lawful_there (Some a) keeps e = (a, refl, go (keeps a) e)
  where
    go : (b : Bool) → cond b Lawful Broken ≡ Lawful → b ≡ true
    go true f = refl
    go false f = never cc

module _ (under : Schema) (levels : ℕ) (names : Dictionary) (schema table : List ℕ) (node : ℕ) (body : List ℕ)
    (tells : Told names schema table under node) (lawful : place_verdict under levels names body ≡ Lawful) where
  place_uses : Uses names (place_ids under levels schema table node body) (λ name. used_in name (place_doc under levels names body))
  unfolding place_verdict place_doc and_then
  place_uses =
      let piece : Piece = record { tag = 0x50; body = body } in
      let held = lawful_there (place_under under levels names piece) (place_lawful under names) lawful in
      rw held.1 (uses_place under levels names schema table node (typed_uses under levels names schema table node tells) piece held.0 held.1 held.2)

  pub place_ids-below : all_below (length names) (place_ids under levels schema table node body) ≡ true
  place_ids-below = place_uses.below

  pub place_ids-used : (name : List ℕ)
      → among name (names_at names (place_ids under levels schema table node body)) ≡ among name (names_used (place_doc under levels names body))
  place_ids-used name = place_uses.exact name ∙ sym (among_used name (place_doc under levels names body))
