-- What a lawful row means is a document that bytes could mean: its cells are of their types and sizes, its objects' names rise, its
-- levels are no more than were left, and its names are the row's.
use Rattle.std.specs.Prelude.{Option, None, Some}
use mathlib.Core.Bool.{Bool, true, false, cond, not, ◌&&◌, ◌||◌, and-false, or-true}
use mathlib.Core.Logic.{◌⊎◌, inl, inr}
use mathlib.Core.List.{List, [], ◌∷◌}
use mathlib.Core.Path.{◌≡◌, refl, sym, ap, ◌∙◌}
use Prim.Native.Nat.{ℕ, zero, suc, ◌-◌, ◌≤◌}
use native.Mathlib.Omega.{arith}
use borrow.Author.Tests.{eqb-true, leb-true, le-leb, lt-leb}
use lib.Dec.{leb, eqb}
use lib.ListN.{length, get_or}
use Rattle.forms.proofs.WellFormedLaws.{decoded-well_formed, decoded-names_there}
use Rattle.forms.specs.WellFormed.{scalar_good, all_docs, all_members, well_formed_by, well_formed, names_there, all_names_there, field_names_there}
use Rattle.names.proofs.RisingLaws.{rising_more, rising_first, rising_front}
use Rattle.names.proofs.UsedLaws.{insert_rises}
use Rattle.order.proofs.OrderLaws.{equal_same}
use Rattle.order.specs.Before.{order_of}
use Rattle.std.specs.declared.cmp.Ordering.{Ordering}
use Rattle.std.specs.declared.cmp.Ordering.TheVariants.{Less, Equal, Greater}
use Rattle.paper.proofs.WordLaws.{given_some, then_some, and_both}
use Rattle.paper.specs.Cells.{yes_no, string, binary, sized, body_kind, cell_by, cell_meaning}
use Rattle.paper.specs.FirstBytes.{payload_sizes}
use Rattle.paper.specs.Framing.{Piece, pieces_of}
use Rattle.paper.specs.Limits.{most_leftover}
use Rattle.paper.specs.Meaning.{Scalar, payload, text_meaning, Doc, null, scalar, array, object, Docs, doc, Fields, no_fields, field}
use Rattle.paper.specs.Metadata.{Dictionary, rising}
use Rattle.paper.specs.Normal.{insert_by, insert_name, field_names}
use Rattle.paper.specs.Rebuilding.{insert_field_by, insert_field, merge, fields_in, or_null, place_meaning_by, cell_doc, inner_doc, list_meaning, add_field, place_meaning, fields_meaning}
use Rattle.paper.specs.Rows.{Place, empty, leftover, typed, both, Typed, inner, Places, no_places, place, leftover_meaning, no_body, cell_body, inner_body, list_places, place_under, field_places}
use Rattle.paper.specs.Rules.{has_leftover, has_typed, breaks_e, breaks_f, inner_lawful, elements_lawful, place_lawful, fields_lawful}
use Rattle.paper.specs.Schemas.{Column, Schema, leftover_only, column, list, fields, SchemaFields, none_named, named, column_names, column_code}
use Rattle.paper.specs.Words.{at, among}
use Rattle.places.specs.declared.parts.Parts.{Parts}
use Rattle.places.specs.Verdicts.{typed_under, typed_lawful}
use Rattle.rebuilt.proofs.HeldLaws.{Held, nothing_held, left_held, typed_held, both_held, under_held, present_named, typed_keeps, both_keep}
use Rattle.rebuilt.proofs.NamedLaws.{meant_named}
use Rattle.schemas.proofs.GoodLaws.{good_level, good_column, good_element, good_object, good_field}
use Rattle.schemas.specs.Written.{good_schema, good_fields}
use Rattle.written.proofs.FittingLaws.{members_good}
use Rattle.promises.proofs.Buffers.{apart}
use Rattle.promises.proofs.WalkingLaws.{nowhere}
use Rattle.std.proofs.lemmas.Option.{same_Some}

-- ---- names that rise, when fields are put together

insert_named : (name : List ℕ) (d : Doc) (fs : Fields) → field_names (insert_field name d fs) ≡ insert_name name (field_names fs)
unfolding insert_field insert_field_by insert_name insert_by field_names
insert_named name d no_fields = refl
insert_named name d (field first e more) = go (order_of name first) refl (insert_named name d more)
  where
    go : (o : Ordering) → order_of name first ≡ o → field_names (insert_field name d more) ≡ insert_name name (field_names more)
        → field_names (insert_field_by o name d first e more (insert_field name d more)) ≡ insert_by o name first (field_names more) (insert_name name (field_names more))
    go Less is rest = refl
    go Equal is rest = ap (λ (n : List ℕ). n ∷ field_names more) (equal_same name first is)
    go Greater is rest = ap (λ (l : List (List ℕ)). first ∷ l) rest

merge_rises : (left others : Fields) → rising (field_names others) ≡ true → rising (field_names (merge left others)) ≡ true
unfolding merge
merge_rises no_fields others rise = rise
merge_rises (field name d left) others rise =
    rw (insert_named name d (merge left others)) (insert_rises name (field_names (merge left others)) (merge_rises left others rise))

meant_rises : (columns : SchemaFields) (ps : Places) → rising (column_names columns) ≡ true → rising (field_names (fields_meaning columns ps)) ≡ true
unfolding fields_meaning column_names add_field field_names rising
meant_rises none_named ps rise = refl
meant_rises (named name node columns) no_places rise = refl
meant_rises (named name node columns) (place p ps) rise =
    go (place_meaning node p) (meant_rises columns ps (rising_more name (column_names columns) rise))
  where
    go : (x : Option Doc) → rising (field_names (fields_meaning columns ps)) ≡ true → rising (field_names (add_field name x (fields_meaning columns ps))) ≡ true
    go None rest = rest
    go (Some d) rest =
        rising_front name (field_names (fields_meaning columns ps)) rest
        (λ n there. rising_first name (column_names columns) n rise (meant_named columns ps n there))

-- ---- a cell is of its type and size

-- A column's code that is not a boolean's is 3 to 7 or 11 to 20.
code_range : (code : ℕ) → column_code code ≡ true → eqb code 1 ≡ false → ((3 ≤ code) × (code ≤ 7)) ⊎ ((11 ≤ code) × (code ≤ 20))
unfolding column_code
code_range code column-code not-one = go (leb 3 code && leb code 7) refl (rw not-one at column-code)
  where
    go : (b : Bool) → leb 3 code && leb code 7 ≡ b → b || (leb 11 code && leb code 20) ≡ true → ((3 ≤ code) × (code ≤ 7)) ⊎ ((11 ≤ code) × (code ≤ 20))
    go true is e = let both = and_both (leb 3 code) (leb code 7) is in inl (leb-true 3 code both.0, leb-true code 7 both.1)
    go false is e = let both = and_both (leb 11 code) (leb code 20) e in inr (leb-true 11 code both.0, leb-true code 20 both.1)

-- No column is of decimals.
sized_good : (code : ℕ) (s : List ℕ) → column_code code ≡ true → eqb code 1 ≡ false → eqb code 16 ≡ false → eqb (length s) (get_or payload_sizes code 0) ≡ true
    → scalar_good (payload code s) ≡ true
unfolding scalar_good
sized_good code s column-code not-one not-text size = go (code_range code column-code not-one)
  where
    go : ((3 ≤ code) × (code ≤ 7)) ⊎ ((11 ≤ code) × (code ≤ 20)) → scalar_good (payload code s) ≡ true
    go (inl (low, high)) = rw (le-leb 3 code low, le-leb code 20 (omega arith), not-text, size, or-true (eqb code 15), lt-leb 8 code (omega arith))
    go (inr (low, high)) =
        rw (le-leb 3 code (omega arith), le-leb code 20 high, not-text, size, or-true (eqb code 15), lt-leb code 10 (omega arith), and-false (leb 8 code))

cell_good : (said : Column) (s : List ℕ) (value : Scalar) → column_code said.code ≡ true → cell_meaning said s ≡ Some value → scalar_good value ≡ true
unfolding cell_meaning body_kind cell_by text_meaning scalar_good
cell_good said s value column-code means = go (eqb said.code 1) (eqb said.code 15) (eqb said.code 16) refl refl refl means
  where
    is : {other : Scalar} → Some other ≡ Some value → scalar_good other ≡ true → scalar_good value ≡ true
    is {other} e good = rw (same_Some other value e) at good

    go : (one fifteen sixteen : Bool) → eqb said.code 1 ≡ one → eqb said.code 15 ≡ fifteen → eqb said.code 16 ≡ sixteen
        → cell_by (cond one yes_no (cond fifteen binary (cond sixteen string sized))) said.code s ≡ Some value → scalar_good value ≡ true
    go true fifteen sixteen e f g m = is (given_some (eqb (length s) 1 && leb (at s 0) 1) _ m).1 refl
    go false true sixteen e f g m = is m (rw (eqb-true said.code 15 f))
    go false false true e f g m = is m refl
    go false false false e f g m =
        let size = given_some (eqb (length s) (get_or payload_sizes said.code 0)) _ m in
        is size.1 (sized_good said.code s column-code e g size.0)

empty_shows : (node : Schema) → place_meaning node empty ≡ None
unfolding place_meaning place_meaning_by
empty_shows leftover_only = refl
empty_shows (column said) = refl
empty_shows (list element) = refl
empty_shows (fields columns) = refl

-- ---- sound documents

same_places : {p q : Place} {ps qs : Places} → Some (place p ps) ≡ Some (place q qs) → (p ≡ q) × (ps ≡ qs)
same_places e = (cc, cc)

module _ (names : Dictionary) where
  pub record Sound (levels : ℕ) (d : Doc) : Type 0 where
    pub good : well_formed levels d ≡ true
    pub there : names_there names d ≡ true

  record SoundAll (levels : ℕ) (ds : Docs) : Type 0 where
    pub good : all_docs (well_formed levels) ds ≡ true
    pub there : all_names_there names ds ≡ true

  record SoundFields (levels : ℕ) (fs : Fields) : Type 0 where
    pub good : all_members (well_formed levels) fs ≡ true
    pub there : field_names_there names fs ≡ true

  sound_array : (levels : ℕ) (ds : Docs) → 1 ≤ levels → SoundAll (levels - 1) ds → Sound levels (array ds)
  unfolding well_formed well_formed_by names_there
  sound_array zero ds some_level all = absurd (omega arith)
  sound_array (suc levels) ds some_level all =
      let less : suc levels - 1 ≡ levels = omega arith in record { good = rw less at all.good; there = all.there }

  sound_object : (levels : ℕ) (fs : Fields) → 1 ≤ levels → rising (field_names fs) ≡ true → SoundFields (levels - 1) fs → Sound levels (object fs)
  unfolding well_formed well_formed_by names_there
  sound_object zero fs some_level rise all = absurd (omega arith)
  sound_object (suc levels) fs some_level rise all =
      let less : suc levels - 1 ≡ levels = omega arith in record { good = rw (rise, ← less) all.good; there = all.there }

  sound_doc : (levels : ℕ) (d : Doc) (ds : Docs) → Sound levels d → SoundAll levels ds → SoundAll levels (doc d ds)
  unfolding all_docs all_names_there
  sound_doc levels d ds one all = record { good = rw one.good all.good; there = rw one.there all.there }

  sound_field : (levels : ℕ) (name : List ℕ) (d : Doc) (fs : Fields) → among name names ≡ true → Sound levels d → SoundFields levels fs
      → SoundFields levels (field name d fs)
  unfolding all_members field_names_there
  sound_field levels name d fs named_there one all =
      record { good = rw one.good all.good; there = rw (named_there, one.there) all.there }

  record FirstSound (levels : ℕ) (name : List ℕ) (d : Doc) (fs : Fields) : Type 0 where
    pub named_there : among name names ≡ true
    pub one : Sound levels d
    pub all : SoundFields levels fs

  first_sound : (levels : ℕ) (name : List ℕ) (d : Doc) (fs : Fields) → SoundFields levels (field name d fs) → FirstSound levels name d fs
  unfolding all_members field_names_there
  first_sound levels name d fs sound =
      let goods = and_both (well_formed levels d) (all_members (well_formed levels) fs) sound.good in
      let own = and_both (among name names) (names_there names d && field_names_there names fs) sound.there in
      let theres = and_both (names_there names d) (field_names_there names fs) own.1 in
      record {
        named_there = own.0;
        one = record { good = goods.0; there = theres.0 };
        all = record { good = goods.1; there = theres.1 };
      }

  sound_insert : (levels : ℕ) (name : List ℕ) (d : Doc) (fs : Fields) → among name names ≡ true → Sound levels d → SoundFields levels fs
      → SoundFields levels (insert_field name d fs)
  unfolding insert_field insert_field_by
  sound_insert levels name d no_fields named_there one all = sound_field levels name d no_fields named_there one all
  sound_insert levels name d (field first e more) named_there one all =
      let parts = first_sound levels first e more all in
      go (order_of name first) parts (sound_insert levels name d more named_there one parts.all)
    where
      go : (o : Ordering) → FirstSound levels first e more → SoundFields levels (insert_field name d more)
          → SoundFields levels (insert_field_by o name d first e more (insert_field name d more))
      go Less parts rest = sound_field levels name d (field first e more) named_there one all
      go Equal parts rest = sound_field levels name d more named_there one parts.all
      go Greater parts rest = sound_field levels first e (insert_field name d more) parts.named_there parts.one rest

  sound_merge : (levels : ℕ) (left others : Fields) → SoundFields levels left → SoundFields levels others → SoundFields levels (merge left others)
  unfolding merge
  sound_merge levels no_fields others left_sound sound = sound
  sound_merge levels (field name d left) others left_sound sound =
      let parts = first_sound levels name d left left_sound in
      sound_insert levels name d (merge left others) parts.named_there parts.one (sound_merge levels left others parts.all sound)

  none_sound : (levels : ℕ) → SoundFields levels no_fields
  unfolding all_members field_names_there
  none_sound levels = record { good = refl; there = refl }

  -- The fields of a sound document are sound, and rise.
  fields_sound_in : (levels : ℕ) (d : Doc) → Sound levels d → SoundFields (levels - 1) (fields_in d) × (rising (field_names (fields_in d)) ≡ true)
  unfolding fields_in field_names rising names_there
  fields_sound_in levels null sound = (none_sound (levels - 1), refl)
  fields_sound_in levels (scalar value) sound = (none_sound (levels - 1), refl)
  fields_sound_in levels (array ds) sound = (none_sound (levels - 1), refl)
  fields_sound_in levels (object fs) sound =
      let parts = members_good levels fs sound.good in (record { good = parts.1; there = sound.there }, parts.0)

  -- Two halves of an object together.
  halves_sound : (levels : ℕ) (d e : Doc) → 1 ≤ levels → Sound levels d → Sound levels e → Sound levels (object (merge (fields_in d) (fields_in e)))
  halves_sound levels d e some_level left right =
      let one = fields_sound_in levels d left in
      let two = fields_sound_in levels e right in
      sound_object levels (merge (fields_in d) (fields_in e)) some_level (merge_rises (fields_in d) (fields_in e) two.1)
      (sound_merge (levels - 1) (fields_in d) (fields_in e) one.0 two.0)

  -- ---- what a place means, by what its typed bodies mean

  pub null_sound : (levels : ℕ) → 1 ≤ levels → Sound levels null
  unfolding well_formed well_formed_by names_there
  null_sound zero some_level = absurd (omega arith)
  null_sound (suc levels) some_level = record { good = refl; there = refl }

  scalar_sound : (levels : ℕ) (value : Scalar) → 1 ≤ levels → scalar_good value ≡ true → Sound levels (scalar value)
  unfolding well_formed well_formed_by names_there
  scalar_sound zero value some_level good = absurd (omega arith)
  scalar_sound (suc levels) value some_level good = record { good = good; there = refl }

  left_sound : (levels : ℕ) (s : List ℕ) (d : Doc) → leftover_meaning levels names s ≡ Some d → Sound levels d
  unfolding leftover_meaning
  left_sound levels s d e =
      let means = (given_some (leb (length s) most_leftover) _ e).1 in
      record { good = decoded-well_formed levels names s d means; there = decoded-names_there levels names s d means }

  -- What is typed under a node means something sound.
  abbrev TypedSound : Schema → ℕ → (Typed → Doc) → Type 0
  TypedSound node levels means =
      (s : List ℕ) (t : Typed) → typed_under node levels names s ≡ Some t → typed_lawful node names t ≡ true → Sound levels (means t)

  place_by : (node : Schema) (levels : ℕ) (means : Typed → Doc) → 1 ≤ levels → TypedSound node levels means → (piece : Piece) (p : Place)
      → place_under node levels names piece ≡ Some p → place_lawful node names p ≡ true → (d : Doc) → place_meaning_by means p ≡ Some d → Sound levels d
  unfolding place_meaning_by
  place_by node levels means some_level sound piece p under lawful d meant = go (under_held node levels names piece p under) lawful meant
    where
      go : {parts : Parts} {q : Place} → Held (leftover_meaning levels names) (typed_under node levels names) piece.body parts q → place_lawful node names q ≡ true
          → place_meaning_by means q ≡ Some d → Sound levels d
      go (nothing_held e) lawful meant = nowhere meant
      go (left_held {d = e} read) lawful meant = rw (same_Some e d meant) at (left_sound levels _ e read)
      go (typed_held {t = t} read) lawful meant = rw (same_Some (means t) d meant) at (sound _ t read (typed_keeps node names t lawful))
      go (both_held {d = e} {t = t} left_read read) lawful meant =
          rw (same_Some _ d meant) at
          (halves_sound levels e (means t) some_level (left_sound levels _ e left_read) (sound _ t read (both_keep node names e t lawful).inside))

  -- ---- a list's elements

  elements_sound : (levels : ℕ) (read : Piece → Option Place) (lawful : Place → Bool) (means : Place → Option Doc) → 1 ≤ levels
      → ((piece : Piece) (p : Place) → read piece ≡ Some p → lawful p ≡ true → (d : Doc) → means p ≡ Some d → Sound levels d)
      → (pieces : List Piece) (ps : Places) → list_places read pieces ≡ Some ps → elements_lawful lawful ps ≡ true → SoundAll levels (list_meaning means ps)
  unfolding list_places elements_lawful list_meaning all_docs all_names_there or_null
  elements_sound levels read lawful means some_level each [] no_places e keeps = record { good = refl; there = refl }
  elements_sound levels read lawful means some_level each [] (place p ps) e keeps = apart cc
  elements_sound levels read lawful means some_level each (piece ∷ pieces) no_places e keeps =
      let first = then_some (read piece) _ e in
      let second = then_some (list_places read pieces) _ first.2 in
      apart (let z = second.2 in cc)
  elements_sound levels read lawful means some_level each (piece ∷ pieces) (place p ps) e keeps =
      let first = then_some (read piece) _ e in
      let second = then_some (list_places read pieces) _ first.2 in
      let same = same_places second.2 in
      let kept = and_both (not (breaks_e p) && lawful p) (elements_lawful lawful ps) keeps in
      sound_doc levels (or_null (means p)) (list_meaning means ps)
      (go (means p) refl (first.1 ∙ ap Some same.0) (and_both (not (breaks_e p)) (lawful p) kept.0).1)
      (elements_sound levels read lawful means some_level each pieces ps (second.1 ∙ ap Some same.1) kept.1)
    where
      go : (x : Option Doc) → means p ≡ x → read piece ≡ Some p → lawful p ≡ true → Sound levels (or_null x)
      go None is reads keeps = null_sound levels some_level
      go (Some d) is reads keeps = each piece p reads keeps d is

  list_typed : (element : Schema) (levels : ℕ) → 1 ≤ levels → 1 ≤ levels - 1
      → ((piece : Piece) (p : Place) → place_under element (levels - 1) names piece ≡ Some p → place_lawful element names p ≡ true
      → (d : Doc) → place_meaning element p ≡ Some d → Sound (levels - 1) d)
      → (pieces : List Piece) (ps : Places) → list_places (place_under element (levels - 1) names) pieces ≡ Some ps → (t : Typed) → Some (inner ps) ≡ Some t
      → inner_lawful (elements_lawful (place_lawful element names)) t ≡ true → Sound levels (inner_doc (λ ps. array (list_meaning (λ p. place_meaning element p) ps)) t)
  unfolding inner_lawful inner_doc
  list_typed element levels some_level level-inside each pieces ps read t is keeps =
      let same : inner ps ≡ t = same_Some (inner ps) t is in
      let kept : elements_lawful (place_lawful element names) ps ≡ true = rw (← same) at keeps in
      rw (← same)
      (sound_array levels (list_meaning (λ p. place_meaning element p) ps) some_level
      (elements_sound (levels - 1) (place_under element (levels - 1) names) (place_lawful element names) (λ p. place_meaning element p) level-inside each pieces ps read kept))

  -- ---- an object's fields

  fields_typed : (columns : SchemaFields) (levels : ℕ) → 1 ≤ levels → rising (column_names columns) ≡ true → (ps : Places) (t : Typed) → Some (inner ps) ≡ Some t
      → inner_lawful (fields_lawful columns names) t ≡ true → (fields_lawful columns names ps ≡ true → SoundFields (levels - 1) (fields_meaning columns ps))
      → Sound levels (inner_doc (λ ps. object (fields_meaning columns ps)) t)
  unfolding inner_lawful inner_doc
  fields_typed columns levels some_level rise ps t is keeps sound =
      let same : inner ps ≡ t = same_Some (inner ps) t is in
      let kept : fields_lawful columns names ps ≡ true = rw (← same) at keeps in
      rw (← same) (sound_object levels (fields_meaning columns ps) some_level (meant_rises columns ps rise) (sound kept))

  -- A place that means something is present, so its name is in the dictionary (rule f).
  meant_present : (node : Schema) (p : Place) (d : Doc) → place_meaning node p ≡ Some d → has_leftover p || has_typed p ≡ true
  unfolding has_leftover has_typed
  meant_present node empty d meant = nowhere (sym (empty_shows node) ∙ meant)
  meant_present node (leftover e) d meant = refl
  meant_present node (typed t) d meant = refl
  meant_present node (both e t) d meant = refl

  field_added : (name : List ℕ) (node : Schema) (levels : ℕ) (p : Place) → not (breaks_f names name p) ≡ true → (fs : Fields) (x : Option Doc)
      → place_meaning node p ≡ x → ((d : Doc) → place_meaning node p ≡ Some d → Sound levels d) → SoundFields levels fs → SoundFields levels (add_field name x fs)
  unfolding add_field
  field_added name node levels p keeps fs None is sound rest = rest
  field_added name node levels p keeps fs (Some d) is sound rest =
      sound_field levels name d fs (present_named names name p (meant_present node p d is) keeps) (sound d is) rest

  -- ---- all of a row: over the node

  mutual
    unfolding place_meaning fields_meaning place_lawful fields_lawful place_under field_places typed_under typed_lawful inner_lawful no_body cell_body inner_body cell_doc inner_doc add_field

    pub place_sound : (node : Schema) (levels : ℕ) → good_schema node levels ≡ true → (piece : Piece) (p : Place) → place_under node levels names piece ≡ Some p
        → place_lawful node names p ≡ true → (d : Doc) → place_meaning node p ≡ Some d → Sound levels d
    place_sound leftover_only levels good = place_by leftover_only levels cell_doc (good_level leftover_only levels good) (λ s t e keeps. nowhere e)
    place_sound (column said) levels good =
        place_by (column said) levels cell_doc (good_level (column said) levels good)
        (λ s t e keeps.
        let value = then_some (cell_meaning said s) _ e in
        rw (← same_Some _ t value.2)
        (scalar_sound levels value.0 (good_level (column said) levels good) (cell_good said s value.0 (good_column said levels good) value.1)))
    place_sound (list element) levels good =
        let inside = good_element element levels good in
        place_by (list element) levels _ (good_level (list element) levels good)
        (λ s t e keeps.
        let pieces = then_some (pieces_of s) _ e in
        let read = then_some (list_places (place_under element (levels - 1) names) pieces.0) _ pieces.2 in
        list_typed element levels (good_level (list element) levels good) (good_level element (levels - 1) inside)
        (λ piece p under lawful d meant. place_sound element (levels - 1) inside piece p under lawful d meant) pieces.0 read.0 read.1 t read.2 keeps)
    place_sound (fields columns) levels good =
        let object-good = good_object columns levels good in
        place_by (fields columns) levels _ (good_level (fields columns) levels good)
        (λ s t e keeps.
        let pieces = then_some (pieces_of s) _ e in
        let read = then_some (field_places columns (levels - 1) names pieces.0) _ pieces.2 in
        fields_typed columns levels (good_level (fields columns) levels good) object-good.rise read.0 t read.2 keeps
        (λ kept. fields_sound columns (levels - 1) object-good.inside pieces.0 read.0 read.1 kept))

    fields_sound : (columns : SchemaFields) (levels : ℕ) → good_fields columns levels ≡ true → (pieces : List Piece) (ps : Places)
        → field_places columns levels names pieces ≡ Some ps → fields_lawful columns names ps ≡ true → SoundFields levels (fields_meaning columns ps)
    fields_sound none_named levels good pieces ps e keeps = none_sound levels
    fields_sound (named name node columns) levels good [] ps e keeps = nowhere e
    fields_sound (named name node columns) levels good (piece ∷ pieces) no_places e keeps = none_sound levels
    fields_sound (named name node columns) levels good (piece ∷ pieces) (place p ps) e keeps =
        let goods = good_field name node columns levels good in
        let first = then_some (place_under node levels names piece) _ e in
        let second = then_some (field_places columns levels names pieces) _ first.2 in
        let same = same_places second.2 in
        let kept = and_both (not (breaks_f names name p) && place_lawful node names p) (fields_lawful columns names ps) keeps in
        let own = and_both (not (breaks_f names name p)) (place_lawful node names p) kept.0 in
        field_added name node levels p own.0 (fields_meaning columns ps) (place_meaning node p) refl
        (λ d meant. place_sound node levels goods.0 piece p (first.1 ∙ ap Some same.0) own.1 d meant)
        (fields_sound columns levels goods.1 pieces ps (second.1 ∙ ap Some same.1) kept.1)
