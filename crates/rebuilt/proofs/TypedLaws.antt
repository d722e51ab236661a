-- What is typed in a place is rebuilt to the normal form of what it means, if the places inside it are: a cell, a list's
-- places, an object's places merged with the members of a leftover.
use Rattle.std.specs.Prelude.{Option, None, Some}
use mathlib.Core.Bool.{true, false, not, ◌&&◌}
use mathlib.Core.List.{List, [], ◌∷◌, map}
use mathlib.Core.Path.{◌≡◌, refl, sym, ap, ◌∙◌}
use Prim.Native.Nat.{ℕ, ◌+◌, ◌-◌}
use Rattle.marking.specs.Ids.{ids_in}
use Rattle.paper.proofs.WordLaws.{never, then_some, and_both, some_there}
use Rattle.paper.specs.Cells.{cell_meaning}
use Rattle.paper.specs.Framing.{Piece, pieces_of}
use Rattle.paper.specs.Meaning.{object, Fields}
use Rattle.paper.specs.Metadata.{Dictionary, rising}
use Rattle.paper.specs.Normal.{field_names, array_bytes, value_bytes, element_bytes}
use Rattle.paper.specs.Rebuilding.{merge, fields_in, or_null, cell_doc, inner_doc, list_meaning, place_meaning, fields_meaning}
use Rattle.paper.specs.Rows.{Place, Typed, cell, inner, Places, no_places, place, no_body, cell_body, inner_body, list_places, place_under, field_places}
use Rattle.paper.specs.Rules.{is_fields_node, named_by, any_named, breaks_e, inner_lawful, elements_lawful, place_lawful, fields_lawful}
use Rattle.paper.specs.Schemas.{Column, Schema, leftover_only, column, list, fields, SchemaFields, column_names}
use Rattle.paper.specs.Values.{meaning_of}
use Rattle.paper.specs.Words.{is_there, joined}
use Rattle.places.specs.Verdicts.{typed_under, typed_lawful}
use Rattle.rebuilt.proofs.CellLaws.{cell_is}
use Rattle.rebuilt.proofs.HeldLaws.{Fits, AllFit, one_fits, pieces_fit}
use Rattle.rebuilt.proofs.LeftLaws.{left_are, left_rises, none_left}
use Rattle.rebuilt.proofs.MergeLaws.{AreFields, none_are, object_is, merged_are}
use Rattle.rebuilt.proofs.NamedLaws.{meant_named, fewer_named}
use Rattle.rebuilt.proofs.NumberedLaws.{numbered_front, numbered_behind}
use Rattle.rebuilt.proofs.PartsLaws.{typed_meaning}
use Rattle.rebuilt.specs.Members.{no_left}
use Rattle.rebuilt.specs.Rebuilt.{cell_value, listed, pieces_in, place_rebuilt, member_places, typed_rebuilt}
use Rattle.rebuilt.specs.There.{Numbered}
use Rattle.rebuilt.specs.Using.{place_ids, member_ids, element_ids, typed_ids}
use Rattle.std.proofs.lemmas.Option.{same_Some}

-- ---- inner places that parsed

record InnerRead (read : List Piece → Option Places) (s : List ℕ) (t : Typed) : Type 0 where
  pieces : List Piece
  ps : Places
  framed : pieces_of s ≡ Some pieces
  are : read pieces ≡ Some ps
  is : inner ps ≡ t

inner_read : (read : List Piece → Option Places) (s : List ℕ) (t : Typed) → inner_body read s ≡ Some t → InnerRead read s t
unfolding inner_body
inner_read read s t e =
    let framed = then_some (pieces_of s) _ e in
    let are = then_some (read framed.0) _ framed.2 in
    record { pieces = framed.0; ps = are.0; framed = framed.1; are = are.1; is = same_Some (inner are.0) t are.2 }

pieces_in_lem : (s : List ℕ) (pieces : List Piece) → pieces_of s ≡ Some pieces → pieces_in s ≡ pieces
unfolding pieces_in listed
pieces_in_lem s pieces e = rw e

module _ (names normal : Dictionary) (ranks schema table : List ℕ) where
  -- ---- what is known, and what is shown

  -- A place that parsed and keeps its rules, and whose ids are numbered, ..
  pub record PlaceHere (under : Schema) (levels node : ℕ) (piece : Piece) (p : Place) : Type 0 where
    pub read : place_under under levels names piece ≡ Some p
    pub lawful : place_lawful under names p ≡ true
    pub numbered : Numbered names normal ranks (place_ids under levels schema table node piece.body)
    pub fits : Fits piece.body

  -- .. is rebuilt to the normal form of what it means.
  abbrev pub PlaceIs : Schema → (levels node : ℕ) → Type 0
  PlaceIs under levels node =
      (piece : Piece) (p : Place) → PlaceHere under levels node piece p
      → place_rebuilt under levels ranks schema table node piece.body ≡ value_bytes normal (or_null (place_meaning under p))

  -- The same of an object's places.
  pub record MembersHere (columns : SchemaFields) (levels field : ℕ) (pieces : List Piece) (ps : Places) : Type 0 where
    pub read : field_places columns levels names pieces ≡ Some ps
    pub lawful : fields_lawful columns names ps ≡ true
    pub numbered : Numbered names normal ranks (member_ids columns levels schema table field pieces)
    pub fit : AllFit pieces

  abbrev pub MembersAre : SchemaFields → (levels field : ℕ) → Type 0
  MembersAre columns levels field =
      (pieces : List Piece) (ps : Places) → MembersHere columns levels field pieces ps
      → AreFields normal ranks (member_places columns levels ranks schema table field pieces) (fields_meaning columns ps)

  -- What is typed in a place, ..
  pub record TypedHere (under : Schema) (levels node : ℕ) (s : List ℕ) (t : Typed) : Type 0 where
    pub read : typed_under under levels names s ≡ Some t
    pub lawful : typed_lawful under names t ≡ true
    pub numbered : Numbered names normal ranks (typed_ids under levels schema table node s)
    pub fits : Fits s

  -- .. and a leftover beside it.
  pub record BesideHere (under : Schema) (levels : ℕ) (left : List ℕ) (fs : Fields) : Type 0 where
    pub on_fields : is_fields_node under ≡ true
    pub apart : any_named (named_by under) fs ≡ false
    pub means : meaning_of levels names left ≡ Some (object fs)
    pub numbered : Numbered names normal ranks (ids_in levels left)
    pub fits : Fits left

  pub record TypedIs (under : Schema) (levels node : ℕ) : Type 0 where
    pub alone : (s : List ℕ) (t : Typed) → TypedHere under levels node s t
        → typed_rebuilt under levels ranks schema table node no_left s ≡ value_bytes normal (typed_meaning under t)
    pub beside : (left s : List ℕ) (fs : Fields) (t : Typed) → BesideHere under levels left fs → TypedHere under levels node s t
        → typed_rebuilt under levels ranks schema table node left s ≡ value_bytes normal (object (merge fs (fields_in (typed_meaning under t))))

  -- ---- nothing, and a cell

  pub leftover_typed : (levels node : ℕ) → TypedIs leftover_only levels node
  unfolding typed_under no_body is_there is_fields_node
  leftover_typed levels node =
      record {
        alone = λ s t here. never (sym (some_there None here.read));
        beside = λ left s fs t with-left here. never (sym with-left.on_fields);
      }

  cell_alone : (said : Column) (levels node : ℕ) (s : List ℕ) (t : Typed) → TypedHere (column said) levels node s t
      → cell_value said.code s ≡ value_bytes normal (typed_meaning (column said) t)
  unfolding typed_under cell_body typed_meaning cell_doc value_bytes
  cell_alone said levels node s t here =
      let told = then_some (cell_meaning said s) (λ value. Some (cell said value)) here.read in
      cell_is said.code s told.1
      ∙ ap (λ (c : Typed). value_bytes normal (typed_meaning (column said) c)) (same_Some (cell said told.0) t told.2)

  pub cell_typed : (said : Column) (levels node : ℕ) → TypedIs (column said) levels node
  unfolding typed_rebuilt is_fields_node
  cell_typed said levels node =
      record {
        alone = λ s t here. cell_alone said levels node s t here;
        beside = λ left s fs t with-left here. never (sym with-left.on_fields);
      }

  -- ---- a list's places

  module _ (element : Schema) (levels node : ℕ) (each : PlaceIs element levels node) where
    elements_are : (pieces : List Piece) (ps : Places) → list_places (place_under element levels names) pieces ≡ Some ps
        → elements_lawful (place_lawful element names) ps ≡ true → Numbered names normal ranks (element_ids element levels schema table node pieces) → AllFit pieces
        → map (λ (piece : Piece). place_rebuilt element levels ranks schema table node piece.body) pieces
        ≡ element_bytes normal (list_meaning (place_meaning element) ps)
    unfolding list_places elements_lawful element_ids joined list_meaning element_bytes
    elements_are [] ps read lawful numbered fit =
        ap (λ (l : Places). element_bytes normal (list_meaning (place_meaning element) l)) (same_Some no_places ps read)
    elements_are (piece ∷ more) ps read lawful numbered (one_fits fits fit) =
        let first = then_some (place_under element levels names piece) _ read in
        let rest = then_some (list_places (place_under element levels names) more) _ first.2 in
        let is : place first.0 rest.0 ≡ ps = same_Some (place first.0 rest.0) ps rest.2 in
        let keep = and_both (not (breaks_e first.0) && place_lawful element names first.0) (elements_lawful (place_lawful element names) rest.0)
        (ap (elements_lawful (place_lawful element names)) is ∙ lawful) in
        let own = and_both (not (breaks_e first.0)) (place_lawful element names first.0) keep.0 in
        let here : PlaceHere element levels node piece first.0 =
        record { read = first.1; lawful = own.1; numbered = numbered_front _ _ numbered; fits = fits } in
        let behind = elements_are more rest.0 rest.1 keep.1
        (numbered_behind (place_ids element levels schema table node piece.body) _ numbered) fit in
        rw (each piece first.0 here, behind) (ap (λ (l : Places). element_bytes normal (list_meaning (place_meaning element) l)) is)

  list_alone : (element : Schema) (levels node : ℕ) → PlaceIs element (levels - 1) (node + 3) → (s : List ℕ) (t : Typed) → TypedHere (list element) levels node s t
      → typed_rebuilt (list element) levels ranks schema table node no_left s ≡ value_bytes normal (typed_meaning (list element) t)
  unfolding typed_under typed_lawful inner_lawful typed_ids typed_rebuilt typed_meaning inner_doc value_bytes
  list_alone element levels node each s t here =
      let r = inner_read (list_places (place_under element (levels - 1) names)) s t here.read in
      let in_order : pieces_in s ≡ r.pieces = pieces_in_lem s r.pieces r.framed in
      let lawful : elements_lawful (place_lawful element names) r.ps ≡ true = ap (typed_lawful (list element) names) r.is ∙ here.lawful in
      let numbered : Numbered names normal ranks (element_ids element (levels - 1) schema table (node + 3) r.pieces) = rw in_order at here.numbered in
      let parts = elements_are element (levels - 1) (node + 3) each r.pieces r.ps r.are lawful numbered (pieces_fit s here.fits r.pieces r.framed) in
      rw in_order (ap array_bytes parts) ∙ ap (λ (c : Typed). value_bytes normal (typed_meaning (list element) c)) r.is

  pub list_typed : (element : Schema) (levels node : ℕ) → PlaceIs element (levels - 1) (node + 3) → TypedIs (list element) levels node
  unfolding is_fields_node
  list_typed element levels node each =
      record {
        alone = λ s t here. list_alone element levels node each s t here;
        beside = λ left s fs t with-left here. never (sym with-left.on_fields);
      }

  -- ---- an object's places, and a leftover beside them

  module _ (rise : rising normal ≡ true) (columns : SchemaFields) (levels node : ℕ) (members : MembersAre columns (levels - 1) (node + 3)) where
    -- The typed members are the fields that they mean.
    record ObjectRead (s : List ℕ) (t : Typed) : Type 0 where
      ps : Places
      is : inner ps ≡ t
      are : AreFields normal ranks (member_places columns (levels - 1) ranks schema table (node + 3) (pieces_in s)) (fields_meaning columns ps)

    object_read : (s : List ℕ) (t : Typed) → TypedHere (fields columns) levels node s t → ObjectRead s t
    unfolding typed_under typed_lawful inner_lawful typed_ids
    object_read s t here =
        let r = inner_read (field_places columns (levels - 1) names) s t here.read in
        let in_order : pieces_in s ≡ r.pieces = pieces_in_lem s r.pieces r.framed in
        let inside : MembersHere columns (levels - 1) (node + 3) r.pieces r.ps =
        record {
          read = r.are;
          lawful = ap (typed_lawful (fields columns) names) r.is ∙ here.lawful;
          numbered = rw in_order at here.numbered;
          fit = pieces_fit s here.fits r.pieces r.framed;
        } in
        record { ps = r.ps; is = r.is; are = rw in_order (members r.pieces r.ps inside) }

    object_alone : (s : List ℕ) (t : Typed) → TypedHere (fields columns) levels node s t
        → typed_rebuilt (fields columns) levels ranks schema table node no_left s ≡ value_bytes normal (typed_meaning (fields columns) t)
    unfolding typed_rebuilt typed_meaning inner_doc merge rising field_names any_named
    object_alone s t here =
        let r = object_read s t here in
        rw (none_left (levels - 1) ranks) (object_is normal ranks (merged_are normal ranks rise r.are none_are refl refl))
        ∙ ap (λ (c : Typed). value_bytes normal (typed_meaning (fields columns) c)) r.is

    object_beside : (left s : List ℕ) (fs : Fields) (t : Typed) → BesideHere (fields columns) levels left fs → TypedHere (fields columns) levels node s t
        → typed_rebuilt (fields columns) levels ranks schema table node left s ≡ value_bytes normal (object (merge fs (fields_in (typed_meaning (fields columns) t))))
    unfolding typed_rebuilt typed_meaning inner_doc fields_in named_by
    object_beside left s fs t with-left here =
        let r = object_read s t here in
        let lefts = left_are names normal ranks left with-left.fits.bytes with-left.fits.small fs levels with-left.means with-left.numbered in
        let apart : any_named (field_names (fields_meaning columns r.ps)) fs ≡ false =
        fewer_named (field_names (fields_meaning columns r.ps)) (column_names columns) (meant_named columns r.ps) fs with-left.apart in
        object_is normal ranks (merged_are normal ranks rise r.are lefts (left_rises levels names left fs with-left.means) apart)
        ∙ ap (λ (c : Typed). value_bytes normal (object (merge fs (fields_in (typed_meaning (fields columns) c))))) r.is

    pub object_typed : TypedIs (fields columns) levels node
    object_typed = record { alone = object_alone; beside = object_beside }
