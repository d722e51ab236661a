-- A place uses what its leftover uses and what is typed in it uses: its ids by its parts, and what it means by them.
use Rattle.std.specs.Prelude.{None, Some}
use mathlib.Core.Bool.{Bool, true, false, not, ◌&&◌, ◌||◌}
use mathlib.Core.List.{List, [], ◌++◌}
use mathlib.Core.Path.{◌≡◌, refl, sym, ap, ◌∙◌}
use Prim.Native.Nat.{ℕ, ◌+◌}
use native.Mathlib.Omega.{arith}
use lib.Dec.{leb, eqb}
use lib.ListN.{length}
use Rattle.frames.proofs.FrameLaws.{pieces_ended}
use Rattle.marking.specs.Ids.{ids_in}
use Rattle.names.specs.Used.{used_in}
use Rattle.paper.specs.Framing.{Piece, pieces_of}
use Rattle.paper.specs.Limits.{most_leftover}
use Rattle.paper.specs.Meaning.{Doc, null, scalar, array, object, no_fields}
use Rattle.paper.specs.Metadata.{Dictionary}
use Rattle.paper.specs.Normal.{field_names}
use Rattle.paper.specs.Rebuilding.{merge, fields_in, or_null, place_meaning_by, inner_doc, place_meaning, fields_meaning}
use Rattle.paper.specs.Rows.{Place, empty, leftover, typed, both, Typed, cell, inner, leftover_meaning, place_parts, place_by, place_within, place_under}
use Rattle.paper.specs.Rules.{has_leftover, has_typed, leftover_of, is_object, is_fields_node, named_by, has_any, breaks_a, breaks_b, breaks_c, breaks_d, inside_lawful, place_lawful_by, place_lawful}
use Rattle.paper.specs.Schemas.{Schema, leftover_only, column, list, fields, column_names}
use Rattle.paper.specs.Values.{meaning_of}
use Rattle.paper.specs.Words.{part, given, and_then, among, is_there}
use Rattle.places.specs.Leftovers.{beside_broken}
use Rattle.places.specs.Parts.{parts_of}
use Rattle.places.specs.Verdicts.{typed_under, typed_lawful}
use Rattle.places.specs.declared.parts.Parts.TheVariants.{Empty, Leftover, Typed as TypedPart, Both, Unframed}
use Rattle.places.specs.declared.parts.Parts.{Parts}
use Rattle.paper.proofs.WordLaws.{never, given_some, then_some, some_there}
use Rattle.places.proofs.PlaceLaws.{Told, told}
use Rattle.places.proofs.VerdictLaws.{place_under_lem, place_lawful_lem}
use Rattle.rebuilt.specs.Rebuilt.{rebuilt_by}
use Rattle.rebuilt.specs.Using.{place_ids, typed_ids}
use Rattle.rebuilt.proofs.LeftLaws.{left_rises}
use Rattle.rebuilt.proofs.MergeNamesLaws.{merge_used}
use Rattle.rebuilt.proofs.NamedLaws.{meant_named}
use Rattle.rebuilt.proofs.PartsLaws.{typed_meaning, meaning_parts}
use Rattle.rebuilt.proofs.PartwiseLaws.{ids_are-typed, no_left-ids}
use Rattle.rebuilt.proofs.UsesLaws.{Uses, uses_none, uses_as, uses_both, uses_left}
use Rattle.std.proofs.lemmas.Option.{same_Some}

-- ---- a leftover beside something typed

-- Rules a, b and c: it is an object beside an object, and they share no name.
beside_used : (under : Schema) (levels : ℕ) (names : Dictionary) (left : List ℕ) (d : Doc) (t : Typed) → meaning_of levels names left ≡ Some d
    → beside_broken under d ≡ false → (name : List ℕ)
    → used_in name d || used_in name (typed_meaning under t) ≡ used_in name (object (merge (fields_in d) (fields_in (typed_meaning under t))))
unfolding beside_broken is_fields_node is_object has_any named_by typed_meaning inner_doc fields_in used_in field_names among
beside_used leftover_only levels names left d t means kept name = never kept
beside_used (column said) levels names left d t means kept name = never kept
beside_used (list element) levels names left d t means kept name = never kept
beside_used (fields columns) levels names left null t means kept name = never kept
beside_used (fields columns) levels names left (scalar v) t means kept name = never kept
beside_used (fields columns) levels names left (array ds) t means kept name = never kept
beside_used (fields columns) levels names left (object fs) (inner ps) means kept name =
    sym (merge_used (column_names columns) fs (fields_meaning columns ps) (left_rises levels names left fs means) kept (meant_named columns ps) name)
beside_used (fields columns) levels names left (object fs) (cell said value) means kept name =
    sym (merge_used (column_names columns) fs no_fields (left_rises levels names left fs means) kept (λ n e. never (sym e)) name)

typed_kept : (under : Schema) (keeps : Typed → Bool) (t : Typed) → place_lawful_by under keeps (typed t) ≡ true → keeps t ≡ true
unfolding place_lawful_by breaks_a breaks_b breaks_c breaks_d has_leftover has_typed leftover_of inside_lawful
typed_kept under keeps t e = e

both_kept : (under : Schema) (keeps : Typed → Bool) (d : Doc) (t : Typed) → place_lawful_by under keeps (both d t) ≡ true
    → (beside_broken under d ≡ false) × (keeps t ≡ true)
unfolding place_lawful_by breaks_a breaks_b breaks_c breaks_d has_leftover has_typed leftover_of inside_lawful beside_broken
both_kept under keeps d t = go (is_fields_node under) (is_object d) (has_any (named_by under) d)
  where
    go : (a b c : Bool) → not (not a || (not b || (c || false))) && keeps t ≡ true → (not a || (not b || c) ≡ false) × (keeps t ≡ true)
    go false b c e = never (sym e)
    go true false c e = never (sym e)
    go true true true e = never (sym e)
    go true true false e = (refl, e)

-- ---- a place, by what is typed in it

-- What is typed under a node uses the names of its ids.
abbrev pub TypedUses : Schema → (levels : ℕ) → Dictionary → (schema table : List ℕ) → (node : ℕ) → Type 0
TypedUses under levels names schema table node =
    (s : List ℕ) (t : Typed) → typed_under under levels names s ≡ Some t → typed_lawful under names t ≡ true
    → Uses names (typed_ids under levels schema table node s) (λ name. used_in name (typed_meaning under t))

abbrev pub PlaceUses : Schema → (levels : ℕ) → Dictionary → (schema table : List ℕ) → (node : ℕ) → Type 0
PlaceUses under levels names schema table node =
    (piece : Piece) (p : Place) → place_under under levels names piece ≡ Some p → place_lawful under names p ≡ true
    → Uses names (place_ids under levels schema table node piece.body) (λ name. used_in name (or_null (place_meaning under p)))

left_means : (levels : ℕ) (names : Dictionary) (left : List ℕ) {d : Doc} → leftover_meaning levels names left ≡ Some d → meaning_of levels names left ≡ Some d
unfolding leftover_meaning
left_means levels names left e = (given_some (leb (length left) most_leftover) (meaning_of levels names left) e).1

module _ (under : Schema) (levels : ℕ) (names : Dictionary) (schema table : List ℕ) (node : ℕ) (each : TypedUses under levels names schema table node) where
  abbrev Ids : List ℕ → List ℕ → List ℕ
  Ids left s = ids_in levels left ++ typed_ids under levels schema table node s

  both_use : (left s : List ℕ) (d : Doc) (t : Typed) (p : Place) → leftover_meaning levels names left ≡ Some d → typed_under under levels names s ≡ Some t
      → both d t ≡ p → place_lawful_by under (typed_lawful under names) p ≡ true
      → Uses names (Ids left s) (λ name. used_in name (or_null (place_meaning_by (typed_meaning under) p)))
  unfolding place_meaning_by or_null
  both_use left s d t p read typed-read is kept =
      let keeps = both_kept under (typed_lawful under names) d t (rw (← is) at kept) in
      let means = left_means levels names left read in
      rw (← is)
      (uses_as (uses_both (uses_left levels names left d means) (each s t typed-read keeps.1)) (beside_used under levels names left d t means keeps.0))

  by_parts : (body : List ℕ) (p : Place) → and_then (pieces_of body) (place_parts (leftover_meaning levels names) (typed_under under levels names)) ≡ Some p
      → place_lawful_by under (typed_lawful under names) p ≡ true
      → (parts : Parts) → Told body parts
      → Uses names (rebuilt_by [] [] (ids_in levels) Ids parts body) (λ name. used_in name (or_null (place_meaning_by (typed_meaning under) p)))
  unfolding and_then place_parts given place_meaning_by rebuilt_by or_null used_in is_there
  by_parts body p e kept Empty none_left =
      let is : empty ≡ p = same_Some empty p (sym (rw (pieces_ended body 0 (omega arith))) ∙ e) in rw (← is) uses_none
  by_parts body p e kept Leftover t =
      let left : List ℕ = part body 3 (length body) in
      let got = then_some (leftover_meaning levels names left) (λ d. Some (leftover d)) (rw (t.pieces, t.tagged) at e) in
      rw (← same_Some (leftover got.0) p got.2) (uses_left levels names left got.0 (left_means levels names left got.1))
  by_parts body p e kept TypedPart t =
      let s : List ℕ = part body 3 (length body) in
      let got = then_some (typed_under under levels names s) (λ u. Some (typed u)) (rw (t.pieces, t.tagged) at e) in
      let is : typed got.0 ≡ p = same_Some (typed got.0) p got.2 in
      rw (← is, no_left-ids levels) (each s got.0 got.1 (typed_kept under (typed_lawful under names) got.0 (ap (place_lawful_by under (typed_lawful under names)) is ∙ kept)))
  by_parts body p e kept (Both middle) t =
      let left : List ℕ = part body 3 middle in
      let s : List ℕ = part body (middle + 3) (length body) in
      let one = then_some (leftover_meaning levels names left) _ (rw (t.pieces, t.first_tag, t.second_tag) at e) in
      let other = then_some (typed_under under levels names s) _ one.2 in
      both_use left s one.0 other.0 p one.1 other.1 (same_Some (both one.0 other.0) p other.2) kept
  by_parts body p e kept Unframed t = never (sym (some_there None (sym (t (leftover_meaning levels names) (typed_under under levels names)) ∙ e)))

  pub uses_place : PlaceUses under levels names schema table node
  unfolding place_within place_by
  uses_place piece p e lawful =
      let there = (given_some (eqb piece.tag 0x50) _ (rw (place_under_lem under levels names) at e)).1 in
      rw (ids_are-typed under levels schema table node piece.body, meaning_parts under)
      (by_parts piece.body p there (rw (place_lawful_lem under names) at lawful) (parts_of piece.body) (told piece.body))
