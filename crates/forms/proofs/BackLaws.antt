-- What is written under a dictionary with all of its names means the document: shown one level further in at a time, the
-- elements and members of one container by what decodes one of them.
use Rattle.std.specs.Prelude.{Option, Some}
use mathlib.Core.Bool.{Bool, true}
use mathlib.Core.List.{List, [], ◌++◌, map}
use mathlib.Core.Path.{◌≡◌, refl, sym, ap, ◌∙◌}
use Prim.Native.Nat.{ℕ, zero, suc, ◌+◌, ◌^◌, ◌≤◌, ◌<◌}
use native.Mathlib.Omega.{arith}
use borrow.Author.Tests.{lt-ltb}
use lib.ListN.{length, length-append}
use Rattle.forms.specs.WellFormed.{all_docs, all_members, well_formed_by, well_formed, names_there, all_names_there, field_names_there}
use Rattle.paper.specs.Meaning.{Doc, null, scalar, array, object, Docs, no_docs, doc, Fields, no_fields, field}
use Rattle.paper.specs.Metadata.{Dictionary, rising}
use Rattle.paper.specs.Normal.{array_bytes, object_bytes, id_of, field_names, value_bytes, element_bytes, member_bytes}
use Rattle.paper.specs.Values.{extent, names_at, element_docs, member_docs, meaning_of}
use Rattle.paper.specs.Words.{and_then, all_below, among, joined}
use Rattle.forms.proofs.ContainerLaws.{array_fit, array_filled, array_meaning, object_fit, object_filled, object_meaning}
use Rattle.forms.proofs.PartLaws.{children_from, AllFilled, part_bytes, further}
use Rattle.forms.proofs.ScalarLaws.{Filled, null_written, scalar_written}
use Rattle.heads.proofs.HeadLaws.{extent_more}
use Rattle.names.proofs.IdLaws.{id_below, id_name}
use Rattle.paper.proofs.WordLaws.{never, and_both}

-- ---- the ids of a document's names

module _ (names : Dictionary) where
  pub ids_length : (fs : Fields) → length (map (id_of names) (field_names fs)) ≡ length (member_bytes names fs)
  unfolding field_names member_bytes
  ids_length no_fields = refl
  ids_length (field name d fs) = ap suc (ids_length fs)

  pub ids_below_lem : (fs : Fields) → field_names_there names fs ≡ true → all_below (length names) (map (id_of names) (field_names fs)) ≡ true
  unfolding field_names field_names_there all_below
  ids_below_lem no_fields there = refl
  ids_below_lem (field name d fs) there =
      let first = and_both (among name names) _ there in
      let rest = and_both (names_there names d) (field_names_there names fs) first.1 in
      rw (lt-ltb (id_of names name) (length names) (id_below names name first.0), ids_below_lem fs rest.1)

  ids_back : (fs : Fields) → field_names_there names fs ≡ true → names_at names (map (id_of names) (field_names fs)) ≡ field_names fs
  unfolding field_names field_names_there names_at
  ids_back no_fields there = refl
  ids_back (field name d fs) there =
      let first = and_both (among name names) _ there in
      let rest = and_both (names_there names d) (field_names_there names fs) first.1 in
      rw (id_name names name first.0, ids_back fs rest.1)

-- ---- the elements and the members of a container

module _ (names : Dictionary) (inner : List ℕ → Option Doc) (good : Doc → Bool)
    (each : (d : Doc) → good d ≡ true → names_there names d ≡ true → length (value_bytes names d) < 2 ^ 32
    → Filled (value_bytes names d) × (inner (value_bytes names d) ≡ Some d)) where
  elements_back : (front : List ℕ) (ds : Docs) → all_docs good ds ≡ true → all_names_there names ds ≡ true
      → length (joined (element_bytes names ds)) < 2 ^ 32
      → AllFilled (element_bytes names ds)
      × (element_docs inner (front ++ joined (element_bytes names ds)) (children_from (length front) (element_bytes names ds)) ≡ Some ds)
  unfolding all_docs all_names_there element_bytes joined AllFilled children_from element_docs and_then
  elements_back front no_docs all there small = (tt, refl)
  elements_back front (doc d ds) all there small =
      let goods = and_both (good d) (all_docs good ds) all in
      let found = and_both (names_there names d) (all_names_there names ds) there in
      let one : List ℕ = value_bytes names d in
      let more : List (List ℕ) = element_bytes names ds in
      let size : length (one ++ joined more) ≡ length one + length (joined more) = length-append one (joined more) in
      let first = each d goods.0 found.0 (omega arith) in
      let rest = elements_back (front ++ one) ds goods.1 found.1 (omega arith) in
      let here : element_docs inner (front ++ (one ++ joined more)) (children_from (length front + length one) more) ≡ Some ds =
      rw (further front one more, ← length-append front one) rest.1 in
      ((first.0, rest.0), rw (part_bytes front one more, first.1, here))

  members_back : (front : List ℕ) (fs : Fields) → all_members good fs ≡ true → field_names_there names fs ≡ true
      → length (joined (member_bytes names fs)) < 2 ^ 32
      → AllFilled (member_bytes names fs)
      × (member_docs inner (front ++ joined (member_bytes names fs)) (field_names fs) (children_from (length front) (member_bytes names fs)) ≡ Some fs)
  unfolding all_members field_names_there member_bytes field_names joined AllFilled children_from member_docs and_then
  members_back front no_fields all there small = (tt, refl)
  members_back front (field name d fs) all there small =
      let goods = and_both (good d) (all_members good fs) all in
      let found = and_both (names_there names d) (field_names_there names fs) (and_both (among name names) _ there).1 in
      let one : List ℕ = value_bytes names d in
      let more : List (List ℕ) = member_bytes names fs in
      let size : length (one ++ joined more) ≡ length one + length (joined more) = length-append one (joined more) in
      let first = each d goods.0 found.0 (omega arith) in
      let rest = members_back (front ++ one) fs goods.1 found.1 (omega arith) in
      let here : member_docs inner (front ++ (one ++ joined more)) (field_names fs) (children_from (length front + length one) more) ≡ Some fs =
      rw (further front one more, ← length-append front one) rest.1 in
      ((first.0, rest.0), rw (part_bytes front one more, first.1, here))

-- ---- any value

module _ (names : Dictionary) (few : length names ≤ 2 ^ 32) where
  by_kind : (levels : ℕ) → ((d : Doc) → well_formed levels d ≡ true → names_there names d ≡ true → length (value_bytes names d) < 2 ^ 32
      → Filled (value_bytes names d) × (meaning_of levels names (value_bytes names d) ≡ Some d))
      → (d : Doc) → well_formed_by (well_formed levels) d ≡ true → names_there names d ≡ true → length (value_bytes names d) < 2 ^ 32
      → Filled (value_bytes names d) × (meaning_of (suc levels) names (value_bytes names d) ≡ Some d)
  unfolding well_formed_by names_there value_bytes and_then
  by_kind levels each null good there small = let is = null_written names in (is.0, is.1 levels)
  by_kind levels each (scalar a) good there small = let is = scalar_written names a good small in (is.0, is.1 levels)
  by_kind levels each (array ds) good there small =
      let parts : List (List ℕ) = element_bytes names ds in
      let fit : length (joined parts) ≤ length (array_bytes parts) = array_fit parts in
      let inside = elements_back names (meaning_of levels names) (well_formed levels) each [] ds good there (omega arith) in
      (array_filled parts small, array_meaning parts small inside.0 levels names ∙ rw inside.1)
  by_kind levels each (object fs) good there small =
      let parts : List (List ℕ) = member_bytes names fs in
      let ids : List ℕ = map (id_of names) (field_names fs) in
      let same : length ids ≡ length parts = ids_length names fs in
      let goods = and_both (rising (field_names fs)) (all_members (well_formed levels) fs) good in
      let back : names_at names ids ≡ field_names fs = ids_back names fs there in
      let fit : length (joined parts) ≤ length (object_bytes ids parts) = object_fit ids parts same in
      let inside = members_back names (meaning_of levels names) (well_formed levels) each [] fs goods.1 there (omega arith) in (
        object_filled ids parts same small,
        object_meaning ids parts same small inside.0 names few (ids_below_lem names fs there) (rw back goods.0) levels ∙ rw (back, inside.1),
      )

  value_written : (levels : ℕ) (d : Doc) → well_formed levels d ≡ true → names_there names d ≡ true → length (value_bytes names d) < 2 ^ 32
      → Filled (value_bytes names d) × (meaning_of levels names (value_bytes names d) ≡ Some d)
  unfolding well_formed
  value_written zero d good there small = never (sym good)
  value_written (suc levels) d good there small = by_kind levels (value_written levels) d good there small

  module _ (levels : ℕ) (d : Doc) (good : well_formed levels d ≡ true) (there : names_there names d ≡ true)
      (small : length (value_bytes names d) < 2 ^ 32) where
    -- It says how long it is, whatever stands behind it.
    pub value_extent : (rest : List ℕ) → extent (value_bytes names d ++ rest) ≡ Some (length (value_bytes names d))
    value_extent rest = extent_more (value_bytes names d) rest (value_written levels d good there small).0

    -- It means the document.
    pub value_back : meaning_of levels names (value_bytes names d) ≡ Some d
    value_back = (value_written levels d good there small).1
