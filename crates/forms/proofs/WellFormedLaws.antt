-- What bytes mean passes each test of documents that is closed: that passes null, good scalars, arrays whose elements pass
-- it one level further in, and objects with names of the dictionary that rise and members that pass it. So it is well
-- formed, and the dictionary has its names.
use Rattle.std.specs.Prelude.{Option, None, Some}
use mathlib.Core.Bool.{Bool, true, false, not, ◌&&◌, ◌||◌}
use mathlib.Core.List.{List, [], ◌∷◌}
use mathlib.Core.Path.{◌≡◌, refl, sym, ap, ◌∙◌}
use Prim.Native.Nat.{ℕ, zero, suc, ◌+◌, ◌≤◌}
use native.Mathlib.Omega.{arith}
use borrow.Author.Tests.{le-leb, lt-leb, eqb-false, eq-eqb, ne_eqb, ltb-true}
use lib.Dec.{leb, ltb, eqb}
use lib.ListN.{length, get_or, drop, length-drop}
use Rattle.forms.specs.WellFormed.{scalar_good, all_docs, all_members, well_formed_by, well_formed, names_there, all_names_there, field_names_there}
use Rattle.paper.proofs.MeaningLaws.{prefixed_doc, string_is, prefixed_is}
use Rattle.paper.specs.FirstBytes.{length_prefixed, payload_sizes, reading_of}
use Rattle.paper.specs.Meaning.{Scalar, boolean, payload, text, Doc, null, scalar, array, object, Docs, no_docs, doc, Fields, no_fields, field}
use Rattle.paper.specs.Metadata.{Dictionary, rising}
use Rattle.paper.specs.Normal.{field_names}
use Rattle.paper.specs.Values.{child_bytes, extent_by, area_of, ids_of, names_at, members_of, elements_of, primitive_meaning, element_docs, member_docs, meaning_by, meaning_of, whole}
use Rattle.paper.specs.declared.Child.{Child}
use Rattle.paper.specs.Words.{at, is_there, all_below, among}
use Rattle.paper.specs.declared.Reading.TheVariants.{Fixed, Prefixed, Short, ObjectHead, ArrayHead, Nothing}
use Rattle.paper.specs.declared.Reading.{Reading}
use Rattle.heads.proofs.HeadLaws.{extent_some}
use Rattle.heads.proofs.ReadingLaws.{fixed_sizes, prefixed_sizes}
use Rattle.names.proofs.SameLaws.{or_second, among_at}
use Rattle.paper.proofs.WordLaws.{never, given_some, then_some, and_both, some_there}
use Rattle.values.proofs.PrimitiveLaws.{whole_extent}
use Rattle.std.proofs.lemmas.Option.{same_Some}

-- ---- scalars

payload_good : (type : ℕ) (s : List ℕ) → 3 ≤ type → type ≤ 20 → (type ≡ 16 → ⊥) → eqb type 15 || eqb (length s) (get_or payload_sizes type 0) ≡ true
    → not (leb 8 type && leb type 10) || leb (at s 0) 38 ≡ true → scalar_good (payload type s) ≡ true
unfolding scalar_good
payload_good type s least most other size scale = simp (le-leb 3 type least, le-leb type 20 most, ne_eqb type 16 other, size, scale)

-- Binary and a string have no fixed size.
pub never_marked : (type size : ℕ) → size ≤ 17 → size ≡ get_or payload_sizes type 0 → (type ≡ 15 → ⊥) × (type ≡ 16 → ⊥)
unfolding payload_sizes length_prefixed
never_marked type size most same = (λ e. go 15 e refl, λ e. go 16 e refl)
  where
    go : (code : ℕ) → type ≡ code → get_or payload_sizes code 0 ≡ 255 → ⊥
    go code e marked = let is : size ≡ 255 = same ∙ ap (λ (t : ℕ). get_or payload_sizes t 0) e ∙ marked in omega arith

pub fixed_length : (s : List ℕ) (type size : ℕ) → whole s ≡ true → reading_of (at s 0) ≡ Fixed type size → length (drop 1 s) ≡ size
unfolding extent_by
fixed_length s type size fills is =
    let by : Some (1 + size) ≡ Some (length s) = rw is at (extent_some s (whole_extent s fills)).1 in
    let all : 1 + size ≡ length s = same_Some (1 + size) (length s) by in
    rw length-drop (omega arith)

-- ---- a closed test

pub record Closed (names : Dictionary) (inner outer : Doc → Bool) : Type 0 where
  pub nothing : outer null ≡ true
  pub scalars : (a : Scalar) → scalar_good a ≡ true → outer (scalar a) ≡ true
  pub arrays : (ds : Docs) → all_docs inner ds ≡ true → outer (array ds) ≡ true
  pub objects : (ids : List ℕ) (fs : Fields) → field_names fs ≡ names_at names ids → all_below (length names) ids ≡ true → rising (field_names fs) ≡ true
      → all_members inner fs ≡ true → outer (object fs) ≡ true

module _ {names : Dictionary} {inner outer : Doc → Bool} (closed : Closed names inner outer) where
  primitive_passes : (type : ℕ) (s : List ℕ) (d : Doc) → type ≤ 20 → (type ≡ 16 → ⊥) → length s ≡ get_or payload_sizes type 0
      → primitive_meaning type s ≡ Some d → outer d ≡ true
  unfolding primitive_meaning scalar_good
  primitive_passes zero s d most other size e = rw (← same_Some null d e) closed.nothing
  primitive_passes (suc zero) s d most other size e = rw (← same_Some (scalar (boolean true)) d e) (closed.scalars (boolean true) refl)
  primitive_passes (suc (suc zero)) s d most other size e = rw (← same_Some (scalar (boolean false)) d e) (closed.scalars (boolean false) refl)
  primitive_passes (suc (suc (suc more))) s d most other size e =
      let type : ℕ = suc (suc (suc more)) in
      let told = given_some (not (leb 8 type && leb type 10) || leb (at s 0) 38) (Some (scalar (payload type s))) e in
      let sized : eqb type 15 || eqb (length s) (get_or payload_sizes type 0) ≡ true =
      or_second (eqb type 15) (eqb (length s) (get_or payload_sizes type 0)) (eq-eqb (length s) (get_or payload_sizes type 0) size) in
      rw (← same_Some (scalar (payload type s)) d told.1)
      (closed.scalars (payload type s) (payload_good type s (omega arith) most other sized told.0))

  prefixed_passes : (type : ℕ) (s : List ℕ) (b : Bool) → eqb type 16 ≡ b → 15 ≤ type → type ≤ 16 → outer (prefixed_doc b type s) ≡ true
  prefixed_passes type s true e least most = closed.scalars (text s) (unfold scalar_good in refl)
  prefixed_passes type s false e least most =
      let not-string : type ≡ 16 → ⊥ = eqb-false type 16 e in
      let binary : type ≡ 15 = omega arith in
      let sized : eqb type 15 || eqb (length s) (get_or payload_sizes type 0) ≡ true = rw (eq-eqb type 15 binary) in
      let scale : not (leb 8 type && leb type 10) || leb (at s 0) 38 ≡ true = rw (le-leb 8 type (omega arith), lt-leb type 10 (omega arith)) in
      closed.scalars (payload type s) (payload_good type s (omega arith) (omega arith) not-string sized scale)

-- ---- the insides of containers

module _ (decode : List ℕ → Option Doc) (inner : Doc → Bool)
    (each : (s : List ℕ) (d : Doc) → decode s ≡ Some d → inner d ≡ true) (area : List ℕ) where
  elements_pass : (children : List Child) (ds : Docs) → element_docs decode area children ≡ Some ds → all_docs inner ds ≡ true
  unfolding element_docs all_docs
  elements_pass [] ds e = rw (← same_Some no_docs ds e)
  elements_pass (child ∷ more) ds e =
      let first = then_some (decode (child_bytes area child)) _ e in
      let rest = then_some (element_docs decode area more) _ first.2 in
      rw (← same_Some (doc first.0 rest.0) ds rest.2)
      (simp (each (child_bytes area child) first.0 first.1, elements_pass more rest.0 rest.1))

  members_pass : (names : List (List ℕ)) (children : List Child) (fs : Fields) → member_docs decode area names children ≡ Some fs
      → (field_names fs ≡ names) × (all_members inner fs ≡ true)
  unfolding member_docs all_members field_names is_there
  members_pass [] children fs e = rw (← same_Some no_fields fs e) (refl, refl)
  members_pass (name ∷ names) [] fs e = never (sym (some_there None e))
  members_pass (name ∷ names) (child ∷ more) fs e =
      let first = then_some (decode (child_bytes area child)) _ e in
      let rest = then_some (member_docs decode area names more) _ first.2 in
      let both = members_pass names more rest.0 rest.1 in
      rw (← same_Some (field name first.0 rest.0) fs rest.2)
      (ap (λ (l : List (List ℕ)). name ∷ l) both.0, simp (each (child_bytes area child) first.0 first.1, both.1))

members_named : (names : Dictionary) (s : List ℕ) (c i w : ℕ) (children : List Child) → members_of names c i w s ≡ Some children
    → (all_below (length names) (ids_of c i s) ≡ true) × (rising (names_at names (ids_of c i s)) ≡ true)
unfolding members_of
members_named names s c i w children e = and_both (all_below (length names) (ids_of c i s)) (rising (names_at names (ids_of c i s))) (given_some _ _ e).0

-- ---- any value, by its reading

module _ (decode : List ℕ → Option Doc) (names : Dictionary) (inner outer : Doc → Bool) (closed : Closed names inner outer)
    (each : (s : List ℕ) (d : Doc) → decode s ≡ Some d → inner d ≡ true) (s : List ℕ) (d : Doc) (fills : whole s ≡ true) where
  meant_passes : (r : Reading) → reading_of (at s 0) ≡ r → meaning_by decode names r s ≡ Some d → outer d ≡ true
  unfolding meaning_by is_there
  meant_passes (Fixed type size) is e =
      let sizes = fixed_sizes (at s 0) is in
      primitive_passes closed type (drop 1 s) d sizes.0 (never_marked type size sizes.1 sizes.2).1
      (fixed_length s type size fills is ∙ sizes.2) e
  meant_passes (Prefixed type) is e =
      let sizes = prefixed_sizes (at s 0) is in
      rw (prefixed_is (eqb type 16) type (drop 5 s) e)
      (prefixed_passes closed type (drop 5 s) (eqb type 16) refl sizes.0 sizes.1)
  meant_passes (Short size) is e =
      rw (string_is (drop 1 s) e) (closed.scalars (text (drop 1 s)) (unfold scalar_good in refl))
  meant_passes (ObjectHead c i w) is e =
      let lie = then_some (members_of names c i w s) _ e in
      let inside = then_some (member_docs decode (area_of c i w s) (names_at names (ids_of c i s)) lie.0) _ lie.2 in
      let both = members_pass decode inner each (area_of c i w s) (names_at names (ids_of c i s)) lie.0 inside.0 inside.1 in
      let named = members_named names s c i w lie.0 lie.1 in
      rw (← same_Some (object inside.0) d inside.2)
      (closed.objects (ids_of c i s) inside.0 both.0 named.0 (rw both.0 named.1) both.1)
  meant_passes (ArrayHead c w) is e =
      let lie = then_some (elements_of c w s) _ e in
      let inside = then_some (element_docs decode (area_of c 0 w s) lie.0) _ lie.2 in
      rw (← same_Some (array inside.0) d inside.2)
      (closed.arrays inside.0 (elements_pass decode inner each (area_of c 0 w s) lie.0 inside.0 inside.1))
  meant_passes Nothing is e = never (sym (some_there None e))

pub decoded_passes : (names : Dictionary) (test : ℕ → Doc → Bool) → ((levels : ℕ) → Closed names (test levels) (test (suc levels)))
    → (levels : ℕ) (s : List ℕ) (d : Doc) → meaning_of levels names s ≡ Some d → test levels d ≡ true
unfolding meaning_of is_there
decoded_passes names test closed zero s d e = never (sym (some_there None e))
decoded_passes names test closed (suc levels) s d e =
    let told = given_some (whole s) _ e in
    meant_passes (meaning_of levels names) names (test levels) (test (suc levels)) (closed levels)
    (decoded_passes names test closed levels) s d told.0 (reading_of (at s 0)) refl told.1

-- ---- it is well formed

object_passes : (inner : Doc → Bool) (fs : Fields) → rising (field_names fs) ≡ true → all_members inner fs ≡ true
    → well_formed_by inner (object fs) ≡ true
unfolding well_formed_by
object_passes inner fs rise all = simp (rise, all)

well_formed-closed : (names : Dictionary) (levels : ℕ) → Closed names (well_formed levels) (well_formed (suc levels))
unfolding well_formed well_formed_by
well_formed-closed names levels =
    record {
      nothing = refl;
      scalars = λ a good. good;
      arrays = λ ds all. all;
      objects = λ ids fs are below rise all. object_passes (well_formed levels) fs rise all;
    }

pub decoded-well_formed : (levels : ℕ) (names : Dictionary) (s : List ℕ) (d : Doc) → meaning_of levels names s ≡ Some d → well_formed levels d ≡ true
decoded-well_formed levels names s d e = decoded_passes names well_formed (well_formed-closed names) levels s d e

-- ---- the dictionary has its names

module _ (names : Dictionary) where
  all_there : (ds : Docs) → all_docs (names_there names) ds ≡ true → all_names_there names ds ≡ true
  unfolding all_docs all_names_there
  all_there no_docs all = refl
  all_there (doc d ds) all =
      let both = and_both (names_there names d) (all_docs (names_there names) ds) all in
      simp (both.0, all_there ds both.1)

  fields_there : (ids : List ℕ) (fs : Fields) → field_names fs ≡ names_at names ids → all_below (length names) ids ≡ true
      → all_members (names_there names) fs ≡ true
      → field_names_there names fs ≡ true
  unfolding field_names names_at all_below all_members field_names_there
  fields_there ids no_fields are below all = refl
  fields_there [] (field name d fs) are below all = let none_left = ap length are in absurd (omega arith)
  fields_there (id ∷ ids) (field name d fs) are below all =
      let both = and_both (names_there names d) (all_members (names_there names) fs) all in
      let first = and_both (ltb id (length names)) (all_below (length names) ids) below in
      let is : name ≡ get_or names id [] = ap (λ (l : List (List ℕ)). get_or l 0 []) are in
      let rest : field_names fs ≡ names_at names ids = ap (drop 1) are in
      let own : among name names ≡ true = rw is (among_at names id (ltb-true id (length names) first.0)) in
      simp (own, both.0, fields_there ids fs rest first.1 both.1)

pub decoded-names_there : (levels : ℕ) (names : Dictionary) (s : List ℕ) (d : Doc) → meaning_of levels names s ≡ Some d → names_there names d ≡ true
unfolding names_there
decoded-names_there levels names s d e =
    decoded_passes names (λ (l : ℕ). names_there names)
    (λ l. record {
      nothing = refl;
      scalars = λ a good. refl;
      arrays = all_there names;
      objects = λ ids fs are below rise all. fields_there names ids fs are below all;
    })
    levels s d e
