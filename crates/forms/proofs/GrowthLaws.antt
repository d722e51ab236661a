-- How long what is written is, against what was read: never more than twice as long. So is the normal value of a lent
-- document, against the value that was lent.
use Rattle.std.specs.Prelude.{Option, None, Some}
use mathlib.Core.Bool.{Bool, true, false, cond}
use mathlib.Core.List.{List, ◌∷◌, map}
use mathlib.Core.Path.{◌≡◌, refl, sym, ap, ◌∙◌}
use Prim.Native.Nat.{ℕ, zero, suc, ◌+◌, ◌*◌, ◌/◌, ◌≤◌, ◌<◌}
use native.Mathlib.Omega.{arith}
use borrow.Author.Tests.{leb-true, le-leb, ne_eqb}
use lib.Dec.{leb, eqb}
use lib.ListN.{length, drop, length-drop}
use Rattle.forms.specs.WellFormed.{names_there}
use Rattle.numbers.specs.Little.{smallest_width}
use Rattle.paper.proofs.MeaningLaws.{prefixed_doc, string_is, prefixed_is}
use Rattle.paper.specs.FirstBytes.{reading_of}
use Rattle.paper.specs.Bounds.{most_names}
use Rattle.paper.specs.Meaning.{boolean, payload, text, Doc, null, scalar, array, object, Docs, Fields}
use Rattle.paper.specs.Metadata.{Dictionary}
use Rattle.paper.specs.Normal.{names_used, normal_form, largest, prefixed_bytes, text_bytes, scalar_bytes, id_of, field_names, value_bytes, element_bytes, member_bytes}
use Rattle.paper.specs.Values.{extent_by, area_of, ids_of, names_at, elements_of, members_of, primitive_meaning, element_docs, member_docs, meaning_by, meaning_of, whole}
use Rattle.paper.specs.declared.Child.{Child}
use Rattle.paper.specs.Words.{at, is_there}
use Rattle.paper.specs.declared.Reading.TheVariants.{Fixed, Prefixed, Short, ObjectHead, ArrayHead, Nothing}
use Rattle.paper.specs.declared.Reading.{Reading}
use Rattle.containers.specs.Children.{sizes}
use Rattle.forms.proofs.BackLaws.{ids_length, ids_below_lem}
use Rattle.forms.proofs.ContainerLaws.{array_length, object_length, largest_below}
use Rattle.forms.proofs.LieLaws.{Bytes, elements_lie, members_lie, lie_sized}
use Rattle.forms.proofs.ScalarLaws.{prefixed_length}
use Rattle.forms.proofs.WellFormedLaws.{never_marked, decoded-names_there}
use Rattle.forms.proofs.NamesLaws.{there_used, normal-names_there}
use Rattle.heads.proofs.HeadLaws.{extent_some, array_spans, object_spans}
use Rattle.heads.proofs.ReadingLaws.{fixed_sizes, short_sizes, array_sizes, object_sizes}
use Rattle.names.proofs.ContainedLaws.{contained_count}
use Rattle.names.proofs.UsedLaws.{names_rise, among_used}
use Rattle.numbers.proofs.WidthLaws.{smallest_least}
use Rattle.paper.proofs.WordLaws.{never, given_some, then_some, some_there}
use Rattle.values.proofs.PrimitiveLaws.{whole_extent}
use Rattle.forms.proofs.WiderLaws.{most_read, Grows, elements_grow, members_grow, area_bytes, area_short, container_grows}
use Rattle.std.proofs.lemmas.Option.{same_Some}

-- ---- scalars

text_short : (s : List ℕ) → length s ≤ 63 → length (text_bytes s) ≡ 1 + length s
unfolding text_bytes
text_short s h = rw (le-leb (length s) 63 h) (omega arith)

text_grows : (s : List ℕ) → length (text_bytes s) ≤ 5 + length s
unfolding text_bytes
text_grows s = go (leb (length s) 63)
  where
    go : (b : Bool) → length (cond b ((4 * length s + 1) ∷ s) (prefixed_bytes 16 s)) ≤ 5 + length s
    go true = omega arith
    go false = let size = prefixed_length 16 s in omega arith

module _ (used : Dictionary) where
  primitive_grows : (type : ℕ) (s : List ℕ) (d : Doc) → (type ≡ 15 → ⊥) → primitive_meaning type s ≡ Some d → length (value_bytes used d) ≤ 1 + length s
  unfolding primitive_meaning value_bytes scalar_bytes
  primitive_grows zero s d other e = rw (← same_Some null d e) (omega arith)
  primitive_grows (suc zero) s d other e = rw (← same_Some (scalar (boolean true)) d e) (omega arith)
  primitive_grows (suc (suc zero)) s d other e = rw (← same_Some (scalar (boolean false)) d e) (omega arith)
  primitive_grows (suc (suc (suc more))) s d other e =
      let type : ℕ = suc (suc (suc more)) in
      rw (← same_Some (scalar (payload type s)) d (given_some _ (Some (scalar (payload type s))) e).1, ne_eqb type 15 other) (omega arith)

  prefixed_grows : (type : ℕ) (s : List ℕ) (b : Bool) → length (value_bytes used (prefixed_doc b type s)) ≤ 5 + length s
  unfolding value_bytes scalar_bytes
  prefixed_grows type s true = text_grows s
  prefixed_grows type s false = go (eqb type 15)
    where
      go : (b : Bool) → length (cond b (prefixed_bytes type s) ((4 * type) ∷ s)) ≤ 5 + length s
      go true = let size = prefixed_length type s in omega arith
      go false = omega arith

-- ---- any value

module _ (names used : Dictionary) (few : length used ≤ most_names) (decode : List ℕ → Option Doc)
    (each : Grows used decode)
    (s : List ℕ) (d : Doc) (bytes : Bytes s) (short : length s ≤ most_read) (fills : whole s ≡ true) (there : names_there used d ≡ true) where
  abbrev Grown : Type 0
  Grown = length (value_bytes used d) ≤ 2 * length s

  behind_first : 1 + length (drop 1 s) ≡ length s
  behind_first = let some_bytes = (extent_some s (whole_extent s fills)).0 in rw length-drop (omega arith)

  fixed_grows : (type size : ℕ) → reading_of (at s 0) ≡ Fixed type size → primitive_meaning type (drop 1 s) ≡ Some d → Grown
  fixed_grows type size is e =
      let sizes = fixed_sizes (at s 0) is in
      let grown = primitive_grows used type (drop 1 s) d (never_marked type size sizes.1 sizes.2).0 e in
      let all = behind_first in
      omega arith

  length_there : (type : ℕ) → reading_of (at s 0) ≡ Prefixed type → 5 ≤ length s
  unfolding extent_by
  length_there type is = leb-true 5 (length s) (given_some (leb 5 (length s)) _ (rw is at (extent_some s (whole_extent s fills)).1)).0

  short_size : (size : ℕ) → reading_of (at s 0) ≡ Short size → length (drop 1 s) ≤ 63
  unfolding extent_by
  short_size size is =
      let by : Some (1 + size) ≡ Some (length s) = rw is at (extent_some s (whole_extent s fills)).1 in
      let all : 1 + size ≡ length s = same_Some (1 + size) (length s) by in
      let code : size ≡ at s 0 / 4 = short_sizes (at s 0) is in
      let byte : at s 0 < 256 = bytes 0 in
      rw length-drop (omega arith)

  short_grows : (size : ℕ) → reading_of (at s 0) ≡ Short size → length (value_bytes used (scalar (text (drop 1 s)))) ≤ 2 * length s
  unfolding value_bytes scalar_bytes
  short_grows size is =
      let same = text_short (drop 1 s) (short_size size is) in
      let all = behind_first in
      omega arith

  array_grows : (c w : ℕ) → reading_of (at s 0) ≡ ArrayHead c w → (children : List Child) → elements_of c w s ≡ Some children → (ds : Docs)
      → element_docs decode (area_of c 0 w s) children ≡ Some ds → names_there used (array ds) ≡ true
      → length (value_bytes used (array ds)) ≤ 2 * length s
  unfolding value_bytes names_there
  array_grows c w is children e ds f All-there =
      let bounds = array_sizes (at s 0) is in
      let spans = array_spans s is (whole_extent s fills) in
      let lie = elements_lie s c w children e in
      let area_small = area_short s bytes short c 0 w spans bounds.0.0 bounds.1.0 in
      let area-whole = area_bytes s bytes short c 0 w spans bounds.0.0 bounds.1.0 in
      let grown = elements_grow used decode each (area_of c 0 w s) area-whole area_small children ds (lie_sized lie) f All-there in
      rw (array_length (element_bytes used ds))
      (container_grows s bytes short c 0 w spans bounds.0.0 bounds.1.0 children lie (element_bytes used ds) 0 grown (omega arith))

  object_grows : (c i w : ℕ) → reading_of (at s 0) ≡ ObjectHead c i w → (children : List Child) → members_of names c i w s ≡ Some children
      → (fs : Fields) → member_docs decode (area_of c i w s) (names_at names (ids_of c i s)) children ≡ Some fs → names_there used (object fs) ≡ true
      → length (value_bytes used (object fs)) ≤ 2 * length s
  unfolding value_bytes names_there
  object_grows c i w is children e fs f All-there =
      let bounds = object_sizes (at s 0) is in
      let spans = object_spans s is (whole_extent s fills) in
      let lie = members_lie names s c i w children e in
      let area_small = area_short s bytes short c i w spans bounds.0.0 bounds.2.0 in
      let area-whole = area_bytes s bytes short c i w spans bounds.0.0 bounds.2.0 in
      let grown =
      members_grow used decode each (area_of c i w s) area-whole area_small (names_at names (ids_of c i s)) children fs (lie_sized lie) f All-there in
      let ids : List ℕ = map (id_of used) (field_names fs) in
      let largest-small : largest ids < most_names = largest_below (length used) most_names ids (ids_below_lem used fs All-there) few (omega arith) in
      let narrow : smallest_width (largest ids) ≤ 2 = smallest_least (largest ids) 2 (omega arith) (omega arith) in
      let least : 1 ≤ i = bounds.1.0 in
      rw (object_length ids (member_bytes used fs) (ids_length used fs))
      (container_grows s bytes short c i w spans bounds.0.0 bounds.2.0 children lie (member_bytes used fs) (smallest_width (largest ids)) grown
      (omega arith))

  grows_by : (r : Reading) → reading_of (at s 0) ≡ r → meaning_by decode names r s ≡ Some d → Grown
  unfolding meaning_by is_there
  grows_by (Fixed type size) is e = fixed_grows type size is e
  grows_by (Prefixed type) is e =
      let long = length_there type is in
      let grown = prefixed_grows used type (drop 5 s) (eqb type 16) in
      let size = length-drop 5 s in
      rw (prefixed_is (eqb type 16) type (drop 5 s) e) (omega arith)
  grows_by (Short size) is e = rw (string_is (drop 1 s) e) (short_grows size is)
  grows_by (ObjectHead c i w) is e =
      let lie = then_some (members_of names c i w s) _ e in
      let inside = then_some (member_docs decode (area_of c i w s) (names_at names (ids_of c i s)) lie.0) _ lie.2 in
      let same : object inside.0 ≡ d = same_Some (object inside.0) d inside.2 in
      let found : names_there used (object inside.0) ≡ true = ap (names_there used) same ∙ there in
      rw (← same) (object_grows c i w is lie.0 lie.1 inside.0 inside.1 found)
  grows_by (ArrayHead c w) is e =
      let lie = then_some (elements_of c w s) _ e in
      let inside = then_some (element_docs decode (area_of c 0 w s) lie.0) _ lie.2 in
      let same : array inside.0 ≡ d = same_Some (array inside.0) d inside.2 in
      let found : names_there used (array inside.0) ≡ true = ap (names_there used) same ∙ there in
      rw (← same) (array_grows c w is lie.0 lie.1 inside.0 inside.1 found)
  grows_by Nothing is e = never (sym (some_there None e))

pub value_grows : (levels : ℕ) (names used : Dictionary) (s : List ℕ) (d : Doc) → meaning_of levels names s ≡ Some d → Bytes s → length s ≤ most_read
    → names_there used d ≡ true → length used ≤ most_names → length (value_bytes used d) ≤ 2 * length s
unfolding meaning_of is_there
value_grows zero names used s d e bytes short there few = never (sym (some_there None e))
value_grows (suc levels) names used s d e bytes short there few =
    let told = given_some (whole s) _ e in
    grows_by names used few (meaning_of levels names) (λ t c b h m n. value_grows levels names used t c m b h n few) s d bytes short told.0 there
    (reading_of (at s 0)) refl told.1

-- ---- the normal form of a lent document

module _ (levels : ℕ) (names : Dictionary) (s : List ℕ) (d : Doc) (is : meaning_of levels names s ≡ Some d) (bytes : Bytes s) where
  pub normal_grows : length s ≤ most_read → length names ≤ most_names → length (normal_form d).value ≤ 2 * length s
  unfolding normal_form
  normal_grows short few =
      let fewer : length (names_used d) ≤ length names =
      contained_count (names_used d) names (names_rise d)
      (λ name in-used. there_used names d (decoded-names_there levels names s d is) name (sym (among_used name d) ∙ in-used)) in
      value_grows levels names (names_used d) s d is bytes short (normal-names_there d) (omega arith)
