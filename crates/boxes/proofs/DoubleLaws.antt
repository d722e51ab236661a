-- Bytes mean a double exactly when their first byte is 28, type 7 over kind 0: they are nine, and the double's bits are the
-- eight behind the first.
use Rattle.std.specs.Prelude.{Option, None, Some}
use mathlib.Core.Bool.{Bool, true, false, cond, not, ◌&&◌, ◌||◌}
use mathlib.Core.List.{List}
use mathlib.Core.Path.{◌≡◌, refl, sym, ◌∙◌}
use Prim.Native.Nat.{ℕ, zero, suc, ◌+◌, ◌/◌, ◌%◌, ◌≤◌}
use native.Mathlib.Omega.{arith}
use borrow.Author.Tests.{ne_eqb}
use lib.Dec.{leb, eqb}
use lib.Ieee.Bits.{nan_bits_is}
use lib.Ieee.{Float, binary64, of_bits, nan_bits}
use lib.ListN.{length, get_or, take, drop, length-drop}
use lib.Seq.{take_all}
use Rattle.boxes.specs.Sides.{side_by}
use Rattle.numbers.specs.Little.{number_at}
use Rattle.paper.proofs.MeaningLaws.{prefixed_doc, string_is, prefixed_is}
use Rattle.paper.specs.Boxes.{double_in, double_of, box_of}
use Rattle.paper.specs.FirstBytes.{reading_of, kind_reading, primitive_reading, payload_sizes, length_prefixed}
use Rattle.paper.specs.Meaning.{boolean, payload, Doc, null, scalar, array, object}
use Rattle.paper.specs.Metadata.{Dictionary}
use Rattle.paper.specs.Values.{extent_by, members_of, member_docs, elements_of, element_docs, area_of, ids_of, names_at, primitive_meaning, meaning_by, meaning_of, whole}
use Rattle.paper.specs.Words.{at, given, is_there}
use Rattle.paper.specs.declared.Reading.TheVariants.{Fixed, Prefixed, Short, ObjectHead, ArrayHead, Nothing as NoReading}
use Rattle.paper.specs.declared.Reading.{Reading}
use Rattle.heads.proofs.HeadLaws.{extent_some}
use Rattle.heads.proofs.ReadingLaws.{prefixed_sizes}
use Rattle.paper.proofs.WordLaws.{never, given_some, then_some, some_there}
use Rattle.values.proofs.PrimitiveLaws.{whole_extent}
use Rattle.std.proofs.lemmas.Option.{same_Some}

-- ---- what has a meaning is whole, and goes by the reading of its first byte

pub record Meant (names : Dictionary) (s : List ℕ) (d : Doc) : Type 0 where
  pub below : ℕ
  pub fills : whole s ≡ true
  pub by : meaning_by (meaning_of below names) names (reading_of (at s 0)) s ≡ Some d

pub meant : (levels : ℕ) (names : Dictionary) (s : List ℕ) {d : Doc} → meaning_of levels names s ≡ Some d → Meant names s d
unfolding meaning_of is_there
meant zero names s e = never (sym (some_there None e))
meant (suc levels) names s e =
    let told = given_some (whole s) (meaning_by (meaning_of levels names) names (reading_of (at s 0)) s) e in
    record { below = levels; fills = told.0; by = told.1 }

-- ---- only 28 reads as a primitive of type 7

fixed_kind : (kind rest : ℕ) {code size : ℕ} → kind_reading kind rest ≡ Fixed code size → (kind ≡ 0) × (code ≡ rest)
unfolding kind_reading primitive_reading
fixed_kind zero rest {code} {size} e = go (leb rest 20) (eqb (get_or payload_sizes rest 0) length_prefixed) e
  where
    go : (known marked : Bool) → cond known (cond marked (Prefixed rest) (Fixed rest (get_or payload_sizes rest 0))) NoReading ≡ Fixed code size
        → (◌≡◌ {A = ℕ} 0 0) × (code ≡ rest)
    go true true e = cc
    go true false e = (refl, cc)
    go false marked e = cc
fixed_kind (suc zero) rest e = cc
fixed_kind (suc (suc zero)) rest {code} {size} e = go (eqb (rest / 32) 0) _ _ _ e
  where
    go : (unused : Bool) (c i w : ℕ) → cond unused (ObjectHead c i w) NoReading ≡ Fixed code size → (◌≡◌ {A = ℕ} 2 0) × (code ≡ rest)
    go true c i w e = cc
    go false c i w e = cc
fixed_kind (suc (suc (suc more))) rest {code} {size} e = go (eqb (rest / 8) 0) _ _ e
  where
    go : (unused : Bool) (c w : ℕ) → cond unused (ArrayHead c w) NoReading ≡ Fixed code size → (suc (suc (suc more)) ≡ 0) × (code ≡ rest)
    go true c w e = cc
    go false c w e = cc

pub double_first : (b : ℕ) {code size : ℕ} → reading_of b ≡ Fixed code size → code ≡ 7 → b ≡ 28
unfolding reading_of
double_first b e is = let told = fixed_kind (b % 4) (b / 4) e in omega arith

-- ---- another first byte: no double; and another reading than an object's: no box

record NoDouble (first : ℕ) (r : Reading) (d : Doc) : Type 0 where
  double : (first ≡ 28 → ⊥) → double_of d ≡ None
  box : ((c i w : ℕ) → r ≡ ObjectHead c i w → ⊥) → box_of d ≡ None

primitive_none : (code : ℕ) (p : List ℕ) {d : Doc} → primitive_meaning code p ≡ Some d → ((code ≡ 7 → ⊥) → double_of d ≡ None) × (box_of d ≡ None)
unfolding primitive_meaning double_of double_in box_of given
primitive_none zero p {d} e = rw (← same_Some null d e) (λ h. refl, refl)
primitive_none (suc zero) p {d} e = rw (← same_Some (scalar (boolean true)) d e) (λ h. refl, refl)
primitive_none (suc (suc zero)) p {d} e = rw (← same_Some (scalar (boolean false)) d e) (λ h. refl, refl)
primitive_none (suc (suc (suc more))) p {d} e =
    let type = suc (suc (suc more)) in
    let told = given_some (not (leb 8 type && leb type 10) || leb (at p 0) 38) (Some (scalar (payload type p))) e in
    rw (← same_Some (scalar (payload type p)) d told.1) (λ h. rw (ne_eqb type 7 h), refl)

prefixed_none : (string : Bool) (code : ℕ) (p : List ℕ) {d : Doc} → (code ≡ 7 → ⊥) → d ≡ prefixed_doc string code p → (double_of d ≡ None) × (box_of d ≡ None)
unfolding double_of double_in box_of given
prefixed_none true code p h e = rw e (refl, refl)
prefixed_none false code p h e = rw (e, ne_eqb code 7 h) (refl, refl)

none_by : (s : List ℕ) (names : Dictionary) (inner : List ℕ → Option Doc) {d : Doc} (r : Reading) → reading_of (at s 0) ≡ r
    → meaning_by inner names r s ≡ Some d → NoDouble (at s 0) r d
unfolding meaning_by double_of double_in box_of is_there
none_by s names inner (Fixed code size) e f =
    let told = primitive_none code (drop 1 s) f in
    record { double = λ other. told.0 (λ is. other (double_first (at s 0) e is)); box = λ h. told.1 }
none_by s names inner {d} (Prefixed code) e f =
    let sizes = prefixed_sizes (at s 0) e in
    let told = prefixed_none (eqb code 16) code (drop 5 s) (λ is. omega arith) (prefixed_is (eqb code 16) code (drop 5 s) f) in
    record { double = λ other. told.0; box = λ h. told.1 }
none_by s names inner {d} (Short size) e f =
    let is = string_is (drop 1 s) f in
    record { double = λ other. rw is; box = λ h. rw is }
none_by s names inner {d} (ObjectHead c i w) e f =
    let members = then_some (members_of names c i w s) _ f in
    let docs = then_some (member_docs inner (area_of c i w s) (names_at names (ids_of c i s)) members.0) _ members.2 in
    record { double = λ other. rw (← same_Some (object docs.0) d docs.2); box = λ h. absurd (h c i w refl) }
none_by s names inner {d} (ArrayHead c w) e f =
    let elements = then_some (elements_of c w s) _ f in
    let docs = then_some (element_docs inner (area_of c 0 w s) elements.0) _ elements.2 in
    let is = same_Some (array docs.0) d docs.2 in
    record { double = λ other. rw (← is); box = λ h. rw (← is) }
none_by s names inner NoReading e f = never (sym (some_there None f))

no_double : (levels : ℕ) (names : Dictionary) (s : List ℕ) {d : Doc} → meaning_of levels names s ≡ Some d → NoDouble (at s 0) (reading_of (at s 0)) d
no_double levels names s e =
    let m = meant levels names s e in
    none_by s names (meaning_of m.below names) (reading_of (at s 0)) refl m.by

pub other_first : (s : List ℕ) → (at s 0 ≡ 28 → ⊥) → (levels : ℕ) (names : Dictionary) (d : Doc) → meaning_of levels names s ≡ Some d → None ≡ side_by (double_of d)
unfolding side_by
other_first s other levels names d e = rw ((no_double levels names s e).double other)

pub no_object : (s : List ℕ) {r : Reading} → r ≡ reading_of (at s 0) → ((c i w : ℕ) → r ≡ ObjectHead c i w → ⊥)
    → (levels : ℕ) (names : Dictionary) (d : Doc) → meaning_of levels names s ≡ Some d → None ≡ box_of d
no_object s told other levels names d e = rw ((no_double levels names s e).box (λ c i w is. other c i w (told ∙ is)))

-- ---- 28: nine bytes, a double

double_reading : (b : ℕ) → b ≡ 28 → reading_of b ≡ Fixed 7 8
unfolding reading_of kind_reading primitive_reading payload_sizes length_prefixed
double_reading b e = rw e

double_size : (s : List ℕ) → whole s ≡ true → at s 0 ≡ 28 → length s ≡ 9
unfolding extent_by
double_size s fills e =
    let has = extent_some s (whole_extent s fills) in
    let by : Some (1 + 8) ≡ Some (length s) = rw (double_reading (at s 0) e) at has.1 in
    sym (same_Some (1 + 8) (length s) by)

pub double_eight : (s : List ℕ) → whole s ≡ true → at s 0 ≡ 28 → 1 + 8 ≤ length s
double_eight s fills e = omega (arith, double_size s fills e)

module _ (s : List ℕ) (e : at s 0 ≡ 28) {bits : ℕ} (is : bits ≡ number_at s 1 8) where
  double_is : (levels : ℕ) (names : Dictionary) (d : Doc) → meaning_of levels names s ≡ Some d → double_of d ≡ Some (of_bits binary64 bits)
  unfolding meaning_by primitive_meaning double_of double_in given number_at
  double_is levels names d f =
      let m = meant levels names s f in
      let long = double_size s m.fills e in
      let by : meaning_by (meaning_of m.below names) names (Fixed 7 8) s ≡ Some d = rw (double_reading (at s 0) e) at m.by in
      let all : take 8 (drop 1 s) ≡ drop 1 s = take_all 8 (drop 1 s) (rw length-drop (omega arith)) in
      rw (← same_Some (scalar (payload 7 (drop 1 s))) d by, is, all)

  pub double_read : (r : Option Float) → r ≡ cond (nan_bits binary64 bits) None (Some (of_bits binary64 bits))
      → (levels : ℕ) (names : Dictionary) (d : Doc) → meaning_of levels names s ≡ Some d → r ≡ side_by (double_of d)
  unfolding side_by
  double_read r told levels names d f = rw (double_is levels names d f, ← nan_bits_is binary64 bits) told
