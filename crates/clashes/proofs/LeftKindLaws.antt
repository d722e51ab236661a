-- The kind of what lawful bytes mean goes by the low two bits of their first byte: 2 is an object, 3 an array.
use Rattle.std.specs.Prelude.{Option, None, Some}
use mathlib.Core.Bool.{Bool, true, false, cond, not, ◌&&◌, ◌||◌}
use mathlib.Core.List.{List}
use mathlib.Core.Path.{◌≡◌, refl, sym, ◌∙◌}
use Prim.Native.Nat.{ℕ, zero, suc, ◌+◌, ◌/◌, ◌%◌, ◌<◌}
use native.Mathlib.Omega.{arith}
use lib.Dec.{leb, eqb}
use lib.ListN.{get_or, drop}
use Rattle.paper.specs.FirstBytes.{reading_of, kind_reading, primitive_reading, payload_sizes, length_prefixed, count_size}
use Rattle.paper.specs.Meaning.{boolean, payload, Doc, null, scalar, array, object}
use Rattle.paper.specs.Metadata.{Dictionary}
use Rattle.paper.specs.Rules.{is_object, is_array, has_any}
use Rattle.paper.specs.Values.{members_of, member_docs, elements_of, element_docs, area_of, ids_of, names_at, primitive_meaning, meaning_by, meaning_of}
use Rattle.paper.specs.Words.{at, is_there}
use Rattle.paper.specs.declared.Reading.TheVariants.{Fixed, Prefixed, Short, ObjectHead, ArrayHead, Nothing}
use Rattle.paper.specs.declared.Reading.{Reading}
use Rattle.boxes.proofs.DoubleLaws.{meant}
use Rattle.paper.proofs.MeaningLaws.{string_is, prefixed_is}
use Rattle.paper.proofs.WordLaws.{never, given_some, then_some, some_there}
use Rattle.std.proofs.lemmas.Option.{same_Some}

-- ---- by the reading

unfoldable object_head : Reading → Bool
object_head (Fixed code size) = false
object_head (Prefixed code) = false
object_head (Short size) = false
object_head (ObjectHead count id offset) = true
object_head (ArrayHead count offset) = false
object_head Nothing = false

unfoldable array_head : Reading → Bool
array_head (Fixed code size) = false
array_head (Prefixed code) = false
array_head (Short size) = false
array_head (ObjectHead count id offset) = false
array_head (ArrayHead count offset) = true
array_head Nothing = false

-- What is meant is an object, an array or neither.
abbrev Kinds : Doc → (o a : Bool) → Type 0
Kinds d o a = (is_object d ≡ o) × (is_array d ≡ a)

primitive_kind : (type : ℕ) (p : List ℕ) {d : Doc} → primitive_meaning type p ≡ Some d → Kinds d false false
unfolding primitive_meaning is_object is_array
primitive_kind zero p {d} e = rw (← same_Some null d e) (refl, refl)
primitive_kind (suc zero) p {d} e = rw (← same_Some (scalar (boolean true)) d e) (refl, refl)
primitive_kind (suc (suc zero)) p {d} e = rw (← same_Some (scalar (boolean false)) d e) (refl, refl)
primitive_kind (suc (suc (suc more))) p {d} e =
    let type = suc (suc (suc more)) in
    let told = given_some (not (leb 8 type && leb type 10) || leb (at p 0) 38) (Some (scalar (payload type p))) e in
    rw (← same_Some (scalar (payload type p)) d told.1) (refl, refl)

by_reading : (inner : List ℕ → Option Doc) (names : Dictionary) (s : List ℕ) (r : Reading) {d : Doc} → meaning_by inner names r s ≡ Some d
    → Kinds d (object_head r) (array_head r)
unfolding meaning_by is_object is_array object_head array_head is_there
by_reading inner names s (Fixed code size) e = primitive_kind code (drop 1 s) e
by_reading inner names s (Prefixed code) e = rw (prefixed_is (eqb code 16) code (drop 5 s) e) (refl, refl)
by_reading inner names s (Short size) e = rw (string_is (drop 1 s) e) (refl, refl)
by_reading inner names s (ObjectHead c i w) {d} e =
    let members = then_some (members_of names c i w s) _ e in
    let docs = then_some (member_docs inner (area_of c i w s) (names_at names (ids_of c i s)) members.0) _ members.2 in
    rw (← same_Some (object docs.0) d docs.2) (refl, refl)
by_reading inner names s (ArrayHead c w) {d} e =
    let elements = then_some (elements_of c w s) _ e in
    let docs = then_some (element_docs inner (area_of c 0 w s) elements.0) _ elements.2 in
    rw (← same_Some (array docs.0) d docs.2) (refl, refl)
by_reading inner names s Nothing e = never (sym (some_there None e))

-- ---- by the low two bits

module _ (inner : List ℕ → Option Doc) (names : Dictionary) (s : List ℕ) {d : Doc} where
  nothing_meant : {A : Type 0} → meaning_by inner names Nothing s ≡ Some d → A
  unfolding meaning_by is_there
  nothing_meant e = never (sym (some_there None e))

  by_kind : (kind rest : ℕ) → kind < 4 → meaning_by inner names (kind_reading kind rest) s ≡ Some d → Kinds d (eqb kind 2) (eqb kind 3)
  unfolding kind_reading primitive_reading object_head array_head
  by_kind zero rest h = go (leb rest 20) (eqb (get_or payload_sizes rest 0) length_prefixed)
    where
      go : (known marked : Bool)
          → meaning_by inner names (cond known (cond marked (Prefixed rest) (Fixed rest (get_or payload_sizes rest 0))) Nothing) s ≡ Some d → Kinds d false false
      go true true e = by_reading inner names s (Prefixed rest) e
      go true false e = by_reading inner names s (Fixed rest (get_or payload_sizes rest 0)) e
      go false marked e = nothing_meant e
  by_kind (suc zero) rest h = by_reading inner names s (Short rest)
  by_kind (suc (suc zero)) rest h = go (eqb (rest / 32) 0)
    where
      go : (used : Bool) → meaning_by inner names (cond used (ObjectHead (count_size (rest / 16 % 2)) (rest / 4 % 4 + 1) (rest % 4 + 1)) Nothing) s ≡ Some d → Kinds d true false
      go true e = by_reading inner names s (ObjectHead (count_size (rest / 16 % 2)) (rest / 4 % 4 + 1) (rest % 4 + 1)) e
      go false e = nothing_meant e
  by_kind (suc (suc (suc more))) rest h = go (eqb (rest / 8) 0)
    where
      three : ◌≡◌ {A = ℕ} (suc (suc (suc more))) 3
      three = omega arith

      go : (used : Bool) → meaning_by inner names (cond used (ArrayHead (count_size (rest / 4 % 2)) (rest % 4 + 1)) Nothing) s ≡ Some d
          → Kinds d (eqb (suc (suc (suc more))) 2) (eqb (suc (suc (suc more))) 3)
      go true e = rw three (by_reading inner names s (ArrayHead (count_size (rest / 4 % 2)) (rest % 4 + 1)) e)
      go false e = nothing_meant e

-- ---- what lawful bytes mean

other_head : (r : Reading) → ((c i w : ℕ) → r ≡ ObjectHead c i w → ⊥) → object_head r ≡ false
unfolding object_head
other_head (Fixed code size) other = refl
other_head (Prefixed code) other = refl
other_head (Short size) other = refl
other_head (ObjectHead c i w) other = absurd (other c i w refl)
other_head (ArrayHead c w) other = refl
other_head Nothing other = refl

nameless : (d : Doc) (named : List (List ℕ)) → is_object d ≡ false → has_any named d ≡ false
unfolding is_object has_any
nameless null named e = refl
nameless (scalar v) named e = refl
nameless (array ds) named e = refl
nameless (object fs) named e = never e

module _ (levels : ℕ) (names : Dictionary) (s : List ℕ) {d : Doc} (means : meaning_of levels names s ≡ Some d) where
  pub left_kind : (is_object d ≡ eqb (at s 0 % 4) 2) × (is_array d ≡ eqb (at s 0 % 4) 3)
  unfolding reading_of
  left_kind =
      let m = meant levels names s means in
      by_kind (meaning_of m.below names) names s (at s 0 % 4) (at s 0 / 4) (omega arith) m.by

  -- only an object has names
  pub no_object : {r : Reading} → r ≡ reading_of (at s 0) → ((c i w : ℕ) → r ≡ ObjectHead c i w → ⊥) → (named : List (List ℕ)) → false ≡ has_any named d
  no_object told other named =
      let m = meant levels names s means in
      let kind = (by_reading (meaning_of m.below names) names s (reading_of (at s 0)) m.by).0 in
      sym (nameless d named (kind ∙ other_head (reading_of (at s 0)) (λ c i w e. other c i w (told ∙ e))))
