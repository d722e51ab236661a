-- A lawful scalar is its own normal form, but for a string with its length in front that has at most 63 bytes: its first
-- byte and its length are those that normal form writes.
use Rattle.std.specs.Prelude.{Some}
use mathlib.Core.Bool.{Bool, true, false, cond, ◌&&◌}
use mathlib.Core.List.{List, [], ◌∷◌, ◌++◌}
use mathlib.Core.Path.{◌≡◌, refl, sym, ap, ◌∙◌}
use Prim.Native.Nat.{ℕ, zero, suc, ◌+◌, ◌-◌, ◌*◌, ◌/◌, ◌%◌, ◌≤◌, ◌<◌}
use native.Mathlib.Omega.{arith}
use borrow.Author.Tests.{eq-eqb, ne_eqb, eqb-true, eqb-false, le-leb, lt-leb, leb-true, leb-false}
use lib.Dec.{leb, eqb}
use lib.ListN.{length, get_or, take, drop, length-take, length-drop, take-append-drop}
use lib.Seq.{drop-cons, drop-drop}
use Rattle.forms.proofs.LieLaws.{Bytes, bytes_drop, bytes_take}
use Rattle.forms.proofs.WellFormedLaws.{never_marked, fixed_length}
use Rattle.heads.proofs.HeadLaws.{extent_some}
use Rattle.heads.proofs.ReadingLaws.{fixed_sizes, prefixed_sizes, short_sizes}
use Rattle.numbers.proofs.NumberLaws.{bytes_back}
use Rattle.numbers.specs.Little.{number, number_at, number_bytes}
use Rattle.paper.proofs.MeaningLaws.{prefixed_doc}
use Rattle.paper.proofs.WordLaws.{given_some}
use Rattle.paper.specs.FirstBytes.{length_prefixed, payload_sizes, primitive_reading, count_size, kind_reading, reading_of}
use Rattle.paper.specs.Meaning.{boolean, payload, text, Doc, null, scalar}
use Rattle.paper.specs.Metadata.{Dictionary}
use Rattle.paper.specs.Normal.{prefixed_bytes, text_bytes, scalar_bytes, value_bytes}
use Rattle.paper.specs.Values.{extent_by, primitive_meaning, whole}
use Rattle.paper.specs.Words.{at}
use Rattle.paper.specs.declared.Reading.TheVariants.{Fixed, Prefixed, Short, ObjectHead, ArrayHead, Nothing}
use Rattle.paper.specs.declared.Reading.{Reading}
use Rattle.values.proofs.PrimitiveLaws.{whole_extent}
use Rattle.writing.specs.Rewritten.{shortened}
use Rattle.writing.proofs.RewrittenLaws.{prefix_there, text_short}
use Rattle.std.proofs.lemmas.Option.{same_Some}

-- ---- the first byte of a scalar, from its reading

unfoldable Bits : (kind rest : ℕ) → Reading → Type 0
Bits kind rest (Fixed type size) = (kind ≡ 0) × (type ≡ rest)
Bits kind rest (Prefixed type) = (kind ≡ 0) × (type ≡ rest)
Bits kind rest (Short size) = (kind ≡ 1) × (size ≡ rest)
Bits kind rest (ObjectHead c i w) = Unit {0}
Bits kind rest (ArrayHead c w) = Unit {0}
Bits kind rest Nothing = Unit {0}

primitive_bits : (rest : ℕ) → Bits 0 rest (primitive_reading rest)
unfolding Bits primitive_reading
primitive_bits rest = go (leb rest 20) (eqb (get_or payload_sizes rest 0) length_prefixed)
  where
    go : (known prefixed : Bool) → Bits 0 rest (cond known (cond prefixed (Prefixed rest) (Fixed rest (get_or payload_sizes rest 0))) Nothing)
    go true true = (refl, refl)
    go true false = (refl, refl)
    go false prefixed = tt

or_nothing : (kind rest : ℕ) (b : Bool) (r : Reading) → Bits kind rest r → Bits kind rest (cond b r Nothing)
unfolding Bits
or_nothing kind rest true r is = is
or_nothing kind rest false r is = tt

kind_bits : (kind rest : ℕ) → Bits kind rest (kind_reading kind rest)
unfolding Bits kind_reading
kind_bits zero rest = primitive_bits rest
kind_bits (suc zero) rest = (refl, refl)
kind_bits (suc (suc zero)) rest =
    or_nothing 2 rest (eqb (rest / 32) 0) (ObjectHead (count_size (rest / 16 % 2)) (rest / 4 % 4 + 1) (rest % 4 + 1)) tt
kind_bits (suc (suc (suc more))) rest =
    or_nothing (suc (suc (suc more))) rest (eqb (rest / 8) 0) (ArrayHead (count_size (rest / 4 % 2)) (rest % 4 + 1)) tt

module _ (first : ℕ) where
  bits : Bits (first % 4) (first / 4) (reading_of first)
  unfolding reading_of
  bits = kind_bits (first % 4) (first / 4)

  fixed_first : {type size : ℕ} → reading_of first ≡ Fixed type size → first ≡ 4 * type
  unfolding Bits
  fixed_first {type} {size} e = let both : (first % 4 ≡ 0) × (type ≡ first / 4) = rw e at bits in let a = both.0 in let b = both.1 in omega arith

  prefixed_first : {type : ℕ} → reading_of first ≡ Prefixed type → first ≡ 4 * type
  unfolding Bits
  prefixed_first {type} e = let both : (first % 4 ≡ 0) × (type ≡ first / 4) = rw e at bits in let a = both.0 in let b = both.1 in omega arith

  short_first : {size : ℕ} → reading_of first ≡ Short size → first ≡ 4 * size + 1
  unfolding Bits
  short_first {size} e = let both : (first % 4 ≡ 1) × (size ≡ first / 4) = rw e at bits in let a = both.0 in let b = both.1 in omega arith

-- ---- a value's bytes, its first in front

none_long : (s : List ℕ) → length s ≡ 0 → s ≡ []
none_long [] e = refl
none_long (b ∷ s) e = absurd (omega arith)

-- A first byte and a payload of its type's size.
primitive_stands : (normal : Dictionary) (s : List ℕ) (d : Doc) (type : ℕ) → (4 * type) ∷ drop 1 s ≡ s → length (drop 1 s) ≡ get_or payload_sizes type 0
    → (type ≡ 15 → ⊥) → primitive_meaning type (drop 1 s) ≡ Some d → s ≡ value_bytes normal d
unfolding primitive_meaning value_bytes scalar_bytes payload_sizes
primitive_stands normal s d type first long other e = go type first long other e
  where
    alone : (n : ℕ) → n ∷ drop 1 s ≡ s → length (drop 1 s) ≡ 0 → s ≡ n ∷ []
    alone n f none = sym f ∙ ap (λ (l : List ℕ). n ∷ l) (none_long (drop 1 s) none)

    go : (t : ℕ) → (4 * t) ∷ drop 1 s ≡ s → length (drop 1 s) ≡ get_or payload_sizes t 0 → (t ≡ 15 → ⊥) → primitive_meaning t (drop 1 s) ≡ Some d
        → s ≡ value_bytes normal d
    go zero f l o m = alone 0 f l ∙ ap (value_bytes normal) (same_Some null d m)
    go (suc zero) f l o m = alone 4 f l ∙ ap (value_bytes normal) (same_Some (scalar (boolean true)) d m)
    go (suc (suc zero)) f l o m = alone 8 f l ∙ ap (value_bytes normal) (same_Some (scalar (boolean false)) d m)
    go (suc (suc (suc more))) f l o m =
        let t : ℕ = suc (suc (suc more)) in
        let held : Doc = scalar (payload t (drop 1 s)) in
        let is : held ≡ d = same_Some held d (given_some _ (Some held) m).1 in
        let as-payload : s ≡ value_bytes normal (scalar (payload t (drop 1 s))) = rw (ne_eqb t 15 o) (sym f) in
        as-payload ∙ ap (value_bytes normal) is

long_text : (s : List ℕ) → 63 < length s → text_bytes s ≡ prefixed_bytes 16 s
unfolding text_bytes
long_text s long = rw (lt-leb (length s) 63 long)

module _ (s : List ℕ) (fills : whole s ≡ true) where
  some_bytes : 1 ≤ length s
  some_bytes = (extent_some s (whole_extent s fills)).0

  split : s ≡ at s 0 ∷ drop 1 s
  split = drop-cons s 0 0 (let l = some_bytes in omega arith)

  with_first : (first : ℕ) → at s 0 ≡ first → first ∷ drop 1 s ≡ s
  with_first first e = sym (split ∙ ap (λ (n : ℕ). n ∷ drop 1 s) e)

  -- ---- a primitive of a fixed size

  pub fixed_stands : (normal : Dictionary) (type size : ℕ) (d : Doc) → reading_of (at s 0) ≡ Fixed type size → primitive_meaning type (drop 1 s) ≡ Some d
      → s ≡ value_bytes normal d
  fixed_stands normal type size d is e = primitive_stands normal s d type first long other.0 e
    where
      sizes : (type ≤ 20) × (size ≤ 17) × (size ≡ get_or payload_sizes type 0)
      sizes = fixed_sizes (at s 0) is

      other : (type ≡ 15 → ⊥) × (type ≡ 16 → ⊥)
      other = never_marked type size sizes.1 sizes.2

      first : (4 * type) ∷ drop 1 s ≡ s
      first = with_first (4 * type) (fixed_first (at s 0) is)

      long : length (drop 1 s) ≡ get_or payload_sizes type 0
      long = fixed_length s type size fills is ∙ sizes.2

  -- ---- bytes with their length in front

  module _ (bytes : Bytes s) (type : ℕ) (is : reading_of (at s 0) ≡ Prefixed type) where
    long : 5 ≤ length s
    long = prefix_there s type fills is

    length_is : number_at s 1 4 ≡ length (drop 5 s)
    unfolding extent_by
    length_is =
        let by : Some (5 + number_at s 1 4) ≡ Some (length s) = (given_some (leb 5 (length s)) _ (rw is at (extent_some s (whole_extent s fills)).1)).1 in
        let all : 5 + number_at s 1 4 ≡ length s = same_Some (5 + number_at s 1 4) (length s) by in
        rw length-drop (omega arith)

    four : number_bytes 4 (length (drop 5 s)) ≡ take 4 (drop 1 s)
    unfolding number_at
    four =
        let l = long in
        let size : length (take 4 (drop 1 s)) ≡ 4 = rw (length-take, length-drop) (omega arith) in
        let back : number_bytes (length (take 4 (drop 1 s))) (number (take 4 (drop 1 s))) ≡ take 4 (drop 1 s) =
        bytes_back (take 4 (drop 1 s)) (bytes_take 4 (drop 1 s) (bytes_drop 1 s bytes)) in
        ap (number_bytes 4) (sym length_is) ∙ ap (λ (w : ℕ). number_bytes w (number (take 4 (drop 1 s)))) (sym size) ∙ back

    prefixed_same : prefixed_bytes type (drop 5 s) ≡ s
    unfolding prefixed_bytes
    prefixed_same =
        let behind : drop 4 (drop 1 s) ≡ drop 5 s = drop-drop 4 1 s in
        ap (λ (l : List ℕ). (4 * type) ∷ l ++ drop 5 s) four
        ∙ ap (λ (l : List ℕ). (4 * type) ∷ take 4 (drop 1 s) ++ l) (sym behind)
        ∙ ap (λ (l : List ℕ). (4 * type) ∷ l) (take-append-drop 4 (drop 1 s))
        ∙ with_first (4 * type) (prefixed_first (at s 0) is)

    text_stands : type ≡ 16 → (few : Bool) → leb (length s) 68 ≡ few → cond few ((4 * (length s - 5) + 1) ∷ drop 5 s) s ≡ text_bytes (drop 5 s)
    text_stands string true e = text_short s long (leb-true (length s) 68 e)
    text_stands string false e =
        let many : 68 < length s = leb-false (length s) 68 e in
        let size : length (drop 5 s) ≡ length s - 5 = length-drop 5 s in
        sym (long_text (drop 5 s) (omega arith) ∙ ap (λ (t : ℕ). prefixed_bytes t (drop 5 s)) (sym string) ∙ prefixed_same)

    pub prefixed_stands : (normal : Dictionary) → shortened type s ≡ value_bytes normal (prefixed_doc (eqb type 16) type (drop 5 s))
    unfolding shortened value_bytes scalar_bytes
    prefixed_stands normal = go (eqb type 16) refl
      where
        go : (b : Bool) → eqb type 16 ≡ b
            → cond (b && leb (length s) 68) ((4 * (length s - 5) + 1) ∷ drop 5 s) s ≡ value_bytes normal (prefixed_doc b type (drop 5 s))
        go true e = text_stands (eqb-true type 16 e) (leb (length s) 68) refl
        go false e =
            let sizes = prefixed_sizes (at s 0) is in
            let no_string : type ≡ 16 → ⊥ = eqb-false type 16 e in
            let least = sizes.0 in
            let most = sizes.1 in
            let binary : type ≡ 15 = omega arith in
            rw (eq-eqb type 15 binary) (sym prefixed_same)

  -- ---- a short string

  pub short_stands : (normal : Dictionary) (size : ℕ) → Bytes s → reading_of (at s 0) ≡ Short size → s ≡ value_bytes normal (scalar (text (drop 1 s)))
  unfolding value_bytes scalar_bytes text_bytes extent_by
  short_stands normal size bytes is =
      let by : Some (1 + size) ≡ Some (length s) = rw is at (extent_some s (whole_extent s fills)).1 in
      let all : 1 + size ≡ length s = same_Some (1 + size) (length s) by in
      let code : size ≡ at s 0 / 4 = short_sizes (at s 0) is in
      let byte : at s 0 < 256 = bytes 0 in
      let size_is : length (drop 1 s) ≡ size = rw length-drop (omega arith) in
      rw (size_is, le-leb size 63 (omega arith)) (sym (with_first (4 * size + 1) (short_first (at s 0) is)))
