-- A value under a column, by the tests of its first byte and of the column's code.
use Rattle.std.specs.Prelude.{Option, Some, None}
use mathlib.Core.List.{List, [], ◌∷◌}
use mathlib.Core.Path.{◌≡◌, refl, sym, ◌∙◌}
use Prim.Native.Nat.{ℕ, ◌≤◌}
use borrow.Author.Tests.{eq-eqb, ne_eqb}
use lib.ListN.{length}
use Rattle.runs.proofs.NumbersRunLaws.{rest, rest_is}
use Rattle.paper.specs.FirstBytes.{reading_of}
use Rattle.paper.specs.Words.{at}
use Rattle.paper.specs.declared.Reading.TheVariants.{Fixed, Prefixed, Short, ObjectHead, ArrayHead, Nothing}
use Rattle.paper.specs.declared.Reading.{Reading}
use Rattle.putting.specs.Put.{PutAs}
use Rattle.enclosing.specs.Frames.{place_of, typed_if, fixed_place, column_place, Headed}

module _ (code kind : ℕ) (s : List ℕ) {before after : List ℕ} {end : ℕ} {r : Option ℕ} where
  -- ---- of a fixed size

  module _ (yes-no : code ≡ 1) where
    pub fixed_true : kind ≡ 1 → PutAs (place_of 0x42 (0x01 ∷ [])) before after 0 end r → PutAs (fixed_place code kind s) before after 0 end r
    unfolding fixed_place
    fixed_true one done = rw (eq-eqb code 1 yes-no, eq-eqb kind 1 one) done

    module _ (no_true : kind ≡ 1 → ⊥) where
      pub fixed_false : kind ≡ 2 → PutAs (place_of 0x42 (0x00 ∷ [])) before after 0 end r → PutAs (fixed_place code kind s) before after 0 end r
      unfolding fixed_place
      fixed_false two done = rw (eq-eqb code 1 yes-no, ne_eqb kind 1 no_true, eq-eqb kind 2 two) done

      pub fixed_other : (kind ≡ 2 → ⊥) → PutAs (place_of 0x41 s) before after 0 end r → PutAs (fixed_place code kind s) before after 0 end r
      unfolding fixed_place
      fixed_other no_false done = rw (eq-eqb code 1 yes-no, ne_eqb kind 1 no_true, ne_eqb kind 2 no_false) done

  module _ (no-boolean : code ≡ 1 → ⊥) (wide : ℕ) (is : wide ≡ code) where
    pub fixed_typed : wide ≡ kind → PutAs (place_of 0x42 (rest s 1)) before after 0 end r → PutAs (fixed_place code kind s) before after 0 end r
    unfolding fixed_place typed_if
    fixed_typed here done = rw (ne_eqb code 1 no-boolean, eq-eqb code kind (sym is ∙ here), ← rest_is s 1) done

    pub fixed_left : (wide ≡ kind → ⊥) → PutAs (place_of 0x41 s) before after 0 end r → PutAs (fixed_place code kind s) before after 0 end r
    unfolding fixed_place typed_if
    fixed_left apart done = rw (ne_eqb code 1 no-boolean, ne_eqb code kind (λ e. apart (is ∙ e))) done

-- ---- by what the first byte says

pub prefix_there : (s : List ℕ) (r : Reading) (kind : ℕ) → r ≡ reading_of (at s 0) → r ≡ Prefixed kind → Headed s → 5 ≤ length s
prefix_there s r kind is e headed = headed.prefix kind (sym is ∙ e)

module _ (code : ℕ) (s : List ℕ) {before after : List ℕ} {end : ℕ} {answer : Option ℕ} (r : Reading) (is : r ≡ reading_of (at s 0)) where
  says : {q : Reading} → r ≡ q → PutAs (column_place code q s) before after 0 end answer
      → PutAs (column_place code (reading_of (at s 0)) s) before after 0 end answer
  says e done = rw (← is, e) done

  pub column_fixed : (kind size : ℕ) → r ≡ Fixed kind size → PutAs (fixed_place code kind s) before after 0 end answer
      → PutAs (column_place code (reading_of (at s 0)) s) before after 0 end answer
  unfolding column_place
  column_fixed kind size e done = says e done

  module _ (kind : ℕ) (e : r ≡ Prefixed kind) (wide : ℕ) (same : wide ≡ code) where
    pub prefixed_typed : wide ≡ kind → PutAs (place_of 0x42 (rest s 5)) before after 0 end answer
        → PutAs (column_place code (reading_of (at s 0)) s) before after 0 end answer
    unfolding column_place typed_if
    prefixed_typed here done = says e (rw (eq-eqb code kind (sym same ∙ here), ← rest_is s 5) done)

    pub prefixed_left : (wide ≡ kind → ⊥) → PutAs (place_of 0x41 s) before after 0 end answer
        → PutAs (column_place code (reading_of (at s 0)) s) before after 0 end answer
    unfolding column_place typed_if
    prefixed_left apart done = says e (rw (ne_eqb code kind (λ f. apart (same ∙ f))) done)

  module _ (size : ℕ) (e : r ≡ Short size) where
    pub short_typed : code ≡ 16 → PutAs (place_of 0x42 (rest s 1)) before after 0 end answer
        → PutAs (column_place code (reading_of (at s 0)) s) before after 0 end answer
    unfolding column_place typed_if
    short_typed here done = says e (rw (eq-eqb code 16 here, ← rest_is s 1) done)

    pub short_left : (code ≡ 16 → ⊥) → PutAs (place_of 0x41 s) before after 0 end answer
        → PutAs (column_place code (reading_of (at s 0)) s) before after 0 end answer
    unfolding column_place typed_if
    short_left apart done = says e (rw (ne_eqb code 16 apart) done)

  -- An array, an object, or what has no reading.
  pub other_left : ((kind size : ℕ) → r ≡ Fixed kind size → ⊥) → ((kind : ℕ) → r ≡ Prefixed kind → ⊥) → ((size : ℕ) → r ≡ Short size → ⊥)
      → PutAs (place_of 0x41 s) before after 0 end answer → PutAs (column_place code (reading_of (at s 0)) s) before after 0 end answer
  unfolding column_place
  other_left no_fixed no_prefixed no_short left = says refl (go r no_fixed no_prefixed no_short)
    where
      go : (q : Reading) → ((kind size : ℕ) → q ≡ Fixed kind size → ⊥) → ((kind : ℕ) → q ≡ Prefixed kind → ⊥) → ((size : ℕ) → q ≡ Short size → ⊥)
          → PutAs (column_place code q s) before after 0 end answer
      go (Fixed kind size) f p h = absurd (f kind size refl)
      go (Prefixed kind) f p h = absurd (p kind refl)
      go (Short size) f p h = absurd (h size refl)
      go (ObjectHead counted id width) f p h = left
      go (ArrayHead counted width) f p h = left
      go Nothing f p h = left
