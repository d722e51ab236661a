-- One step: by its tag, and by the reading of the value's first byte.
use Rattle.paper.specs.declared.Child.{Child}
use Rattle.std.specs.Prelude.{Some, None, Option}
use mathlib.Core.Bool.{true, ◌&&◌}
use mathlib.Core.List.{List}
use mathlib.Core.Path.{◌≡◌, refl, sym, ap, ◌∙◌}
use Prim.Native.Nat.{ℕ, ◌+◌, ◌≤◌}
use native.Mathlib.Omega.{arith}
use borrow.Author.Tests.{eq-eqb, ne_eqb, eqb-true}
use lib.Dec.{eqb}
use lib.ListN.{length}
use lib.Seq.{take_all}
use Rattle.numbers.specs.Little.{number, number_at}
use Rattle.paper.specs.FirstBytes.{reading_of}
use Rattle.paper.specs.Metadata.{Dictionary}
use Rattle.paper.specs.Paths.{step_of, into_field, into_element, step_into}
use Rattle.paper.specs.Standing.{by_index}
use Rattle.paper.specs.Words.{at, given, and_then, is_there}
use Rattle.paper.specs.declared.Reading.TheVariants.{ObjectHead, ArrayHead}
use Rattle.paper.specs.declared.Reading.{Reading}
use Rattle.paper.proofs.WordLaws.{there_given, and_both}

-- ---- a value of the wrong kind leads nowhere

module _ (names : Dictionary) (name : List ℕ) (s : List ℕ) (r : Reading) (told : r ≡ reading_of (at s 0)) where
  -- other readings than an object's
  pub no_object : ((c i w : ℕ) → r ≡ ObjectHead c i w → ⊥) → None ≡ into_field names name (reading_of (at s 0)) s
  unfolding into_field
  no_object other = rw (← told) (go r other)
    where
      go : (q : Reading) → ((c i w : ℕ) → q ≡ ObjectHead c i w → ⊥) → None ≡ into_field names name q s
      go (ObjectHead c i w) f = absurd (f c i w refl)
      go _ f = refl

module _ (index : ℕ) (s : List ℕ) (r : Reading) (told : r ≡ reading_of (at s 0)) where
  -- other readings than an array's
  pub no_array : ((c w : ℕ) → r ≡ ArrayHead c w → ⊥) → None ≡ into_element index (reading_of (at s 0)) s
  unfolding into_element
  no_array other = rw (← told) (go r other)
    where
      go : (q : Reading) → ((c w : ℕ) → q ≡ ArrayHead c w → ⊥) → None ≡ into_element index q s
      go (ArrayHead c w) f = absurd (f c w refl)
      go _ f = refl

-- ---- a step by its tag

pub step-by_name : (names : Dictionary) (s : List ℕ) (tag : ℕ) (body : List ℕ) (r : Option Child) → tag ≡ 0x60 → r ≡ into_field names body (reading_of (at s 0)) s
    → r ≡ (and_then (step_of (record { tag = tag; body = body })) λ step. step_into names step s)
unfolding step_of and_then step_into
step-by_name names s tag body r e is = is ∙ rw (eq-eqb tag 0x60 e)

-- A piece that is a step and no name is an index.
module _ (tag : ℕ) (body : List ℕ) (h : tag ≡ 0x60 → ⊥) (good : is_there (step_of (record { tag = tag; body = body })) ≡ true) where
  index_tests : (eqb tag 0x61 ≡ true) × (eqb (length body) 2 ≡ true)
  unfolding step_of is_there
  index_tests =
      let test : is_there (given (eqb tag 0x61 && eqb (length body) 2) (Some (by_index (number body)))) ≡ true = rw (ne_eqb tag 0x60 h) at good in
      let both = and_both (eqb tag 0x61 && eqb (length body) 2) _ (sym (there_given (eqb tag 0x61 && eqb (length body) 2) (Some (by_index (number body)))) ∙ test) in
      and_both (eqb tag 0x61) (eqb (length body) 2) both.0

  index_two : length body ≡ 2
  index_two = eqb-true (length body) 2 index_tests.1

  pub index_asks : (0 + 2 ≤ length body) × (1 ≤ 2) × (2 ≤ 4)
  index_asks = let two = index_two in (omega arith, omega arith, omega arith)

  pub step-by_index : (names : Dictionary) (s : List ℕ) (r : Option Child) (index : ℕ) → index ≡ number_at body 0 2 → r ≡ into_element index (reading_of (at s 0)) s
      → r ≡ (and_then (step_of (record { tag = tag; body = body })) λ step. step_into names step s)
  unfolding step_of and_then step_into given number_at
  step-by_index names s r index is e =
      let all : index ≡ number body = is ∙ ap number (take_all 2 body (let two = index_two in omega arith)) in
      e ∙ rw (ne_eqb tag 0x60 h, index_tests.0, index_tests.1, all)
