-- The insides of a container's children, one child more at a time.
use Rattle.std.specs.Prelude.{Option, None, Some}
use mathlib.Core.Bool.{Bool, true, false, not, ◌&&◌, and-false}
use mathlib.Core.List.{List, ◌∷◌}
use mathlib.Core.Path.{◌≡◌, refl, sym, ap, ◌∙◌}
use Prim.Native.Nat.{ℕ, ◌+◌, ◌-◌, ◌*◌, ◌≤◌, ◌<◌}
use native.Mathlib.Omega.{arith}
use lib.ListN.{length, get_or, take, drop}
use Rattle.paper.specs.FirstBytes.{reading_of}
use Rattle.paper.specs.Meaning.{Doc}
use Rattle.paper.specs.Metadata.{Dictionary}
use Rattle.paper.specs.Values.{child_extent, children_at, child_bytes, meaning_of}
use Rattle.paper.specs.declared.Child.{Child}
use Rattle.paper.specs.Words.{at, is_there, and_then}
use Rattle.values.specs.Insides.{plain_by, child_good, all_good, insides_good}
use Rattle.runs.proofs.NumbersRunLaws.{next_number, no_more}
use Rattle.paper.proofs.WordLaws.{never, there_some}
use Rattle.containers.proofs.ChildLaws.{with_first, children_none, children_some}
use Rattle.containers.proofs.OwnLaws.{own, own_is, own_whole, known, first_own}
use Rattle.values.proofs.PlainLaws.{plain_good}
use Rattle.values.proofs.ValueLaws.{false_first, true_first}

-- ---- one child

module _ (inner : List ℕ → Option Doc) (area : List ℕ) (start : ℕ) where
  pub child_lost : (r : Option ℕ) → r ≡ child_extent area start → r ≡ None → false ≡ child_good inner area start
  unfolding child_good and_then is_there
  child_lost r told e = rw (sym told ∙ e)

  child_is : (size : ℕ) → child_extent area start ≡ Some size → child_good inner area start ≡ is_there (inner (child_bytes area (record { start = start; size = size })))
  unfolding child_good and_then
  child_is size e = rw e

  -- b is what the child's own judging answered
  pub child_judged : (r : Option ℕ) → r ≡ child_extent area start → (size : ℕ) → r ≡ Some size
      → (b : Bool) → b ≡ is_there (inner (take (start + size - start) (drop start area))) → b ≡ child_good inner area start
  child_judged r told size e b judged =
      let long : child_extent area start ≡ Some size = known area start r told size e in
      judged ∙ ap (λ (l : List ℕ). is_there (inner l)) (own_is area start size long) ∙ sym (child_is size long)

-- ---- a child with nothing inside that could break a rule

module _ (area : List ℕ) (start : ℕ) (there : is_there (child_extent area start) ≡ true) where
  pub child_plain : (levels : ℕ) (names : Dictionary) → (levels ≡ 0 → ⊥) → (b : Bool) → b ≡ plain_by (reading_of (at area start)) → b ≡ true
      → true ≡ child_good (meaning_of levels names) area start
  child_plain levels names some_left b told e =
      let has = there_some (child_extent area start) there in
      let size : ℕ = has.0 in
      let long : child_extent area start ≡ Some size = has.1 in
      sym (child_is (meaning_of levels names) area start size long
      ∙ ap (λ (l : List ℕ). is_there (meaning_of levels names l)) (sym (own_is area start size long))
      ∙ plain_good levels names (own area start size long) some_left (own_whole area start size long)
      (ap (λ (n : ℕ). plain_by (reading_of n)) (first_own area start size long) ∙ sym told ∙ e))

-- ---- one child more

module _ (inner : List ℕ → Option Doc) (area : List ℕ) (start : ℕ) (more : List ℕ) where
  insides_more : insides_good inner area (children_at area (start ∷ more)) ≡ child_good inner area start && insides_good inner area (children_at area more)
  unfolding insides_good all_good child_good with_first and_then is_there
  insides_more = go (child_extent area start) refl
    where
      with_size : (first : Bool) (size : ℕ) (K : Option (List Child))
          → first ≡ is_there (inner (child_bytes area (record { start = start; size = size })))
          → insides_good inner area (with_first start size K) ≡ first && insides_good inner area K
      with_size first size None e = sym (and-false first)
      with_size first size (Some children) e = rw e

      go : (x : Option ℕ) → child_extent area start ≡ x
          → insides_good inner area (children_at area (start ∷ more))
          ≡ is_there (and_then x λ size. inner (child_bytes area (record { start = start; size = size }))) && insides_good inner area (children_at area more)
      go None e = rw (children_none area start more e)
      go (Some size) e = rw (children_some area start more size e)
          (with_size (is_there (inner (child_bytes area (record { start = start; size = size })))) size (children_at area more) refl)

  -- the first is there, and so are the others
  there_more : is_there (children_at area (start ∷ more)) ≡ true → (is_there (child_extent area start) ≡ true) × (is_there (children_at area more) ≡ true)
  unfolding with_first and_then is_there
  there_more = go (child_extent area start) refl
    where
      rest_there : (size : ℕ) (K : Option (List Child)) → is_there (with_first start size K) ≡ true → is_there K ≡ true
      rest_there size None f = f
      rest_there size (Some children) f = refl

      go : (x : Option ℕ) → child_extent area start ≡ x → is_there (children_at area (start ∷ more)) ≡ true
          → (is_there x ≡ true) × (is_there (children_at area more) ≡ true)
      go None e f = never (sym (rw (children_none area start more e) at f))
      go (Some size) e f = (refl, rest_there size (children_at area more) (rw (children_some area start more size e) at f))

-- ---- the loop

-- After k children: what is left is there, and decides.
pub record InsidesSeen (inner : List ℕ → Option Doc) (area starts : List ℕ) (k : ℕ) : Type 0 where
  pub left_there : is_there (children_at area (drop k starts)) ≡ true
  pub whole_is : insides_good inner area (children_at area starts) ≡ insides_good inner area (children_at area (drop k starts))

pub insides_start : (inner : List ℕ → Option Doc) (area starts : List ℕ) → is_there (children_at area starts) ≡ true → InsidesSeen inner area starts 0
insides_start inner area starts there = record { left_there = there; whole_is = refl }

module _ {inner : List ℕ → Option Doc} {area starts : List ℕ} {k : ℕ} (seen : InsidesSeen inner area starts k) where
  pub insides_done : length starts ≤ k → true ≡ insides_good inner area (children_at area starts)
  unfolding insides_good all_good children_at
  insides_done past = sym (seen.whole_is ∙ ap (λ (l : List ℕ). insides_good inner area (children_at area l)) (no_more starts k past))

  module _ (h : k < length starts) (start : ℕ) (is : start ≡ get_or starts k 0) where
    next : drop k starts ≡ start ∷ drop (k + 1) starts
    next = next_number starts k h start is

    left : (is_there (child_extent area start) ≡ true) × (is_there (children_at area (drop (k + 1) starts)) ≡ true)
    left = there_more inner area start (drop (k + 1) starts) (sym (ap (λ (l : List ℕ). is_there (children_at area l)) next) ∙ seen.left_there)

    -- what the judging of the child asks
    pub next_there : is_there (child_extent area start) ≡ true
    next_there = left.0

    -- b is what the judging of the child answered
    module _ (b : Bool) (judged : b ≡ child_good inner area start) where
      all : insides_good inner area (children_at area starts) ≡ b && insides_good inner area (children_at area (drop (k + 1) starts))
      all =
          seen.whole_is ∙ ap (λ (l : List ℕ). insides_good inner area (children_at area l)) next
          ∙ insides_more inner area start (drop (k + 1) starts) ∙ rw judged

      pub insides_bad : not b ≡ true → false ≡ insides_good inner area (children_at area starts)
      insides_bad f = sym (all ∙ false_first b _ f)

      pub insides_next : not b ≡ false → InsidesSeen inner area starts (k + 1)
      insides_next f = record { left_there = left.1; whole_is = all ∙ true_first b _ f }
