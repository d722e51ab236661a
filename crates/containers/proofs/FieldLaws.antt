-- The names of an object's fields, one id more at a time.
use mathlib.Core.Bool.{Bool, true, false, ◌&&◌}
use mathlib.Core.List.{List, [], ◌∷◌}
use mathlib.Core.Path.{◌≡◌, refl, sym, ap, ◌∙◌}
use Prim.Native.Nat.{ℕ, ◌+◌, ◌≤◌, ◌<◌}
use native.Mathlib.Omega.{arith}
use borrow.Author.Tests.{lt-ltb, le-ltb}
use lib.Dec.{ltb}
use lib.ListN.{length, get_or, drop}
use Rattle.order.specs.Before.{before}
use Rattle.paper.specs.Metadata.{Dictionary, rising}
use Rattle.paper.specs.Values.{names_at}
use Rattle.paper.specs.Words.{all_below}
use Rattle.runs.proofs.NumbersRunLaws.{next_number, no_more}

-- All ids are below the count, and the names rise.
abbrev Verdict : Dictionary → List ℕ → Bool
Verdict names ids = all_below (length names) ids && rising (names_at names ids)

-- The same of what is left, behind the name of the last id.
abbrev After : Dictionary → ℕ → List ℕ → Bool
After names last ids = all_below (length names) ids && rising (get_or names last [] ∷ names_at names ids)

-- After i ids: what is left decides.
pub record FieldsSeen (names : Dictionary) (ids : List ℕ) (last i : ℕ) : Type 0 where
  pub last_below : last < length names
  pub whole : Verdict names ids ≡ After names last (drop i ids)

-- No ids are lawful.
pub fields_none : (names : Dictionary) (ids : List ℕ) → length ids ≡ 0 → true ≡ Verdict names ids
unfolding all_below rising names_at
fields_none names [] e = refl
fields_none names (id ∷ ids) e = absurd (omega arith)

-- The first id.
module _ (names : Dictionary) (ids : List ℕ) (some : length ids ≡ 0 → ⊥) (first : ℕ) (is : first ≡ get_or ids 0 0) where
  first_next : ids ≡ first ∷ drop 1 ids
  first_next = next_number ids 0 (omega arith) first is

  pub fields_first_past : length names ≤ first → false ≡ Verdict names ids
  unfolding all_below
  fields_first_past h = rw (first_next, le-ltb first (length names) h)

  pub fields_first : first < length names → FieldsSeen names ids first 1
  unfolding all_below names_at
  fields_first h = record { last_below = h; whole = rw (first_next, lt-ltb first (length names) h) }

-- Tests in another order.
and_order : (a b c d : Bool) → (a && b) && (c && d) ≡ a && (c && (b && d))
and_order false b c d = refl
and_order true false false d = refl
and_order true false true d = refl
and_order true true c d = refl

module _ {names : Dictionary} {ids : List ℕ} {last i : ℕ} (seen : FieldsSeen names ids last i) where
  pub fields_done : length ids ≤ i → true ≡ Verdict names ids
  unfolding all_below rising names_at
  fields_done past = sym (seen.whole ∙ ap (After names last) (no_more ids i past))

  module _ (h : i < length ids) (id : ℕ) (is : id ≡ get_or ids i 0) where
    after : Verdict names ids ≡ ltb id (length names) && (before (get_or names last []) (get_or names id []) && After names id (drop (i + 1) ids))
    unfolding all_below rising names_at
    after =
        seen.whole ∙ ap (After names last) (next_number ids i h id is)
        ∙ and_order (ltb id (length names)) (all_below (length names) (drop (i + 1) ids))
        (before (get_or names last []) (get_or names id [])) (rising (get_or names id [] ∷ names_at names (drop (i + 1) ids)))

    pub fields_past : length names ≤ id → false ≡ Verdict names ids
    fields_past k = sym (after ∙ rw (le-ltb id (length names) k))

    module _ (k : id < length names) (r : Bool) (told : r ≡ before (get_or names last []) (get_or names id [])) where
      pub fields_next : r ≡ true → FieldsSeen names ids id (i + 1)
      fields_next e = record { last_below = k; whole = after ∙ rw (lt-ltb id (length names) k, ← told, e) }

      pub fields_fall : r ≡ false → false ≡ Verdict names ids
      fields_fall e = sym (after ∙ rw (lt-ltb id (length names) k, ← told, e))
