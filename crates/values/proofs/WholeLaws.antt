-- A value fills its bytes: bytes that it does not fill mean nothing.
use Rattle.std.specs.Prelude.{Option, Some, None}
use mathlib.Core.List.{List}
use mathlib.Core.Bool.{true, false}
use mathlib.Core.Path.{◌≡◌, refl, sym, ap, ◌∙◌}
use Prim.Native.Nat.{ℕ, zero, suc}
use borrow.Author.Tests.{eq-eqb, ne_eqb}
use lib.ListN.{length}
use Rattle.paper.specs.FirstBytes.{reading_of}
use Rattle.paper.specs.Metadata.{Dictionary}
use Rattle.paper.specs.Values.{extent, ends_at, whole, meaning_by, meaning_of}
use Rattle.paper.specs.Words.{at, is_there}
use Rattle.paper.proofs.WordLaws.{given_failed}

not_whole : (levels : ℕ) (names : Dictionary) (s : List ℕ) → whole s ≡ false → false ≡ is_there (meaning_of levels names s)
unfolding meaning_of is_there
not_whole zero names s e = refl
not_whole (suc levels) names s e = sym (ap is_there (given_failed (whole s) (meaning_by (meaning_of levels names) names (reading_of (at s 0)) s) e))

module _ (s : List ℕ) (r : Option ℕ) (told : r ≡ extent s) where
  pub no_extent : r ≡ None → (levels : ℕ) (names : Dictionary) → false ≡ is_there (meaning_of levels names s)
  unfolding whole ends_at
  no_extent e levels names = not_whole levels names s (rw (sym told ∙ e))

  module _ (size : ℕ) (e : r ≡ Some size) where
    pub other_extent : (size ≡ length s → ⊥) → (levels : ℕ) (names : Dictionary) → false ≡ is_there (meaning_of levels names s)
    unfolding whole ends_at
    other_extent other levels names = not_whole levels names s (rw (sym told ∙ e) (ne_eqb size (length s) other))

    pub fills : size ≡ length s → whole s ≡ true
    unfolding whole ends_at
    fills same = rw (sym told ∙ e) (eq-eqb size (length s) same)
