-- A node judged by its frame, then by its tag.
use Rattle.std.specs.Prelude.{Option, None, Some}
use mathlib.Core.Bool.{Bool, true, false}
use mathlib.Core.List.{List}
use mathlib.Core.Path.{◌≡◌, refl, sym, ◌∙◌}
use Prim.Native.Nat.{ℕ, zero, suc, ◌+◌, ◌-◌, ◌≤◌, ◌<◌}
use native.Mathlib.Omega.{arith}
use borrow.Author.Tests.{eq-eqb, ne_eqb, eqb-true, eqb-false}
use lib.Dec.{eqb}
use lib.ListN.{length}
use lib.Seq.{take_all}
use Rattle.numbers.specs.Little.{number_at}
use Rattle.paper.specs.Framing.{Piece, one_piece}
use Rattle.paper.specs.Limits.{most_levels}
use Rattle.paper.specs.Schemas.{Column, leftover_only, column, list, column_code, column_of, node_tag, node_by, node_of, schema_of}
use Rattle.paper.specs.Words.{at, part, given, and_then, is_there}
use Rattle.paper.proofs.WordLaws.{there_then}
use Rattle.frames.proofs.PieceLaws.{length_part, part_cons}
use Rattle.schemas.proofs.FramingLaws.{one_piece_lem, one_not}
use Rattle.schemas.specs.Frames.{frame_end, piece_at}
use Rattle.schemas.specs.Positions.{node_in, object_in}

-- ---- a column's body

module _ (s : List ℕ) (from to : ℕ) (within : to ≤ length s) where
  pub column_other : (to - from ≡ 1 → ⊥) → false ≡ is_there (column_of (part s from to))
  unfolding column_of given is_there
  column_other h = rw (length_part s from to within, ne_eqb (to - from) 1 h)

  pub column_one : to - from ≡ 1 → (b : Bool) → b ≡ column_code (at s from) → b ≡ is_there (column_of (part s from to))
  unfolding column_of is_there given
  column_one h b e =
      rw (length_part s from to within, eq-eqb (to - from) 1 h, part_cons s from to within (omega arith), ← e) (go b)
    where
      go : (b : Bool) → b ≡ is_there {A = Column} (given b (Some (record { code = at s from })))
      go true = refl
      go false = refl

-- ---- levels

pub node_none : (levels : ℕ) (s : List ℕ) (from to : ℕ) → levels ≡ 0 → false ≡ is_there (node_in levels s from to)
unfolding node_in and_then is_there node_of
node_none levels s from to e = rw e (go (one_piece (part s from to)))
  where
    go : (x : Option Piece) → false ≡ is_there (and_then x (node_of 0))
    go None = refl
    go (Some piece) = refl

pub node_step : (levels : ℕ) (piece : Piece) → (levels ≡ 0 → ⊥) → node_of levels piece ≡ node_by (node_of (levels - 1)) (node_tag piece.tag) piece.body
unfolding node_of
node_step zero piece h = absurd (h refl)
node_step (suc levels) piece h = let e : suc levels - 1 ≡ levels = omega arith in rw e

-- ---- the frame

module _ (levels : ℕ) (s : List ℕ) (from to : ℕ) (ordered : from ≤ to) (within : to ≤ length s) where
  node_not : (frame_end s from ≡ to → ⊥) → false ≡ is_there (node_in levels s from to)
  unfolding node_in and_then is_there
  node_not h = rw (one_not s from to within h)

  pub node_short : to - from < 3 → false ≡ is_there (node_in levels s from to)
  node_short h = node_not λ e. omega arith

  module _ (head : 3 ≤ to - from) (size : ℕ) (is : size ≡ number_at s (from + 1) 2) where
    pub node_unfilled : (to - (from + 3) ≡ size → ⊥) → false ≡ is_there (node_in levels s from to)
    node_unfilled h = node_not λ e. h (omega arith)

    -- ---- by the tag

    module _ (fills : to - (from + 3) ≡ size) (left : levels ≡ 0 → ⊥) where
      node_by_lem : node_in levels s from to ≡ node_by (node_of (levels - 1)) (node_tag (at s from)) (part s (from + 3) to)
      unfolding node_in and_then
      node_by_lem =
          let ends : frame_end s from ≡ to = omega arith in
          rw (one_piece_lem s from to within ends, node_step levels (piece_at s from) left, ends)

      pub node_leftover : at s from ≡ 0x00 → eqb (from + 3) to ≡ is_there (node_in levels s from to)
      unfolding node_tag node_by given is_there
      node_leftover e = rw (node_by_lem, eq-eqb (at s from) 0x00 e, length_part s (from + 3) to within) (go (eqb (from + 3) to) refl)
        where
          go : (b : Bool) → eqb (from + 3) to ≡ b → b ≡ is_there (given (eqb (to - (from + 3)) 0) (Some leftover_only))
          go true f = let same : from + 3 ≡ to = eqb-true (from + 3) to f in rw (eq-eqb (to - (from + 3)) 0 (omega arith))
          go false f = rw (ne_eqb (to - (from + 3)) 0 (λ same. eqb-false (from + 3) to f (omega arith)))

      pub node_column : at s from ≡ 0x10 → (b : Bool) → b ≡ is_there (column_of (part s (from + 3) to)) → b ≡ is_there (node_in levels s from to)
      unfolding node_tag node_by is_there
      node_column e b judged =
          rw (node_by_lem, e) (judged ∙ sym (there_then (column_of (part s (from + 3) to)) (λ said. Some (column said)) (λ said. refl)))

      pub node_list : at s from ≡ 0x20 → (b : Bool) → b ≡ is_there (node_in (levels - 1) s (from + 3) to) → b ≡ is_there (node_in levels s from to)
      unfolding node_tag node_by node_in and_then is_there
      node_list e b judged = judged ∙ rw (node_by_lem, e) (go (one_piece (part s (from + 3) to)))
        where
          go : (x : Option Piece) → is_there (and_then x (node_of (levels - 1))) ≡ is_there (and_then x λ piece. and_then (node_of (levels - 1) piece) λ element. Some (list element))
          go None = refl
          go (Some piece) = sym (there_then (node_of (levels - 1) piece) (λ element. Some (list element)) (λ element. refl))

      pub node_fields : at s from ≡ 0x30 → (b : Bool) → b ≡ is_there (object_in (levels - 1) s (from + 3) to) → b ≡ is_there (node_in levels s from to)
      unfolding node_tag object_in
      node_fields e b judged = judged ∙ rw (node_by_lem, e)

      pub node_other : (at s from ≡ 0x00 → ⊥) → (at s from ≡ 0x10 → ⊥) → (at s from ≡ 0x20 → ⊥) → (at s from ≡ 0x30 → ⊥) → false ≡ is_there (node_in levels s from to)
      unfolding node_tag node_by is_there
      node_other a b c d = rw (node_by_lem, ne_eqb (at s from) 0x00 a, ne_eqb (at s from) 0x10 b, ne_eqb (at s from) 0x20 c, ne_eqb (at s from) 0x30 d)

-- A schema is a node that fills it.
pub schema_node : (s : List ℕ) → node_in most_levels s 0 (length s) ≡ schema_of s
unfolding node_in schema_of
schema_node s = rw (take_all (length s - 0) s (omega arith))
