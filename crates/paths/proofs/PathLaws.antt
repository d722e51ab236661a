-- A path one step at a time: its first piece is a step, and behind it lies a path.
use Rattle.std.specs.Prelude.{Option, None, Some}
use mathlib.Core.Bool.{Bool, true, false, ◌&&◌}
use mathlib.Core.List.{List, [], ◌∷◌}
use mathlib.Core.Path.{◌≡◌, refl, sym, ap, ◌∙◌}
use Prim.Native.Nat.{ℕ, ◌+◌, ◌≤◌, ◌<◌}
use native.Mathlib.Omega.{arith}
use borrow.Author.Tests.{eq-eqb, ne_eqb}
use lib.Dec.{eqb}
use lib.ListN.{length, drop, drop_of_length-le}
use Rattle.frames.specs.Frames.{frame_end, piece_in}
use Rattle.numbers.specs.Little.{number}
use Rattle.paper.specs.Framing.{Piece, pieces_within, pieces_of}
use Rattle.paper.specs.Paths.{step_of, steps_of, path_of}
use Rattle.paper.specs.Standing.{Step, by_index}
use Rattle.paper.specs.Words.{given, and_then, is_there}
use Rattle.frames.proofs.FrameLaws.{pieces_by, pieces_at, frame_fits}

-- ---- a path by its first piece

-- What a piece and the path behind it come to.
unfoldable pub step_then : Option Step → Option (List Step) → Option (List Step)
step_then first rest = and_then first λ step. and_then rest λ steps. Some (step ∷ steps)

module _ (s : List ℕ) (i : ℕ) (h : i < length s) where
  -- no frame stands there
  pub path_cut : frame_end s i ≡ None → path_of (drop i s) ≡ None
  unfolding path_of pieces_by and_then
  path_cut e = rw (pieces_at s i h, e)

  -- the piece of a frame, and what lies behind its end
  pub path_more : (end : ℕ) → frame_end s i ≡ Some end → path_of (drop i s) ≡ step_then (step_of (piece_in s i end)) (path_of (drop end s))
  unfolding path_of pieces_by steps_of step_then and_then
  path_more end e = rw (pieces_at s i h, e) (go (pieces_of (drop end s)) (step_of (piece_in s i end)) refl)
    where
      go : (more : Option (List Piece)) (first : Option Step) → step_of (piece_in s i end) ≡ first
          → and_then (and_then more λ pieces. Some (piece_in s i end ∷ pieces)) steps_of ≡ step_then first (and_then more steps_of)
      go None None e = refl
      go None (Some step) e = refl
      go (Some pieces) first e = rw e

-- A path of no bytes has no steps.
pub path_ended : (s : List ℕ) (i : ℕ) → length s ≤ i → path_of (drop i s) ≡ Some []
unfolding path_of pieces_of pieces_within steps_of and_then
path_ended s i h = rw (drop_of_length-le s h)

-- ---- a piece is a step

module _ (tag : ℕ) (body : List ℕ) where
  pub step_name : tag ≡ 0x60 → true ≡ is_there (step_of (record { tag = tag; body = body }))
  unfolding step_of is_there
  step_name e = rw (eq-eqb tag 0x60 e)

  pub step_index : (tag ≡ 0x60 → ⊥) → tag ≡ 0x61 → eqb (length body) 2 ≡ is_there (step_of (record { tag = tag; body = body }))
  unfolding step_of is_there given
  step_index h e = rw (ne_eqb tag 0x60 h, eq-eqb tag 0x61 e) (go (eqb (length body) 2))
    where
      go : (b : Bool) → b ≡ is_there (given b (Some (by_index (number body))))
      go true = refl
      go false = refl

  pub step_neither : (tag ≡ 0x60 → ⊥) → (tag ≡ 0x61 → ⊥) → false ≡ is_there (step_of (record { tag = tag; body = body }))
  unfolding step_of is_there given
  step_neither h k = rw (ne_eqb tag 0x60 h, ne_eqb tag 0x61 k)

-- ---- the loop over the pieces

-- Up to a place the path is one: what is left decides.
pub record PathSeen (s : List ℕ) (i : ℕ) : Type 0 where
  pub within : i ≤ length s
  pub whole_is : is_there (path_of s) ≡ is_there (path_of (drop i s))

pub path_start : (s : List ℕ) → PathSeen s 0
path_start s = record { within = omega arith; whole_is = refl }

module _ {s : List ℕ} {i : ℕ} (seen : PathSeen s i) where
  pub path_done : length s ≤ i → true ≡ is_there (path_of s)
  unfolding is_there
  path_done past = sym (seen.whole_is ∙ ap is_there (path_ended s i past))

  module _ (h : i < length s) {r : Option ℕ} (told : r ≡ frame_end s i) where
    pub path_past : r ≡ None → false ≡ is_there (path_of s)
    unfolding is_there
    path_past e = sym (seen.whole_is ∙ ap is_there (path_cut s i h (sym told ∙ e)))

    module _ {end : ℕ} (e : r ≡ Some end) where
      pub piece_inside : (i + 3 ≤ end) × (end ≤ length s)
      piece_inside = frame_fits s i end (sym told ∙ e)

      module _ {b : Bool} (judged : b ≡ is_there (step_of (piece_in s i end))) where
        left : is_there (path_of s) ≡ b && is_there (path_of (drop end s))
        unfolding step_then and_then is_there
        left = seen.whole_is ∙ ap is_there (path_more s i h end (sym told ∙ e)) ∙ go (step_of (piece_in s i end)) (path_of (drop end s)) ∙ rw judged
          where
            go : (first : Option Step) (rest : Option (List Step)) → is_there (step_then first rest) ≡ is_there first && is_there rest
            go None rest = refl
            go (Some step) None = refl
            go (Some step) (Some steps) = refl

        pub path_bad : b ≡ false → false ≡ is_there (path_of s)
        path_bad f = sym (left ∙ rw f)

        pub path_next : b ≡ true → PathSeen s end
        path_next f = record { within = piece_inside.1; whole_is = left ∙ rw f }
