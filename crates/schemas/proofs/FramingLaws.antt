-- Framed pieces by position: the bytes between two positions, one frame at a time, and when they are one piece.
use Rattle.std.specs.Prelude.{Option, None, Some}
use mathlib.Core.Bool.{Bool, true, false}
use mathlib.Core.List.{List}
use mathlib.Core.Path.{◌≡◌, refl}
use Prim.Native.Nat.{ℕ, ◌+◌, ◌≤◌, ◌<◌}
use native.Mathlib.Omega.{arith}
use borrow.Author.Tests.{leb-true, leb-false}
use lib.Dec.{leb}
use lib.ListN.{length}
use Rattle.paper.specs.Framing.{Piece, pieces_of, only, one_piece}
use Rattle.paper.specs.Words.{part, given, and_then}
use Rattle.frames.proofs.PieceLaws.{pieces_none, piece_then, pieces_next, pieces_between}
use Rattle.paper.proofs.WordLaws.{and_both}
use Rattle.schemas.specs.Frames.{frame_end, piece_at, frame_within}

-- ---- a frame at the first

pub frame_ends : (s : List ℕ) (place end : ℕ) → frame_within s place end ≡ true → frame_end s place ≤ end
unfolding frame_within
frame_ends s place end e = leb-true (frame_end s place) end (and_both (leb (place + 3) end) (leb (frame_end s place) end) e).1

pub pieces_step : (s : List ℕ) (from to : ℕ) → to ≤ length s → from < to
    → pieces_of (part s from to) ≡ given (frame_within s from to) (piece_then (piece_at s from) (pieces_of (part s (frame_end s from) to)))
unfolding frame_within
pieces_step s from to within h = pieces_between s from to within h

-- ---- one piece

two_not_one : (first second : Piece) (framed : Bool) (rest : Option (List Piece)) → and_then (piece_then first (given framed (piece_then second rest))) only ≡ None
unfolding piece_then given and_then only
two_not_one first second false rest = refl
two_not_one first second true None = refl
two_not_one first second true (Some more) = refl

module _ (s : List ℕ) (from to : ℕ) (within : to ≤ length s) where
  pub one_piece_lem : frame_end s from ≡ to → one_piece (part s from to) ≡ Some (piece_at s from)
  unfolding one_piece only piece_then and_then
  one_piece_lem e = rw (pieces_next s from to within (omega arith), pieces_none s (frame_end s from) to (omega arith))

  pub one_not : (frame_end s from ≡ to → ⊥) → one_piece (part s from to) ≡ None
  unfolding one_piece given and_then only
  one_not h = go (leb to from) refl
    where
      framed : from < to → (b : Bool) → frame_within s from to ≡ b → and_then (given b (piece_then (piece_at s from) (pieces_of (part s (frame_end s from) to)))) only ≡ None
      framed k false e = refl
      framed k true e =
          let ends : frame_end s from ≤ to = frame_ends s from to e in
          let before : frame_end s from < to = omega arith in
          rw (pieces_step s (frame_end s from) to within before) (two_not_one (piece_at s from) (piece_at s (frame_end s from)) (frame_within s (frame_end s from) to) (pieces_of (part s (frame_end s (frame_end s from)) to)))

      go : (b : Bool) → leb to from ≡ b → and_then (pieces_of (part s from to)) only ≡ None
      go true e = rw (pieces_none s from to (leb-true to from e))
      go false e = let k : from < to = leb-false to from e in rw (pieces_step s from to within k) (framed k (frame_within s from to) refl)
