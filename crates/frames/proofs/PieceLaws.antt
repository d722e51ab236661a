-- The pieces between two positions of some bytes: they are pieces exactly when a whole frame stands at the first, and the bytes
-- behind it are pieces.
use Rattle.std.specs.Prelude.{Option, Some}
use mathlib.Core.Bool.{Bool, true, false, ◌&&◌}
use mathlib.Core.List.{List, [], ◌∷◌}
use mathlib.Core.Path.{◌≡◌, refl, sym, ap, ◌∙◌}
use Prim.Native.Nat.{ℕ, zero, suc, ◌+◌, ◌-◌, ◌≤◌, ◌<◌}
use native.Mathlib.Omega.{arith}
use borrow.Author.Tests.{le-leb, lt-leb, leb-true, leb-false}
use lib.Dec.{leb}
use lib.ListN.{length, take, drop, length-drop}
use lib.Seq.{take_all, take-nil, take-take, length-take-le, drop-drop, drop-cons}
use Rattle.numbers.specs.Little.{number_at}
use Rattle.paper.specs.Framing.{Piece, pieces_within, pieces_of}
use Rattle.paper.specs.Words.{at, part, given, and_then}
use Rattle.frames.specs.Frames.{end_at, piece_in}

-- ---- the bytes between two positions

module _ (s : List ℕ) (from to : ℕ) (within : to ≤ length s) where
  pub length_part : length (part s from to) ≡ to - from
  length_part = length-take-le (to - from) (drop from s) (rw length-drop (omega arith))

  pub part_cons : from < to → part s from to ≡ at s from ∷ part s (suc from) to
  part_cons h = let e : to - from ≡ suc (to - suc from) = omega arith in rw (e, drop-cons s from 0 (omega arith))

pub part_none : (s : List ℕ) (from to : ℕ) → to ≤ from → part s from to ≡ []
part_none s from to h = let e : to - from ≡ 0 = omega arith in rw e

drop_take : (n m : ℕ) (s : List ℕ) → drop n (take m s) ≡ take (m - n) (drop n s)
drop_take zero m s = let e : m - 0 ≡ m = omega arith in rw e
drop_take (suc n) zero s = let e : 0 - suc n ≡ 0 = omega arith in rw e
drop_take (suc n) (suc m) [] = sym (take-nil (suc m - suc n))
drop_take (suc n) (suc m) (b ∷ s) = let e : suc m - suc n ≡ m - n = omega arith in rw e (drop_take n m s)

-- A part from a later position on, and up to an earlier one.
pub part_later : (s : List ℕ) (from to n : ℕ) → drop n (part s from to) ≡ part s (from + n) to
part_later s from to n = let e : to - from - n ≡ to - (from + n) = omega arith in drop_take n (to - from) (drop from s) ∙ rw (drop-drop, e)

pub part_earlier : (s : List ℕ) (from to n : ℕ) → from + n ≤ to → take n (part s from to) ≡ take n (drop from s)
part_earlier s from to n h = take-take n (to - from) (drop from s) (omega arith)

number_part : (s : List ℕ) (from to : ℕ) → from + 2 ≤ to → number_at (part s from to) 0 2 ≡ number_at s from 2
unfolding number_at
number_part s from to h = rw (part_earlier s from to 2 h)

pub part_rest : (s : List ℕ) (from : ℕ) → part s from (length s) ≡ drop from s
part_rest s from = take_all (length s - from) (drop from s) (rw length-drop (omega arith))

-- ---- pieces

-- As many pieces may be asked for as there are bytes, or more: it is the same.
pub pieces_more : (n m : ℕ) (s : List ℕ) → length s ≤ n → length s ≤ m → pieces_within n s ≡ pieces_within m s
unfolding pieces_within
pieces_more zero zero s h k = refl
pieces_more zero (suc m) [] h k = refl
pieces_more zero (suc m) (tag ∷ rest) h k = absurd (omega arith)
pieces_more (suc n) zero [] h k = refl
pieces_more (suc n) zero (tag ∷ rest) h k = absurd (omega arith)
pieces_more (suc n) (suc m) [] h k = refl
pieces_more (suc n) (suc m) (tag ∷ rest) h k =
    let size : ℕ = number_at rest 0 2 in
    ap
    (λ (x : Option (List Piece)). given (leb 2 (length rest) && leb (2 + size) (length rest))
    (and_then x λ more. Some (record { tag = tag; body = part rest 2 (2 + size) } ∷ more)))
    (pieces_more n m (drop (2 + size) rest) (rw length-drop (omega arith)) (rw length-drop (omega arith)))

pub pieces_none : (s : List ℕ) (from to : ℕ) → to ≤ from → pieces_of (part s from to) ≡ Some []
unfolding pieces_of pieces_within
pieces_none s from to h = rw (part_none s from to h)

-- A piece and those behind it.
unfoldable pub piece_then : Piece → Option (List Piece) → Option (List Piece)
piece_then piece rest = and_then rest λ more. Some (piece ∷ more)

pub pieces_cons : (tag : ℕ) (rest : List ℕ) (size : ℕ) → number_at rest 0 2 ≡ size
    → pieces_of (tag ∷ rest)
    ≡ given (leb 2 (length rest) && leb (2 + size) (length rest)) (piece_then (record { tag = tag; body = part rest 2 (2 + size) }) (pieces_of (drop (2 + size) rest)))
unfolding pieces_of pieces_within piece_then
pieces_cons tag rest size e =
    rw (e, pieces_more (length rest) (length (drop (2 + size) rest)) (drop (2 + size) rest) (rw length-drop (omega arith)) (omega arith))

module _ (s : List ℕ) (from to : ℕ) (within : to ≤ length s) where
  length_behind : length (part s (suc from) to) ≡ to - suc from
  length_behind = length_part s (suc from) to within

  -- The size of the frame, read behind its tag.
  module _ (head : from + 3 ≤ to) where
    size_behind : number_at (part s (suc from) to) 0 2 ≡ number_at s (from + 1) 2
    size_behind = let one : suc from ≡ from + 1 = omega arith in number_part s (suc from) to (omega arith) ∙ ap (λ (p : ℕ). number_at s p 2) one

    pieces_head : pieces_of (part s from to)
        ≡ given (leb (2 + number_at s (from + 1) 2) (to - suc from))
        (piece_then (record { tag = at s from; body = part (part s (suc from) to) 2 (2 + number_at s (from + 1) 2) }) (pieces_of (drop (2 + number_at s (from + 1) 2) (part s (suc from) to))))
    pieces_head =
        ap pieces_of (part_cons s from to within (omega arith)) ∙ pieces_cons (at s from) (part s (suc from) to) (number_at s (from + 1) 2) size_behind
        ∙ rw (length_behind, le-leb 2 (to - suc from) (omega arith))

  pub pieces_next : end_at s from ≤ to → pieces_of (part s from to) ≡ piece_then (piece_in s from (end_at s from)) (pieces_of (part s (end_at s from) to))
  unfolding given
  pieces_next h =
      let size : ℕ = number_at s (from + 1) 2 in
      let third : suc from + 2 ≡ from + 3 = omega arith in
      let end : suc from + (2 + size) ≡ end_at s from = omega arith in
      let room : 2 + size - 2 ≡ end_at s from - (from + 3) = omega arith in
      pieces_head (omega arith)
      ∙ rw (le-leb (2 + size) (to - suc from) (omega arith), part_later s (suc from) to (2 + size), end, part_later s (suc from) to 2, third, room, part_earlier s (from + 3) to (end_at s from - (from + 3)) (omega arith))

  pub pieces_between : from < to → pieces_of (part s from to) ≡ given (leb (from + 3) to && leb (end_at s from) to) (piece_then (piece_in s from (end_at s from)) (pieces_of (part s (end_at s from) to)))
  unfolding given
  pieces_between h = go (leb (from + 3) to) refl (leb (end_at s from) to) refl
    where
      go : (a : Bool) → leb (from + 3) to ≡ a → (b : Bool) → leb (end_at s from) to ≡ b
          → pieces_of (part s from to) ≡ given (a && b) (piece_then (piece_in s from (end_at s from)) (pieces_of (part s (end_at s from) to)))
      go false e b f =
          let short : to < from + 3 = leb-false (from + 3) to e in
          ap pieces_of (part_cons s from to within h) ∙ pieces_cons (at s from) (part s (suc from) to) (number_at (part s (suc from) to) 0 2) refl
          ∙ rw (length_behind, lt-leb 2 (to - suc from) (omega arith))
      go true e false f =
          let past : to < end_at s from = leb-false (end_at s from) to f in
          pieces_head (leb-true (from + 3) to e) ∙ rw (lt-leb (2 + number_at s (from + 1) 2) (to - suc from) (omega arith))
      go true e true f = pieces_next (leb-true (end_at s from) to f)
