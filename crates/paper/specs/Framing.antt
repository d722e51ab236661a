-- "House framing: one-byte tag, two-byte length" (01).
use Rattle.std.specs.Prelude.{◌&&◌, List, [], ◌∷◌, ◌++◌, ℕ, zero, suc, ◌+◌, leb, length, drop, Option, None, Some}
use Rattle.numbers.specs.Little.{number_at, number_bytes}
use Rattle.paper.specs.Words.{part, given, and_then}

pub record Piece : Type 0 where
  pub tag : ℕ
  pub body : List ℕ

-- Bytes as framed pieces one after another, at most so many.
unfoldable pub pieces_within : ℕ → List ℕ → Option (List Piece)
pieces_within zero [] = Some []
pieces_within zero (tag ∷ rest) = None
pieces_within (suc most) [] = Some []
pieces_within (suc most) (tag ∷ rest) =
    let size = number_at rest 0 2 in
    given (leb 2 (length rest) && leb (2 + size) (length rest))
    (and_then (pieces_within most (drop (2 + size) rest)) λ more. Some (record { tag = tag; body = part rest 2 (2 + size) } ∷ more))

-- Bytes hold no more pieces than bytes.
unfoldable pub pieces_of : List ℕ → Option (List Piece)
pieces_of s = pieces_within (length s) s

-- Bytes that are one piece.
unfoldable pub only : List Piece → Option Piece
only [] = None
only (piece ∷ []) = Some piece
only (piece ∷ other ∷ more) = None

unfoldable pub one_piece : List ℕ → Option Piece
one_piece s = and_then (pieces_of s) only

-- A piece written.
unfoldable pub frame : (tag : ℕ) → List ℕ → List ℕ
frame tag body = tag ∷ number_bytes 2 (length body) ++ body
