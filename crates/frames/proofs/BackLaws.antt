-- A frame that is written is read back as its piece, in front of whatever stands behind it.
use Rattle.std.specs.Prelude.{Some}
use mathlib.Core.List.{List, [], ◌∷◌, ◌++◌, append_assoc, append-nil}
use mathlib.Core.Path.{◌≡◌, refl, sym, ap, ◌∙◌}
use Prim.Native.Nat.{ℕ, ◌+◌, ◌-◌, ◌<◌}
use native.Mathlib.Omega.{arith}
use borrow.Author.Tests.{le-leb}
use lib.ListN.{length, length-append}
use lib.Seq.{take_at, drop_at}
use Rattle.numbers.proofs.NumberLaws.{length-number_bytes, read_back}
use Rattle.numbers.specs.Little.{number_bytes, number_at}
use Rattle.paper.specs.Framing.{pieces_within, pieces_of, frame}
use Rattle.paper.specs.Words.{part, given, and_then}
use Rattle.frames.proofs.PieceLaws.{piece_then, pieces_cons}

pub length_frame : (tag : ℕ) (body : List ℕ) → length (frame tag body) ≡ 3 + length body
unfolding frame
length_frame tag body = rw (length-append (number_bytes 2 (length body)) body, length-number_bytes) (omega arith)

module _ (tag : ℕ) (body rest : List ℕ) (fits : length body < 65536) where
  pub pieces_frame : pieces_of (frame tag body ++ rest) ≡ piece_then (record { tag = tag; body = body }) (pieces_of rest)
  unfolding frame number_at given
  pieces_frame =
      let size : ℕ = length body in
      let head : List ℕ = number_bytes 2 size in
      let width : length head ≡ 2 = length-number_bytes 2 size in
      let both : length (head ++ body) ≡ 2 + size = omega (arith, length-append head body) in
      let long : length (head ++ body ++ rest) ≡ 2 + size + length rest = omega (arith, length-append (head ++ body) rest) in
      let apart : head ++ body ++ rest ≡ head ++ (body ++ rest) = append_assoc head body rest in
      let reads : number_at (head ++ body ++ rest) 0 2 ≡ size = rw (apart, take_at head (body ++ rest) 2 width) (read_back 2 size fits) in
      let room : 2 + size - 2 ≡ size = omega arith in
      let inside : part (head ++ body ++ rest) 2 (2 + size) ≡ body = rw (apart, drop_at head (body ++ rest) 2 width, room) (take_at body rest size refl) in
      pieces_cons tag (head ++ body ++ rest) size reads
      ∙ rw (inside, drop_at (head ++ body) rest (2 + size) both, long, le-leb 2 (2 + size + length rest) (omega arith), le-leb (2 + size) (2 + size + length rest) (omega arith))

pub frame_alone : (tag : ℕ) (body : List ℕ) → length body < 65536 → pieces_of (frame tag body) ≡ Some (record { tag = tag; body = body } ∷ [])
unfolding piece_then and_then pieces_of pieces_within
frame_alone tag body fits = ap pieces_of (sym (append-nil (frame tag body))) ∙ rw (pieces_frame tag body [] fits)
