-- Places that are written are read back as their pieces, and a place's parts as what it holds, by what reads a typed body.
use Rattle.std.specs.Prelude.{Option, Some}
use mathlib.Core.List.{List, [], ◌∷◌, ◌++◌}
use mathlib.Core.Path.{◌≡◌, refl, ap, ◌∙◌}
use Prim.Native.Nat.{ℕ, ◌+◌, ◌<◌}
use native.Mathlib.Omega.{arith}
use lib.ListN.{length, length-append}
use Rattle.frames.proofs.BackLaws.{length_frame, pieces_frame, frame_alone}
use Rattle.frames.proofs.PieceLaws.{piece_then}
use Rattle.paper.specs.Framing.{Piece, pieces_within, pieces_of, frame}
use Rattle.paper.specs.Meaning.{Doc}
use Rattle.paper.specs.Metadata.{Dictionary}
use Rattle.paper.specs.Normal.{value_bytes}
use Rattle.paper.specs.Rows.{Place, empty, leftover, typed, both, Typed, inner, Places, no_places, place, leftover_meaning, place_parts, place_by, place_within, inner_body}
use Rattle.paper.specs.Shredding.{place_bytes, typed_bytes, places_bytes}
use Rattle.paper.specs.Words.{given, and_then}

-- ---- a place and its piece

module _ (names : Dictionary) where
  unfoldable pub place_body : Place → List ℕ
  place_body empty = []
  place_body (leftover d) = frame 0x41 (value_bytes names d)
  place_body (typed t) = frame 0x42 (typed_bytes names t)
  place_body (both d t) = frame 0x41 (value_bytes names d) ++ frame 0x42 (typed_bytes names t)

  abbrev pub place_piece : Place → Piece
  place_piece p = record { tag = 0x50; body = place_body p }

  unfoldable pub place_pieces : Places → List Piece
  place_pieces no_places = []
  place_pieces (place p ps) = place_piece p ∷ place_pieces ps

  pub place_frame : (p : Place) → place_bytes names p ≡ frame 0x50 (place_body p)
  unfolding place_bytes place_body
  place_frame empty = refl
  place_frame (leftover d) = refl
  place_frame (typed t) = refl
  place_frame (both d t) = refl

  pub place_length : (p : Place) → length (place_bytes names p) ≡ 3 + length (place_body p)
  place_length p = ap length (place_frame p) ∙ length_frame 0x50 (place_body p)

  pub places_length : (p : Place) (ps : Places) → length (places_bytes names (place p ps)) ≡ 3 + length (place_body p) + length (places_bytes names ps)
  unfolding places_bytes
  places_length p ps = omega (arith, length-append (place_bytes names p) (places_bytes names ps), place_length p)

  places_pieces : (ps : Places) → length (places_bytes names ps) < 65536 → pieces_of (places_bytes names ps) ≡ Some (place_pieces ps)
  unfolding places_bytes place_pieces pieces_of pieces_within piece_then and_then
  places_pieces no_places fits = refl
  places_pieces (place p ps) fits =
      let size = places_length p ps in
      ap (λ (s : List ℕ). pieces_of (s ++ places_bytes names ps)) (place_frame p)
      ∙ rw (pieces_frame 0x50 (place_body p) (places_bytes names ps) (omega arith), places_pieces ps (omega arith))

  -- ---- what a place holds

  module _ (levels : ℕ) (right : List ℕ → Option Typed) where
    pub empty_back : place_within levels names right (place_piece empty) ≡ Some empty
    unfolding place_within place_by place_parts place_body pieces_of pieces_within given and_then
    empty_back = refl

    pub leftover_back : (d : Doc) → leftover_meaning levels names (value_bytes names d) ≡ Some d → length (place_body (leftover d)) < 65536
        → place_within levels names right (place_piece (leftover d)) ≡ Some (leftover d)
    unfolding place_within place_by place_parts place_body given and_then
    leftover_back d means fits =
        let size = length_frame 0x41 (value_bytes names d) in
        rw (frame_alone 0x41 (value_bytes names d) (omega arith), means)

    pub typed_back : (t : Typed) → right (typed_bytes names t) ≡ Some t → length (place_body (typed t)) < 65536
        → place_within levels names right (place_piece (typed t)) ≡ Some (typed t)
    unfolding place_within place_by place_parts place_body given and_then
    typed_back t means fits =
        let size = length_frame 0x42 (typed_bytes names t) in
        rw (frame_alone 0x42 (typed_bytes names t) (omega arith), means)

    pub both_back : (d : Doc) (t : Typed) → leftover_meaning levels names (value_bytes names d) ≡ Some d → right (typed_bytes names t) ≡ Some t
        → length (place_body (both d t)) < 65536 → place_within levels names right (place_piece (both d t)) ≡ Some (both d t)
    unfolding place_within place_by place_parts place_body given and_then piece_then
    both_back d t left_means means fits =
        let left_size = length_frame 0x41 (value_bytes names d) in
        let size = length_frame 0x42 (typed_bytes names t) in
        let all = length-append (frame 0x41 (value_bytes names d)) (frame 0x42 (typed_bytes names t)) in
        rw (
          pieces_frame 0x41 (value_bytes names d) (frame 0x42 (typed_bytes names t)) (omega arith),
          frame_alone 0x42 (typed_bytes names t) (omega arith),
          left_means,
          means,
        )

  pub inner_back : (read : List Piece → Option Places) (ps : Places) → read (place_pieces ps) ≡ Some ps → length (places_bytes names ps) < 65536
      → inner_body read (typed_bytes names (inner ps)) ≡ Some (inner ps)
  unfolding inner_body typed_bytes and_then
  inner_back read ps means fits = rw (places_pieces ps fits, means)
