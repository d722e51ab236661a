-- The frames of a place's body: what the splitting tells, forwards for its code and backwards for those who call it.
use Rattle.std.specs.Prelude.{Option, None, Some}
use mathlib.Core.Bool.{Bool, true, false, cond, ◌&&◌}
use mathlib.Core.List.{List, [], ◌∷◌}
use mathlib.Core.Path.{◌≡◌, refl, sym, ◌∙◌}
use Prim.Native.Nat.{ℕ, ◌+◌, ◌-◌, ◌≤◌, ◌<◌}
use native.Mathlib.Omega.{arith}
use borrow.Author.Tests.{ne_eqb}
use lib.Dec.{eqb}
use lib.ListN.{length, take, drop, length-take, length-drop}
use Rattle.frames.specs.Frames.{frame_end, piece_in}
use Rattle.paper.specs.Framing.{Piece, pieces_of}
use Rattle.paper.specs.Words.{at, and_then}
use Rattle.frames.proofs.FrameLaws.{pieces_by, pieces_at, pieces_ended, pieces_end_is, frame_cut, frame_ends, frame_fits}
use Rattle.places.specs.Parts.{part_by, parts_in, parts_by, parts_of}
use Rattle.places.specs.declared.parts.Parts.{Parts}
use Rattle.places.specs.declared.parts.Parts.TheVariants.{Empty, Leftover, Typed as TypedPart, Both, Unframed}

-- ---- the pieces of a body

-- Bytes that are left have at least one piece, or are not framed.
pub some_piece : (s : List ℕ) (place : ℕ) → place < length s → pieces_of (drop place s) ≡ Some [] → ⊥
some_piece s place h e = let ended = pieces_end_is s place e in omega arith

module _ (body : List ℕ) where
  pub parts_empty : length body ≡ 0 → Empty ≡ parts_of body
  unfolding parts_of parts_by parts_in
  parts_empty e = let none_left : pieces_of body ≡ Some [] = pieces_ended body 0 (omega arith) in rw none_left

  pub parts_cut : (length body ≡ 0 → ⊥) → frame_end body 0 ≡ None → Unframed ≡ parts_of body
  unfolding parts_of parts_by pieces_by
  parts_cut some_bytes e =
      let are : pieces_of body ≡ None = pieces_at body 0 (omega arith) ∙ rw e in rw are

  module _ (end : ℕ) (first : frame_end body 0 ≡ Some end) where
    pub ends : (0 + 3 ≤ end) × (end ≤ length body)
    ends = frame_fits body 0 end first

    pub pieces_first : pieces_of body ≡ and_then (pieces_of (drop end body)) λ more. Some (piece_in body 0 end ∷ more)
    unfolding pieces_by
    pieces_first = let fits = ends in pieces_at body 0 (omega arith) ∙ rw first

    one_piece_lem : end ≡ length body → pieces_of body ≡ Some (piece_in body 0 end ∷ [])
    unfolding and_then
    one_piece_lem e = pieces_first ∙ rw (pieces_ended body end (omega arith))

    pub parts_one : end ≡ length body → parts_of body ≡ part_by (at body 0)
    unfolding parts_of parts_by parts_in
    parts_one e = rw (one_piece_lem e)

    module _ (more : end < length body) where
      -- Whatever follows, the first of two or more pieces is a leftover, or nothing fits.
      pub parts_other : (at body 0 ≡ 0x41 → ⊥) → Unframed ≡ parts_of body
      unfolding parts_of parts_by parts_in and_then
      parts_other other = go (pieces_of (drop end body)) refl
        where
          go : (x : Option (List Piece)) → pieces_of (drop end body) ≡ x → Unframed ≡ parts_by (pieces_of body)
          go None e = rw (pieces_first, e)
          go (Some []) e = absurd (some_piece body end more e)
          go (Some (second ∷ [])) e = rw (pieces_first, e, ne_eqb (at body 0) 0x41 other)
          go (Some (second ∷ third ∷ rest)) e = rw (pieces_first, e)

      pub parts_second_cut : frame_end body end ≡ None → Unframed ≡ parts_of body
      unfolding parts_of parts_by pieces_by and_then
      parts_second_cut e =
          let behind : pieces_of (drop end body) ≡ None = pieces_at body end more ∙ rw e in rw (pieces_first, behind)

      module _ (last : ℕ) (second : frame_end body end ≡ Some last) where
        pub pieces_second : pieces_of body
            ≡ and_then (and_then (pieces_of (drop last body)) λ rest. Some (piece_in body end last ∷ rest)) λ more. Some (piece_in body 0 end ∷ more)
        unfolding pieces_by
        pieces_second = pieces_first ∙ rw (pieces_at body end more, second)

        pub two_pieces : last ≡ length body → pieces_of body ≡ Some (piece_in body 0 end ∷ piece_in body end last ∷ [])
        unfolding and_then
        two_pieces e = pieces_second ∙ rw (pieces_ended body last (omega arith))

        pub parts_both : last ≡ length body → at body 0 ≡ 0x41 → at body end ≡ 0x42 → Both end ≡ parts_of body
        unfolding parts_of parts_by parts_in
        parts_both e left right =
            let fits = ends in
            let size : 3 + length (take (end - 3) (drop 3 body)) ≡ end = rw (length-take, length-drop) (omega arith) in
            rw (two_pieces e, left, right, size)

        pub parts_three : last < length body → Unframed ≡ parts_of body
        unfolding parts_of parts_by parts_in and_then
        parts_three h = go (pieces_of (drop last body)) refl
          where
            go : (x : Option (List Piece)) → pieces_of (drop last body) ≡ x → Unframed ≡ parts_by (pieces_of body)
            go None e = rw (pieces_second, e)
            go (Some []) e = absurd (some_piece body last h e)
            go (Some (third ∷ rest)) e = rw (pieces_second, e)

      pub parts_second : (at body end ≡ 0x42 → ⊥) → Unframed ≡ parts_of body
      unfolding parts_of parts_by parts_in and_then pieces_by
      parts_second other = go (frame_end body end) refl
        where
          within : (last : ℕ) (x : Option (List Piece)) → pieces_of (drop last body) ≡ x → frame_end body end ≡ Some last → Unframed ≡ parts_by (pieces_of body)
          within last None e f = rw (pieces_second last f, e)
          within last (Some []) e f = rw (pieces_second last f, e, ne_eqb (at body end) 0x42 other) (go_either (eqb (at body 0) 0x41))
            where
              go_either : (b : Bool) → Unframed ≡ cond (b && false) (Both (3 + length (take (end - 3) (drop 3 body)))) Unframed
              go_either true = refl
              go_either false = refl
          within last (Some (third ∷ rest)) e f = rw (pieces_second last f, e)

          go : (x : Option ℕ) → frame_end body end ≡ x → Unframed ≡ parts_by (pieces_of body)
          go None e = parts_second_cut e
          go (Some last) e = within last (pieces_of (drop last body)) refl e

-- ---- for the code: by the frames that it was told

pub only_leftover : (tag : ℕ) → tag ≡ 0x41 → Leftover ≡ part_by tag
unfolding part_by
only_leftover tag e = rw e

pub only_typed : (tag : ℕ) → tag ≡ 0x42 → TypedPart ≡ part_by tag
unfolding part_by
only_typed tag e = rw e

pub only_neither : (tag : ℕ) → (tag ≡ 0x41 → ⊥) → (tag ≡ 0x42 → ⊥) → Unframed ≡ part_by tag
unfolding part_by
only_neither tag left right = rw (ne_eqb tag 0x41 left, ne_eqb tag 0x42 right)

module _ (body : List ℕ) (some_bytes : length body ≡ 0 → ⊥) (r : Option ℕ) (told : r ≡ frame_end body 0) where
  pub split_cut : r ≡ None → Unframed ≡ parts_of body
  split_cut e = parts_cut body some_bytes (frame_cut body 0 r told e)

  module _ (end : ℕ) (e : r ≡ Some end) where
    pub first_ends : frame_end body 0 ≡ Some end
    first_ends = frame_ends body 0 end r told e

    pub split_one : length body ≤ end → (p : Parts) → p ≡ part_by (at body 0) → p ≡ parts_of body
    split_one all p is = is ∙ sym (parts_one body end first_ends (let fits = (frame_fits body 0 end first_ends).1 in omega arith))

    pub split_other : end < length body → (at body 0 ≡ 0x41 → ⊥) → Unframed ≡ parts_of body
    split_other more = parts_other body end first_ends more

module _ (body : List ℕ) (end : ℕ) (first : frame_end body 0 ≡ Some end) (more : end < length body) (r : Option ℕ) (told : r ≡ frame_end body end) where
  pub second_cut : r ≡ None → Unframed ≡ parts_of body
  second_cut e = parts_second_cut body end first more (frame_cut body end r told e)

  module _ (last : ℕ) (e : r ≡ Some last) where
    second_ends : frame_end body end ≡ Some last
    second_ends = frame_ends body end last r told e

    pub third_follows : last < length body → Unframed ≡ parts_of body
    third_follows = parts_three body end first more last second_ends

    pub both_there : length body ≤ last → at body 0 ≡ 0x41 → at body end ≡ 0x42 → Both end ≡ parts_of body
    both_there all =
        parts_both body end first more last second_ends (let fits = (frame_fits body end last second_ends).1 in omega arith)
