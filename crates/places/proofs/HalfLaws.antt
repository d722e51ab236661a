-- A row of two frames: what its splitting tells, and what the row comes to by its two halves.
use Rattle.std.specs.Prelude.{Option, None, Some}
use mathlib.Core.Bool.{◌&&◌}
use mathlib.Core.List.{List, [], ◌∷◌}
use mathlib.Core.Path.{◌≡◌, refl, sym, ◌∙◌}
use Prim.Native.Nat.{ℕ, ◌+◌, ◌-◌, ◌≤◌, ◌<◌}
use native.Mathlib.Omega.{arith}
use borrow.Author.Tests.{ne_eqb, le-leb, lt-leb}
use lib.Dec.{leb, eqb}
use lib.ListN.{length, take, drop, length-take, length-drop}
use Rattle.frames.specs.Frames.{frame_end, piece_in}
use Rattle.paper.specs.Framing.{Piece, pieces_of}
use Rattle.paper.specs.Limits.{most_metadata, most_levels}
use Rattle.paper.specs.Metadata.{Dictionary, dictionary_of}
use Rattle.paper.specs.Rows.{Place, place_within, place_by, place_under, row_parts, row_of}
use Rattle.paper.specs.Rules.{place_lawful, row_lawful}
use Rattle.paper.specs.Schemas.{Schema}
use Rattle.paper.specs.Words.{at, part, given, and_then}
use Rattle.frames.proofs.FrameLaws.{pieces_by, pieces_at, pieces_ended, frame_cut, frame_ends, frame_fits, two_frames}
use Rattle.places.proofs.PartLaws.{ends, pieces_first, pieces_second, two_pieces, some_piece}
use Rattle.places.proofs.VerdictLaws.{place_under_lem}
use Rattle.places.specs.Halves.{middle_in, middle_of}
use Rattle.places.specs.Verdicts.{verdict_of, place_verdict, row_verdict}
use Rattle.places.specs.declared.verdicts.Verdict.TheVariants.{Unparsed}

-- ---- for the code

pub halves_none : (s : List ℕ) → length s ≡ 0 → None ≡ middle_of s
unfolding middle_of middle_in and_then
halves_none s e = let none_left : pieces_of s ≡ Some [] = pieces_ended s 0 (omega arith) in rw none_left

module _ (s : List ℕ) (some_bytes : length s ≡ 0 → ⊥) (r : Option ℕ) (told : r ≡ frame_end s 0) where
  pub halves_cut : r ≡ None → None ≡ middle_of s
  unfolding middle_of and_then pieces_by
  halves_cut e = let are : pieces_of s ≡ None = pieces_at s 0 (omega arith) ∙ rw (frame_cut s 0 r told e) in rw are

  module _ (middle : ℕ) (e : r ≡ Some middle) where
    pub half_ends : frame_end s 0 ≡ Some middle
    half_ends = frame_ends s 0 middle r told e

    pub halves_one : length s ≤ middle → None ≡ middle_of s
    unfolding middle_of middle_in and_then
    halves_one all =
        let none_left : pieces_of (drop middle s) ≡ Some [] = pieces_ended s middle all in
        let are : pieces_of s ≡ Some (piece_in s 0 middle ∷ []) = pieces_first s middle half_ends ∙ rw none_left in
        rw are

module _ (s : List ℕ) (middle : ℕ) (first : frame_end s 0 ≡ Some middle) (more : middle < length s) (r : Option ℕ) (told : r ≡ frame_end s middle) where
  pub second_half_cut : r ≡ None → None ≡ middle_of s
  unfolding middle_of and_then pieces_by
  second_half_cut e =
      let behind : pieces_of (drop middle s) ≡ None = pieces_at s middle more ∙ rw (frame_cut s middle r told e) in
      rw (pieces_first s middle first, behind)

  module _ (last : ℕ) (e : r ≡ Some last) where
    second_ends : frame_end s middle ≡ Some last
    second_ends = frame_ends s middle last r told e

    pub third_half : last < length s → None ≡ middle_of s
    unfolding middle_of middle_in and_then
    third_half h = go (pieces_of (drop last s)) refl
      where
        go : (x : Option (List Piece)) → pieces_of (drop last s) ≡ x → None ≡ and_then (pieces_of s) middle_in
        go None f = rw (pieces_second s middle first more last second_ends, f)
        go (Some []) f = absurd (some_piece s last h f)
        go (Some (third ∷ rest)) f = rw (pieces_second s middle first more last second_ends, f)

    pub both_halves : length s ≤ last → Some middle ≡ middle_of s
    unfolding middle_of middle_in and_then
    both_halves all =
        let fits = frame_fits s middle last second_ends in
        let whole : last ≡ length s = omega arith in
        let opens = ends s middle first in
        let size : 3 + length (take (middle - 3) (drop 3 s)) ≡ middle = rw (length-take, length-drop) (omega arith) in
        rw (two_pieces s middle first more last second_ends whole, size)

-- ---- what the halves tell of a row

pub record Halves (s : List ℕ) (middle : ℕ) : Type 0 where
  pub pieces : pieces_of s ≡ Some (piece_in s 0 middle ∷ piece_in s middle (length s) ∷ [])
  pub first_long : 3 ≤ middle
  pub second_long : middle + 3 ≤ length s

module _ (s : List ℕ) (r : Option ℕ) (told : r ≡ middle_of s) where
  pub halved : (middle : ℕ) → r ≡ Some middle → Halves s middle
  unfolding middle_of middle_in and_then
  halved middle e = go (pieces_of s) refl (sym told ∙ e)
    where
      go : (x : Option (List Piece)) → pieces_of s ≡ x → and_then x middle_in ≡ Some middle → Halves s middle
      go None f g = absurd (let z : ◌≡◌ {A = ℕ} 0 1 = cc in omega arith)
      go (Some []) f g = absurd (let z : ◌≡◌ {A = ℕ} 0 1 = cc in omega arith)
      go (Some (first ∷ [])) f g = absurd (let z : ◌≡◌ {A = ℕ} 0 1 = cc in omega arith)
      go (Some (first ∷ second ∷ [])) f g =
          let two = two_frames s first second f in
          let same : 3 + length first.body ≡ middle = cc in
          let is : two.end ≡ middle = sym two.size ∙ same in
          record {
            pieces = f ∙ rw (← is, ← two.first_is, ← two.second_is);
            first_long = rw (← is) two.first_long;
            second_long = rw (← is) two.second_long;
          }
      go (Some (first ∷ second ∷ third ∷ more)) f g = absurd (let z : ◌≡◌ {A = ℕ} 0 1 = cc in omega arith)

  pub unhalved : r ≡ None → (schema : Schema) → Unparsed ≡ row_verdict schema s
  unfolding middle_of middle_in and_then row_verdict row_of row_parts verdict_of
  unhalved e schema = go (pieces_of s) refl (sym told ∙ e)
    where
      go : (x : Option (List Piece)) → pieces_of s ≡ x → and_then x middle_in ≡ None → Unparsed ≡ verdict_of (and_then (pieces_of s) λ pieces. row_parts schema pieces) (row_lawful schema)
      go None f g = rw f
      go (Some []) f g = rw f
      go (Some (first ∷ [])) f g = rw f
      go (Some (first ∷ second ∷ [])) f g = absurd (let z : ◌≡◌ {A = ℕ} 0 1 = cc in omega arith)
      go (Some (first ∷ second ∷ third ∷ more)) f g = rw f

-- ---- what a row comes to, test by test

module _ (schema : Schema) (s : List ℕ) (middle : ℕ) (h : Halves s middle) where
  abbrev Metadata : List ℕ
  Metadata = part s 3 middle

  pub metadata_size : length Metadata ≡ middle - 3
  metadata_size = let fits = h.first_long in let behind = h.second_long in rw (length-take, length-drop) (omega arith)

  by_halves : row_verdict schema s
      ≡ verdict_of (given (eqb (at s 0) 0x40 && leb (length Metadata) most_metadata)
      (and_then (dictionary_of Metadata) λ names. and_then (place_under schema most_levels names (piece_in s middle (length s))) λ p. Some (record { names = names; outermost = p })))
      (row_lawful schema)
  unfolding row_verdict row_of row_parts and_then
  by_halves = rw h.pieces

  pub row_other_tag : (at s 0 ≡ 0x40 → ⊥) → Unparsed ≡ row_verdict schema s
  unfolding given verdict_of
  row_other_tag other = sym (by_halves ∙ rw (ne_eqb (at s 0) 0x40 other))

  module _ (tag : at s 0 ≡ 0x40) where
    pub row_long_metadata : most_metadata < middle - 3 → Unparsed ≡ row_verdict schema s
    unfolding given verdict_of
    row_long_metadata long = sym (by_halves ∙ rw (tag, metadata_size, lt-leb (middle - 3) most_metadata long))

    module _ (short : middle - 3 ≤ most_metadata) where
      by_dictionary : row_verdict schema s
          ≡ verdict_of (and_then (dictionary_of Metadata) λ names. and_then (place_under schema most_levels names (piece_in s middle (length s))) λ p. Some (record { names = names; outermost = p }))
          (row_lawful schema)
      unfolding given
      by_dictionary = by_halves ∙ rw (tag, metadata_size, le-leb (middle - 3) most_metadata short)

      pub row_bad_metadata : dictionary_of Metadata ≡ None → Unparsed ≡ row_verdict schema s
      unfolding and_then verdict_of
      row_bad_metadata e = sym (by_dictionary ∙ rw e)

      module _ (names : Dictionary) (read : dictionary_of Metadata ≡ Some names) where
        by_place : row_verdict schema s
            ≡ verdict_of (and_then (place_under schema most_levels names (piece_in s middle (length s))) λ p. Some (record { names = names; outermost = p })) (row_lawful schema)
        unfolding and_then
        by_place = by_dictionary ∙ rw read

        pub row_other_place : (at s middle ≡ 0x50 → ⊥) → Unparsed ≡ row_verdict schema s
        unfolding and_then verdict_of place_within place_by given
        row_other_place other = sym (by_place ∙ rw (place_under_lem schema most_levels names, ne_eqb (at s middle) 0x50 other))

        pub row_place : at s middle ≡ 0x50 → place_verdict schema most_levels names (part s (middle + 3) (length s)) ≡ row_verdict schema s
        unfolding place_verdict
        row_place e = sym (by_place ∙ rw e (go (place_under schema most_levels names (record { tag = 0x50; body = part s (middle + 3) (length s) }))))
          where
            go : (x : Option Place) → verdict_of (and_then x λ p. Some (record { names = names; outermost = p })) (row_lawful schema) ≡ verdict_of x (place_lawful schema names)
            go None = unfold verdict_of in unfold and_then in refl
            go (Some p) = unfold verdict_of in unfold and_then in unfold row_lawful in refl
