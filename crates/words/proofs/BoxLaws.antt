-- A box that was read has no NaN for a side, since a NaN is in no order: the bits of each side can be had.
use Rattle.std.specs.Prelude.{Option, None, Some, Ok}
use mathlib.Core.Bool.{Bool, true, false, not, ◌&&◌}
use mathlib.Core.List.{List}
use mathlib.Core.Path.{◌≡◌, refl, sym}
use Prim.Native.Nat.{ℕ}
use lib.Ieee.{Float, nan, inf, fin, le, lt, eq, is_nan}
use Rattle.paper.specs.Boxes.{box_in, box_of, side as side_in, east, north, south, west}
use Rattle.paper.specs.Limits.{most_levels}
use Rattle.paper.specs.Meaning.{Doc, null, scalar, array, object}
use Rattle.paper.specs.Metadata.{Dictionary, dictionary_of}
use Rattle.paper.specs.Operations.{judged, document_fits, box_answer, value_judged}
use Rattle.paper.specs.Refusals.{require, obtain}
use Rattle.paper.specs.Values.{meaning_of}
use Rattle.paper.specs.Words.{given, and_then}
use Rattle.paper.specs.declared.LotBox.{LotBox}
use Rattle.paper.specs.declared.Refusal.TheVariants.{TooLong, BadMetadata, BadValue}
use Rattle.words.specs.BoxParts.{side_of, side_has_bits}
use Rattle.words.specs.declared.boxes.Side.TheVariants.{East, North, South, West}
use Rattle.words.specs.declared.boxes.Side.{Side}
use Rattle.paper.proofs.WordLaws.{never, and_both}

-- What is in order is no NaN.
in_order : (x y : Float) → le x y ≡ true → (not (is_nan x) ≡ true) × (not (is_nan y) ≡ true)
unfolding le lt eq is_nan
in_order nan y e = never (sym e)
in_order (inf s) nan e = never (sym e)
in_order (inf s) (inf t) e = (refl, refl)
in_order (inf s) (fin t n d) e = (refl, refl)
in_order (fin s m d) nan e = never (sym e)
in_order (fin s m d) (inf t) e = (refl, refl)
in_order (fin s m d) (fin t n f) e = (refl, refl)

module _ (side : Side) where
  of_four : (e n s w : Float) → side_has_bits side ((Ok (given (le w e && le s n) (Some (record { east = e; north = n; south = s; west = w }))))) ≡ true
  unfolding given
  of_four e n s w = go (le w e && le s n) refl
    where
      number : (side : Side) → not (is_nan e) ≡ true → not (is_nan n) ≡ true → not (is_nan s) ≡ true → not (is_nan w) ≡ true
          → not (is_nan (side_of side (record { east = e; north = n; south = s; west = w }))) ≡ true
      number East p q r t = p
      number North p q r t = q
      number South p q r t = r
      number West p q r t = t

      go : (b : Bool) → le w e && le s n ≡ b
          → side_has_bits side ((Ok (given b (Some (record { east = e; north = n; south = s; west = w }))))) ≡ true
      go false is = refl
      go true is =
          let both = and_both (le w e) (le s n) is in
          let across = in_order w e both.0 in
          let along = in_order s n both.1 in
          number side across.1 along.1 along.0 across.0

  -- Where nothing is to be read on the way there is no box.
  on : {A : Type 0} (x : Option A) (next : A → Option LotBox) → ((a : A) → side_has_bits side ((Ok (next a))) ≡ true)
      → side_has_bits side ((Ok (and_then x next))) ≡ true
  unfolding and_then
  on None next good = refl
  on (Some a) next good = good a

  of_doc : (d : Doc) → side_has_bits side ((Ok (box_of d))) ≡ true
  unfolding box_of box_in
  of_doc null = refl
  of_doc (scalar s) = refl
  of_doc (array ds) = refl
  of_doc (object fs) =
      on (side_in east fs) _ λ e. on (side_in north fs) _ λ n. on (side_in south fs) _ λ s. on (side_in west fs) _ λ w. of_four e n s w

  pub side_has_bits_lem : (m v : List ℕ) → side_has_bits side (box_answer m v) ≡ true
  unfolding box_answer judged value_judged require obtain
  side_has_bits_lem m v = go (document_fits m v) (dictionary_of m)
    where
      inner : (x : Option Doc) → side_has_bits side ((obtain x BadValue λ d. Ok (box_of d))) ≡ true
      inner None = refl
      inner (Some d) = of_doc d

      go : (b : Bool) (x : Option Dictionary)
          → side_has_bits side ((require b TooLong (obtain x BadMetadata λ names. obtain (meaning_of most_levels names v) BadValue λ d. Ok (box_of d)))) ≡ true
      go false x = refl
      go true None = refl
      go true (Some names) = inner (meaning_of most_levels names v)
