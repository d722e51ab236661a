-- A box from its four sides: one that is missing, or is a NaN, leaves none.
use Rattle.std.specs.Prelude.{Option, None, Some}
use mathlib.Core.Bool.{true, false, and-false}
use mathlib.Core.List.{List}
use mathlib.Core.Path.{◌≡◌, refl, sym, ◌∙◌}
use Prim.Native.Nat.{ℕ}
use lib.Ieee.{Float, nan, inf, fin, lt, eq, le, is_nan}
use Rattle.boxes.specs.Sides.{side_by, box_of_sides, Means}
use Rattle.paper.specs.Boxes.{east, north, south, west, side, box_in}
use Rattle.paper.specs.Meaning.{Fields}
use Rattle.paper.specs.Metadata.{Dictionary}
use Rattle.paper.specs.Words.{given, and_then}
use Rattle.paper.specs.declared.LotBox.{LotBox}

-- ---- what a side says

side_some : (x : Option Float) {y : Float} → side_by x ≡ Some y → x ≡ Some y
unfolding side_by is_nan
side_some None e = cc
side_some (Some nan) e = cc
side_some (Some (inf s)) e = cc
side_some (Some (fin s m d)) e = cc

side_nan : (x : Float) → side_by (Some x) ≡ None → x ≡ nan
unfolding side_by is_nan
side_nan nan e = refl
side_nan (inf s) e = cc
side_nan (fin s m d) e = cc

-- A NaN is in no order.
nan_left : (x y : Float) → side_by (Some x) ≡ None → le x y ≡ false
unfolding le lt eq
nan_left x y e = rw (side_nan x e)

nan_right : (x y : Float) → side_by (Some y) ≡ None → le x y ≡ false
unfolding le lt eq
nan_right x y e = rw (side_nan y e) (go x)
  where
    go : (x : Float) → le x nan ≡ false
    go nan = refl
    go (inf s) = refl
    go (fin s m d) = refl

-- ---- a box of four sides

unfoldable box_from : (e n s w : Option Float) → Option LotBox
box_from e n s w =
    and_then e λ e.
    and_then n λ n.
    and_then s λ s.
    and_then w λ w.
    box_of_sides e n s w

box_as : (fs : Fields) → box_in fs ≡ box_from (side east fs) (side north fs) (side south fs) (side west fs)
unfolding box_in box_from box_of_sides
box_as fs = refl

-- Each side has to be there.
lost_east : (e n s w : Option Float) → side_by e ≡ None → box_from e n s w ≡ None
unfolding box_from box_of_sides and_then given
lost_east None n s w h = refl
lost_east (Some e) None s w h = refl
lost_east (Some e) (Some n) None w h = refl
lost_east (Some e) (Some n) (Some s) None h = refl
lost_east (Some e) (Some n) (Some s) (Some w) h = rw (nan_right w e h)

lost_north : (e n s w : Option Float) → side_by n ≡ None → box_from e n s w ≡ None
unfolding box_from box_of_sides and_then given
lost_north None n s w h = refl
lost_north (Some e) None s w h = refl
lost_north (Some e) (Some n) None w h = refl
lost_north (Some e) (Some n) (Some s) None h = refl
lost_north (Some e) (Some n) (Some s) (Some w) h = rw (nan_right s n h, and-false)

lost_south : (e n s w : Option Float) → side_by s ≡ None → box_from e n s w ≡ None
unfolding box_from box_of_sides and_then given
lost_south None n s w h = refl
lost_south (Some e) None s w h = refl
lost_south (Some e) (Some n) None w h = refl
lost_south (Some e) (Some n) (Some s) None h = refl
lost_south (Some e) (Some n) (Some s) (Some w) h = rw (nan_left s n h, and-false)

lost_west : (e n s w : Option Float) → side_by w ≡ None → box_from e n s w ≡ None
unfolding box_from box_of_sides and_then given
lost_west None n s w h = refl
lost_west (Some e) None s w h = refl
lost_west (Some e) (Some n) None w h = refl
lost_west (Some e) (Some n) (Some s) None h = refl
lost_west (Some e) (Some n) (Some s) (Some w) h = rw (nan_left w e h)

-- ---- the answers for four sides

module _ (e n s w : Float) where
  pub in_order : le w e ≡ true → le s n ≡ true → Some (record { east = e; north = n; south = s; west = w }) ≡ box_of_sides e n s w
  unfolding box_of_sides given
  in_order h k = rw (h, k)

  pub south_above : le s n ≡ false → None ≡ box_of_sides e n s w
  unfolding box_of_sides given
  south_above k = rw (k, and-false)

  pub west_above : le w e ≡ false → None ≡ box_of_sides e n s w
  unfolding box_of_sides given
  west_above h = rw h

-- ---- the answers for an object: what is read is told of whatever fields it means

module _ (names : Dictionary) (ids starts area : List ℕ) where
  abbrev SideSaid : List ℕ → Option Float → Type 0
  SideSaid name r = (fs : Fields) → Means names ids starts area fs → r ≡ side_by (side name fs)

  abbrev BoxSaid : Option LotBox → Type 0
  BoxSaid r = (fs : Fields) → Means names ids starts area fs → r ≡ box_in fs

  absent : (fs : Fields) → box_from (side east fs) (side north fs) (side south fs) (side west fs) ≡ None → None ≡ box_in fs
  absent fs e = rw (box_as fs, e)

  module _ {r : Option Float} (e : r ≡ None) where
    pub no_east : SideSaid east r → BoxSaid None
    no_east told fs f = absent fs (lost_east _ _ _ _ (sym (told fs f) ∙ e))

    pub no_north : SideSaid north r → BoxSaid None
    no_north told fs f = absent fs (lost_north _ _ _ _ (sym (told fs f) ∙ e))

    pub no_south : SideSaid south r → BoxSaid None
    no_south told fs f = absent fs (lost_south _ _ _ _ (sym (told fs f) ∙ e))

    pub no_west : SideSaid west r → BoxSaid None
    no_west told fs f = absent fs (lost_west _ _ _ _ (sym (told fs f) ∙ e))

  -- all four sides are there
  pub record FourSides (e n s w : Float) : Type 0 where
    pub is_east : (fs : Fields) → Means names ids starts area fs → Some e ≡ side_by (side east fs)
    pub is_north : (fs : Fields) → Means names ids starts area fs → Some n ≡ side_by (side north fs)
    pub is_south : (fs : Fields) → Means names ids starts area fs → Some s ≡ side_by (side south fs)
    pub is_west : (fs : Fields) → Means names ids starts area fs → Some w ≡ side_by (side west fs)

  pub four_sides : {qe qn qs qw : Option Float} {e n s w : Float} → qe ≡ Some e → SideSaid east qe → qn ≡ Some n → SideSaid north qn
      → qs ≡ Some s → SideSaid south qs → qw ≡ Some w → SideSaid west qw → FourSides e n s w
  four_sides a e b n c s d w =
      record {
        is_east = λ fs f. sym a ∙ e fs f;
        is_north = λ fs f. sym b ∙ n fs f;
        is_south = λ fs f. sym c ∙ s fs f;
        is_west = λ fs f. sym d ∙ w fs f;
      }

  module _ {e n s w : Float} (four : FourSides e n s w) where
    from_four : (fs : Fields) → Means names ids starts area fs → box_in fs ≡ box_from (Some e) (Some n) (Some s) (Some w)
    from_four fs f =
        rw (
          box_as fs,
          side_some (side east fs) (sym (four.is_east fs f)),
          side_some (side north fs) (sym (four.is_north fs f)),
          side_some (side south fs) (sym (four.is_south fs f)),
          side_some (side west fs) (sym (four.is_west fs f)),
        )

    pub box_read : {r : Option LotBox} → r ≡ box_of_sides e n s w → BoxSaid r
    unfolding box_from and_then
    box_read told fs f = rw (from_four fs f) told
