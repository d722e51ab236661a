-- Framed pieces one after another: behind a frame that fits lie the pieces behind its end.
use Rattle.std.specs.Prelude.{Option, None, Some}
use mathlib.Core.Bool.{Bool, true, false, ◌&&◌}
use mathlib.Core.List.{List, [], ◌∷◌}
use mathlib.Core.Path.{◌≡◌, refl, sym, ap, ◌∙◌}
use Prim.Native.Nat.{ℕ, ◌+◌, ◌-◌, ◌≤◌, ◌<◌}
use native.Mathlib.Omega.{arith}
use borrow.Author.Tests.{le-leb, lt-leb, leb-true, leb-false}
use lib.Dec.{leb}
use lib.ListN.{length, take, drop, length-take, length-drop, drop_of_length-le}
use Rattle.frames.proofs.PieceLaws.{part_rest, piece_then, pieces_between}
use Rattle.frames.specs.Frames.{end_at, frame_end, piece_in}
use Rattle.numbers.specs.Little.{number_at}
use Rattle.paper.specs.Framing.{Piece, pieces_within, pieces_of}
use Rattle.paper.specs.Words.{part, given, and_then, is_there}
use Rattle.paper.proofs.WordLaws.{never, given_some, then_some, some_there, and_both}
use Rattle.std.proofs.lemmas.Option.{same_Some}

-- ---- what the code tells

module _ (s : List ℕ) (place : ℕ) where
  pub cut_short : length s - place < 3 → place < length s → None ≡ frame_end s place
  unfolding frame_end given
  cut_short h k = rw (lt-leb (place + 3) (length s) (omega arith))

  module _ (three : 3 ≤ length s - place) (size : ℕ) (is : size ≡ number_at s (place + 1) 2) where
    pub cut_past : length s - (place + 3) < size → None ≡ frame_end s place
    unfolding frame_end given
    cut_past h = rw (le-leb (place + 3) (length s) (omega arith), ← is, lt-leb (place + 3 + size) (length s) (omega arith))

    pub ends_there : size ≤ length s - (place + 3) → Some (place + 3 + size) ≡ frame_end s place
    unfolding frame_end given
    ends_there h = rw (le-leb (place + 3) (length s) (omega arith), ← is, le-leb (place + 3 + size) (length s) (omega arith))

-- What an answer says of an end.
pub by_cut : (x : Option ℕ) → x ≡ None → x ≡ None
by_cut None f = refl
by_cut (Some end) f = absurd (let z : ◌≡◌ {A = ℕ} 0 1 = cc in omega arith)

pub by_ends : (x : Option ℕ) {end : ℕ} → x ≡ Some end → x ≡ Some end
by_ends None f = absurd (let z : ◌≡◌ {A = ℕ} 0 1 = cc in omega arith)
by_ends (Some there) f = cc

pub frame_cut : (s : List ℕ) (place : ℕ) (r : Option ℕ) → r ≡ frame_end s place → r ≡ None → frame_end s place ≡ None
unfolding frame_end
frame_cut s place r is e = by_cut (frame_end s place) (sym is ∙ e)

pub frame_ends : (s : List ℕ) (place end : ℕ) (r : Option ℕ) → r ≡ frame_end s place → r ≡ Some end → frame_end s place ≡ Some end
unfolding frame_end
frame_ends s place end r is e = by_ends (frame_end s place) (sym is ∙ e)

pub frame_fits : (s : List ℕ) (place end : ℕ) → frame_end s place ≡ Some end → (place + 3 ≤ end) × (end ≤ length s)
unfolding frame_end
frame_fits s place end e =
    let there : ℕ = place + 3 + number_at s (place + 1) 2 in
    let told = given_some (leb (place + 3) (length s) && leb there (length s)) (Some there) e in
    let both = and_both (leb (place + 3) (length s)) (leb there (length s)) told.0 in
    let is : there ≡ end = same_Some there end told.1 in
    let fits : there ≤ length s = leb-true there (length s) both.1 in
    (omega arith, omega arith)

-- ---- the pieces of some bytes

-- The pieces from a place on: the frame's, and those behind its end.
unfoldable pub pieces_by : List ℕ → (place : ℕ) → Option ℕ → Option (List Piece)
pieces_by s place None = None
pieces_by s place (Some end) = and_then (pieces_of (drop end s)) λ more. Some (piece_in s place end ∷ more)

pub pieces_at : (s : List ℕ) (place : ℕ) → place < length s → pieces_of (drop place s) ≡ pieces_by s place (frame_end s place)
unfolding frame_end pieces_by piece_then given
pieces_at s place h =
    ap pieces_of (sym (part_rest s place)) ∙ pieces_between s place (length s) (omega arith) h ∙ go (leb (place + 3) (length s) && leb (end_at s place) (length s))
  where
    go : (b : Bool) → given b (piece_then (piece_in s place (end_at s place)) (pieces_of (part s (end_at s place) (length s)))) ≡ pieces_by s place (given b (Some (end_at s place)))
    go false = refl
    go true = rw (part_rest s (end_at s place))

-- Behind the last byte there is no piece.
pub pieces_ended : (s : List ℕ) (place : ℕ) → length s ≤ place → pieces_of (drop place s) ≡ Some []
unfolding pieces_of pieces_within
pieces_ended s place h = rw (drop_of_length-le s h)

-- ---- backwards: from the pieces to the frames

pub record FirstIs (s : List ℕ) (place : ℕ) (first : Piece) (rest : List Piece) : Type 0 where
  pub end : ℕ
  pub ends : frame_end s place ≡ Some end
  pub is : first ≡ piece_in s place end
  pub behind : pieces_of (drop end s) ≡ Some rest

-- Where there is no piece, no byte is left.
pub pieces_end_is : (s : List ℕ) (place : ℕ) → pieces_of (drop place s) ≡ Some [] → length s ≤ place
unfolding pieces_by is_there
pieces_end_is s place e = go (leb (length s) place) refl
  where
    cons_nil : {y : Piece} {ys : List Piece} → ◌≡◌ {A = Option (List Piece)} (Some (y ∷ ys)) (Some []) → ⊥
    cons_nil g = let z : ◌≡◌ {A = ℕ} 0 1 = cc in omega arith

    some_left : (x : Option ℕ) → pieces_by s place x ≡ Some [] → ⊥
    some_left None f = never (sym (some_there None f))
    some_left (Some end) f = cons_nil (then_some (pieces_of (drop end s)) _ f).2

    go : (b : Bool) → leb (length s) place ≡ b → length s ≤ place
    go true f = leb-true (length s) place f
    go false f = absurd (some_left (frame_end s place) (sym (pieces_at s place (leb-false (length s) place f)) ∙ e))

-- The first piece is that of the frame at the place, and the others lie behind its end.
pub pieces_first_is : (s : List ℕ) (place : ℕ) (first : Piece) (rest : List Piece) → pieces_of (drop place s) ≡ Some (first ∷ rest) → FirstIs s place first rest
unfolding pieces_by is_there
pieces_first_is s place first rest e = go (leb (length s) place) refl
  where
    nil_cons : ◌≡◌ {A = Option (List Piece)} (Some []) (Some (first ∷ rest)) → ⊥
    nil_cons g = let z : ◌≡◌ {A = ℕ} 0 1 = cc in omega arith

    there : (x : Option ℕ) → frame_end s place ≡ x → pieces_by s place x ≡ Some (first ∷ rest) → FirstIs s place first rest
    there None f g = never (sym (some_there None g))
    there (Some end) f g =
        let told = then_some (pieces_of (drop end s)) _ g in
        record { end = end; ends = f; is = (let same = told.2 in cc); behind = told.1 ∙ (let same = told.2 in cc) }

    go : (b : Bool) → leb (length s) place ≡ b → FirstIs s place first rest
    go true f = absurd (nil_cons (sym (pieces_ended s place (leb-true (length s) place f)) ∙ e))
    go false f = there (frame_end s place) refl (sym (pieces_at s place (leb-false (length s) place f)) ∙ e)

-- Bytes of one piece: its frame ends where they do.
pub record OneFrame (s : List ℕ) (first : Piece) : Type 0 where
  pub is : first ≡ piece_in s 0 (length s)
  pub long : 3 ≤ length s

pub one_frame : (s : List ℕ) (first : Piece) → pieces_of s ≡ Some (first ∷ []) → OneFrame s first
one_frame s first e =
    let f = pieces_first_is s 0 first [] e in
    let fits = frame_fits s 0 f.end f.ends in
    let over = pieces_end_is s f.end f.behind in
    let all : f.end ≡ length s = omega arith in
    record { is = f.is ∙ ap (piece_in s 0) all; long = omega arith }

-- Bytes of two pieces: the second frame ends where they do.
pub record TwoFrames (s : List ℕ) (first second : Piece) : Type 0 where
  pub end : ℕ
  pub ends : frame_end s 0 ≡ Some end
  pub size : 3 + length first.body ≡ end
  pub first_is : first ≡ piece_in s 0 end
  pub second_is : second ≡ piece_in s end (length s)
  pub first_long : 3 ≤ end
  pub second_long : end + 3 ≤ length s

pub two_frames : (s : List ℕ) (first second : Piece) → pieces_of s ≡ Some (first ∷ second ∷ []) → TwoFrames s first second
two_frames s first second e =
    let f = pieces_first_is s 0 first (second ∷ []) e in
    let g = pieces_first_is s f.end second [] f.behind in
    let fits = frame_fits s 0 f.end f.ends in
    let behind = frame_fits s f.end g.end g.ends in
    let over = pieces_end_is s g.end g.behind in
    let all : g.end ≡ length s = omega arith in
    let long : length (take (f.end - 3) (drop 3 s)) ≡ f.end - 3 = rw (length-take, length-drop) (omega arith) in
    record {
      end = f.end;
      ends = f.ends;
      size = ap (λ (p : Piece). 3 + length p.body) f.is ∙ (let is : 3 + length (take (f.end - 3) (drop 3 s)) ≡ f.end = omega arith in is);
      first_is = f.is;
      second_is = g.is ∙ ap (piece_in s f.end) all;
      first_long = omega arith;
      second_long = omega arith;
    }
