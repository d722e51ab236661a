-- The places of a list by their number: each is there where it was noted, ready to be written with what the tables have left.
use Rattle.std.specs.Prelude.{Some, None, Option}
use mathlib.Core.Bool.{Bool, true, false}
use mathlib.Core.List.{List, [], ◌∷◌, ◌++◌}
use mathlib.Core.Path.{◌≡◌, refl, sym, ap, ◌∙◌}
use Prim.Native.Nat.{ℕ, zero, suc, ◌+◌, ◌*◌, ◌≤◌, ◌<◌}
use native.Mathlib.Omega.{arith}
use borrow.Author.Tests.{leb-true, leb-false}
use lib.Dec.{leb}
use lib.ListN.{length, get_or, drop, length-take, length-drop}
use Rattle.frames.specs.Frames.{piece_in}
use Rattle.noting.specs.Notes.{piece_places}
use Rattle.paper.specs.Framing.{Piece}
use Rattle.paper.specs.Metadata.{Dictionary}
use Rattle.paper.specs.Schemas.{Schema}
use Rattle.paper.specs.Words.{part, joined}
use Rattle.places.proofs.StepLaws.{place_ends}
use Rattle.places.specs.Frames.{place_end}
use Rattle.rebuilt.proofs.InnerLaws.{pieces_none, element_whole, element_fits, element_place, elements_behind, element_pieces}
use Rattle.rebuilt.proofs.NumberedLaws.{numbered_front, numbered_behind}
use Rattle.schemas.proofs.StandingLaws.{one_stands}
use Rattle.schemas.specs.Positions.{Stands}
use Rattle.rebuilt.specs.Rebuilt.{pieces_in}
use Rattle.rebuilt.specs.There.{PlaceThere, ElementsThere, Numbered}
use Rattle.rebuilt.specs.Using.{place_ids, element_ids}

-- The two lists of a non-empty list's parts.
pub cons_first : {A : Type 0} {x y : A} {xs ys : List A} → x ∷ xs ≡ y ∷ ys → x ≡ y
cons_first {x = x} e = ap (λ (l : List _). get_or l 0 x) e

pub cons_rest : {A : Type 0} {x y : A} {xs ys : List A} → x ∷ xs ≡ y ∷ ys → xs ≡ ys
cons_rest e = ap (drop 1) e

-- A place in a body: what it holds, and how many bytes of the body are not in it.
pub record PlaceAt (levels : ℕ) (names normal : Dictionary) (ranks schema table : List ℕ) (node : ℕ) (under : Schema) (body : List ℕ) (place size : ℕ) (piece : Piece) : Type 0 where
  pub end : ℕ
  pub ends : place_end body place ≡ Some end
  pub there : PlaceThere levels names schema table node (part body (place + 3) end)
  pub under_is : there.under ≡ under
  pub numbered : Numbered names normal ranks (place_ids under levels schema table node (part body (place + 3) end))
  pub body_is : piece.body ≡ part body (place + 3) end
  pub spare : size + length (part body (place + 3) end) ≤ length body

-- The same with fewer bytes spared.
pub narrower : {levels : ℕ} {names normal : Dictionary} {ranks schema table : List ℕ} {node : ℕ} {under : Schema} {body : List ℕ} {place size fewer : ℕ} {piece : Piece}
    → PlaceAt levels names normal ranks schema table node under body place size piece → fewer ≤ size
    → PlaceAt levels names normal ranks schema table node under body place fewer piece
narrower one less =
    let spare = one.spare in
    record {
      end = one.end;
      ends = one.ends;
      there = one.there;
      under_is = one.under_is;
      numbered = one.numbered;
      body_is = one.body_is;
      spare = omega arith;
    }

-- The first of the pieces that stand from a place on.
pub record FirstPlace (body : List ℕ) (place : ℕ) (piece : Piece) (more : List Piece) : Type 0 where
  pub end : ℕ
  pub has : place < length body
  pub told : Some end ≡ place_end body place
  pub fits : (place + 3 ≤ end) × (end ≤ length body)
  pub piece_is : piece ≡ piece_in body place end
  pub more_is : pieces_in (drop end body) ≡ more
  pub next_is : place + 3 + length piece.body ≡ end

pub no_piece : {A : Type 0} {piece : Piece} {more : List Piece} → [] ≡ piece ∷ more → A
no_piece e = let z : ◌≡◌ {A = ℕ} 0 1 = cc in absurd (omega arith)

module _ {levels : ℕ} {names : Dictionary} {schema table : List ℕ} {node : ℕ} (body : List ℕ) where
  module _ (place : ℕ) (there : ElementsThere levels names schema table node (drop place body)) {piece : Piece} {more : List Piece}
      (are : pieces_in (drop place body) ≡ piece ∷ more) where
    first_has : place < length body
    first_has = go (leb (length body) place) refl
      where
        go : (b : Bool) → leb (length body) place ≡ b → place < length body
        go true e = no_piece (sym (pieces_none body place (leb-true (length body) place e)) ∙ are)
        go false e = leb-false (length body) place e

    pub first_place : FirstPlace body place piece more
    first_place = go (place_end body place) refl
      where
        go : (r : Option ℕ) → r ≡ place_end body place → FirstPlace body place piece more
        go None told = absurd (element_whole body place there first_has told refl)
        go (Some end) told =
            let fits = element_fits body place there first_has told refl in
            let both : piece ∷ more ≡ piece_in body place end ∷ pieces_in (drop end body) = sym are ∙ element_pieces body place there first_has told refl in
            let is : piece ≡ piece_in body place end = cons_first both in
            record {
              end = end;
              has = first_has;
              told = told;
              fits = (omega arith, fits.1);
              piece_is = is;
              more_is = sym (cons_rest both);
              next_is = rw (is, length-take, length-drop) (omega arith);
            }

  -- Pieces that stand from a place on take three bytes each at least.
  pub pieces_long : (pieces : List Piece) (place : ℕ) → pieces_in (drop place body) ≡ pieces → ElementsThere levels names schema table node (drop place body)
      → place ≤ length body → 3 * length pieces + place ≤ length body
  pieces_long [] place are there h = omega arith
  pieces_long (piece ∷ more) place are there h =
      let first = first_place place there are in
      let rest = pieces_long more first.end first.more_is (elements_behind body place there first.has first.told refl) first.fits.1 in
      let fits = first.fits.0 in
      omega arith

pub ids_split : (element : Schema) (levels : ℕ) (schema table : List ℕ) (node : ℕ) (piece : Piece) (more : List Piece)
    → element_ids element levels schema table node (piece ∷ more) ≡ place_ids element levels schema table node piece.body ++ element_ids element levels schema table node more
unfolding element_ids joined
ids_split element levels schema table node piece more = refl

-- The place with a number, from a place on.
module _ (levels : ℕ) (names normal : Dictionary) (ranks schema table : List ℕ) (node : ℕ) (element : Schema) (stands : Stands levels schema node element) (body : List ℕ) where
  abbrev Used : List Piece → List ℕ
  Used pieces = element_ids element levels schema table node pieces

  abbrev At : ℕ → ℕ → Piece → Type 0
  At spot size piece = PlaceAt levels names normal ranks schema table node element body spot size piece

  module _ (piece : Piece) (more : List Piece) (place : ℕ) (are : pieces_in (drop place body) ≡ piece ∷ more)
      (there : ElementsThere levels names schema table node (drop place body)) (numbered : Numbered names normal ranks (Used (piece ∷ more))) where
    first : FirstPlace body place piece more
    first = first_place body place there are

    both : Numbered names normal ranks (place_ids element levels schema table node piece.body ++ Used more)
    both = rw (ids_split element levels schema table node piece more) at numbered

    behind : ElementsThere levels names schema table node (drop first.end body)
    behind = elements_behind body place there first.has first.told refl

    behind_numbered : Numbered names normal ranks (Used more)
    behind_numbered = numbered_behind (place_ids element levels schema table node piece.body) (Used more) both

    element_here : At place (3 * length (piece ∷ more) + place) piece
    element_here =
        let rest = pieces_long body more first.end first.more_is behind first.fits.1 in
        let fits = first.fits.0 in
        let same : piece.body ≡ part body (place + 3) first.end = ap (λ (p : Piece). p.body) first.piece_is in
        let one = element_place body place there first.has first.told refl in
        record {
          end = first.end;
          ends = place_ends body place first.end _ first.told refl;
          there = one;
          under_is = one_stands one.stands stands;
          numbered = rw same at (numbered_front (place_ids element levels schema table node piece.body) (Used more) both);
          body_is = same;
          spare = rw (length-take, length-drop) (omega arith);
        }

    element_later : (k : ℕ) {p : Piece} → At (get_or (piece_places first.end more) k 0) (3 * length more + first.end) p
        → At (get_or (piece_places (place + 3 + length piece.body) more) k 0) (3 * length (piece ∷ more) + place) p
    element_later k one = let fits = first.fits.0 in rw first.next_is (narrower one (omega arith))

  pub element_at : (pieces : List Piece) (place : ℕ) → pieces_in (drop place body) ≡ pieces → ElementsThere levels names schema table node (drop place body)
      → Numbered names normal ranks (Used pieces) → (k : ℕ) → k < length pieces
      → At (get_or (piece_places place pieces) k 0) (3 * length pieces + place) (get_or pieces k (record { tag = 0; body = [] }))
  unfolding piece_places
  element_at [] place are there numbered k below = absurd (omega arith)
  element_at (piece ∷ more) place are there numbered zero below = element_here piece more place are there numbered
  element_at (piece ∷ more) place are there numbered (suc k) below =
      element_later piece more place are there numbered k
      (element_at more (first piece more place are there numbered).end (first piece more place are there numbered).more_is (behind piece more place are there numbered)
      (behind_numbered piece more place are there numbered) k (omega arith))
