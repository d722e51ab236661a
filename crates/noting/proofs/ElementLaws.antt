-- A list's places noted: those in front of a place stand in the table, and those from it on are left.
use Rattle.std.specs.Prelude.{Some, None, Option}
use mathlib.Core.List.{List, [], ◌∷◌, ◌++◌, append-nil, append_assoc}
use mathlib.Core.Path.{◌≡◌, refl, sym, ap, ◌∙◌}
use Prim.Native.Nat.{ℕ, ◌+◌, ◌-◌, ◌≤◌, ◌<◌}
use native.Mathlib.Omega.{arith}
use lib.ListN.{length, get_or, set, drop, length-append, length-set, length-take, length-drop}
use lib.Seq.{get_or-set_same, get_or-set_other}
use Rattle.paper.specs.Framing.{Piece}
use Rattle.paper.specs.Words.{part}
use Rattle.places.specs.Frames.{place_end}
use Rattle.rebuilt.proofs.InnerLaws.{pieces_none, element_whole, element_fits, elements_behind, element_pieces}
use Rattle.rebuilt.specs.Rebuilt.{pieces_in}
use Rattle.noting.proofs.FrontLaws.{one_further}
use Rattle.noting.specs.Adding.{SomeElements}
use Rattle.noting.specs.Notes.{piece_places, Spotted}

-- One number more.
spotted_next : (spots places : List ℕ) (n spot : ℕ) → Spotted spots places n → n < length places → Spotted (spots ++ (spot ∷ [])) (set places n spot) (n + 1)
spotted_next spots places n spot seen room =
    record {
      size = ap (λ (k : ℕ). k + 1) seen.size ∙ sym (length-append spots (spot ∷ []));
      room = rw (length-set places n spot) (omega arith);
      each = one_further (λ k. get_or (set places n spot) k 0) spots spot (sym seen.size)
          (λ k h. get_or-set_other places n k spot 0 (λ e. omega arith) ∙ seen.each k h) (get_or-set_same places n spot 0 room);
    }

pub piece_size : (body : List ℕ) (place end : ℕ) → place + 3 ≤ end → end ≤ length body → place + 3 + length (part body (place + 3) end) ≡ end
piece_size body place end h k = rw (length-take, length-drop) (omega arith)

pub record ElementsSeen (body places₀ places : List ℕ) (n place : ℕ) : Type 0 where
  pub within : place ≤ length body
  pub few : n ≤ place
  pub same_size : length places ≡ length places₀
  pub left : SomeElements (drop place body)
  pub past : List ℕ
  pub whole_is : piece_places 0 (pieces_in body) ≡ past ++ piece_places place (pieces_in (drop place body))
  pub spotted : Spotted past places n

pub elements_start : (body places : List ℕ) → SomeElements body → ElementsSeen body places places 0 0
elements_start body places all =
    record {
      within = omega arith;
      few = omega arith;
      same_size = refl;
      left = all;
      past = [];
      whole_is = refl;
      spotted = record { size = refl; room = omega arith; each = λ k h. absurd (omega arith) };
    }

module _ {body places₀ places : List ℕ} {n place : ℕ} (seen : ElementsSeen body places₀ places n place) where
  pub elements_done : length body ≤ place → Spotted (piece_places 0 (pieces_in body)) places n
  unfolding piece_places
  elements_done over =
      let all : piece_places 0 (pieces_in body) ≡ seen.past =
      seen.whole_is ∙ ap (λ (l : List Piece). seen.past ++ piece_places place l) (pieces_none body place over) ∙ append-nil seen.past in
      rw all seen.spotted

  module _ (h : place < length body) {r : Option ℕ} (told : r ≡ place_end body place) where
    pub elements_whole : r ≡ None → ⊥
    elements_whole e = element_whole body place seen.left.there h told e

    pub spot_room : length body ≤ length places₀ → n < length places
    spot_room room = omega (arith, seen.few, seen.same_size)

    module _ {end : ℕ} (e : r ≡ Some end) where
      fits : (place + 3 < end) × (end ≤ length body)
      fits = element_fits body place seen.left.there h told e

      pub elements_falls : length body - end < length body - place
      elements_falls = omega (arith, fits.0)

      spots_next : piece_places place (pieces_in (drop place body)) ≡ place ∷ piece_places end (pieces_in (drop end body))
      unfolding piece_places
      spots_next =
          let size : place + 3 + length (part body (place + 3) end) ≡ end = piece_size body place end (omega (arith, fits.0)) fits.1 in
          ap (piece_places place) (element_pieces body place seen.left.there h told e)
          ∙ ap (λ (k : ℕ). place ∷ piece_places k (pieces_in (drop end body))) size

      pub elements_next : length body ≤ length places₀ → ElementsSeen body places₀ (set places n place) (n + 1) end
      elements_next room =
          record {
            within = fits.1;
            few = omega (arith, fits.0, seen.few);
            same_size = length-set places n place ∙ seen.same_size;
            left = record {
              levels = seen.left.levels;
              names = seen.left.names;
              schema = seen.left.schema;
              table = seen.left.table;
              node = seen.left.node;
              there = elements_behind body place seen.left.there h told e;
            };
            past = seen.past ++ (place ∷ []);
            whole_is = seen.whole_is ∙ ap (λ (l : List ℕ). seen.past ++ l) spots_next ∙ sym (append_assoc seen.past (place ∷ []) (piece_places end (pieces_in (drop end body))));
            spotted = spotted_next seen.past places n place seen.spotted (spot_room room);
          }
