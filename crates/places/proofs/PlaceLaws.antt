-- A place by its parts: what it comes to, from its leftover and from what is typed in it.
use Rattle.std.specs.Prelude.{Option, None, Some}
use mathlib.Core.Bool.{Bool, true, false, cond, not, ◌&&◌, ◌||◌}
use mathlib.Core.List.{List, [], ◌∷◌}
use mathlib.Core.Path.{◌≡◌, refl, sym, ap, subst, ◌∙◌}
use Prim.Native.Nat.{ℕ, ◌+◌, ◌≤◌}
use native.Mathlib.Omega.{arith}
use borrow.Author.Tests.{eqb-true}
use lib.Dec.{eqb}
use lib.ListN.{length}
use Rattle.frames.specs.Frames.{piece_in}
use Rattle.paper.specs.Framing.{Piece, pieces_of}
use Rattle.paper.specs.Meaning.{Doc}
use Rattle.paper.specs.Metadata.{Dictionary}
use Rattle.paper.specs.Rows.{leftover, typed, both, Typed, leftover_meaning, place_parts, place_by, place_within}
use Rattle.paper.specs.Rules.{has_leftover, has_typed, leftover_of, is_object, is_array, is_fields_node, is_list_node, named_by, has_any, breaks_a, breaks_b, breaks_c, breaks_d, inside_lawful, place_lawful_by}
use Rattle.paper.specs.Schemas.{Schema}
use Rattle.paper.specs.Words.{at, part, given, and_then}
use Rattle.frames.proofs.FrameLaws.{OneFrame, one_frame, TwoFrames, two_frames, pieces_end_is, pieces_ended}
use Rattle.places.proofs.VerdictLaws.{place_under_lem, place_lawful_lem}
use Rattle.places.specs.Leftovers.{left_broken, beside_broken, with_left}
use Rattle.places.specs.Parts.{part_by, parts_in, parts_by, parts_of}
use Rattle.places.specs.Verdicts.{verdict_of, typed_under, typed_lawful, typed_verdict, place_verdict, broken_if}
use Rattle.places.specs.declared.parts.Parts.TheVariants.{Empty, Leftover, Typed as TypedPart, Both, Unframed}
use Rattle.places.specs.declared.parts.Parts.{Parts}
use Rattle.places.specs.declared.verdicts.Verdict.TheVariants.{Lawful, Broken, Unparsed}

-- ---- from the parts to the pieces

-- One piece of a tag fills the body.
pub record OnePiece (body : List ℕ) (tag : ℕ) : Type 0 where
  pub tagged : at body 0 ≡ tag
  pub pieces : pieces_of body ≡ Some (piece_in body 0 (length body) ∷ [])
  pub long : 3 ≤ length body

-- A leftover's piece up to a place, and behind it one of something typed.
pub record TwoPieces (body : List ℕ) (end : ℕ) : Type 0 where
  pub first_tag : at body 0 ≡ 0x41
  pub second_tag : at body end ≡ 0x42
  pub pieces : pieces_of body ≡ Some (piece_in body 0 end ∷ piece_in body end (length body) ∷ [])
  pub first_long : 3 ≤ end
  pub second_long : end + 3 ≤ length body

-- What the parts tell of the body.
abbrev pub Told : List ℕ → Parts → Type 0
Told body Empty = length body ≡ 0
Told body Leftover = OnePiece body 0x41
Told body TypedPart = OnePiece body 0x42
Told body (Both end) = TwoPieces body end
Told body Unframed = (left : List ℕ → Option Doc) (right : List ℕ → Option Typed) → and_then (pieces_of body) (place_parts left right) ≡ None

module _ (body : List ℕ) where
  told_one : (first : Piece) → pieces_of body ≡ Some (first ∷ []) → Told body (part_by first.tag)
  unfolding part_by
  told_one first e = go (eqb first.tag 0x41) refl (eqb first.tag 0x42) refl
    where
      f : OneFrame body first
      f = one_frame body first e

      one : (tag : ℕ) → first.tag ≡ tag → OnePiece body tag
      one tag g =
          record {
            tagged = ap (λ (p : Piece). p.tag) (sym f.is) ∙ g;
            pieces = e ∙ ap (λ (p : Piece). Some (p ∷ [])) f.is;
            long = f.long;
          }

      go : (b : Bool) → eqb first.tag 0x41 ≡ b → (c : Bool) → eqb first.tag 0x42 ≡ c → Told body (cond b Leftover (cond c TypedPart Unframed))
      go true g c h = one 0x41 (eqb-true first.tag 0x41 g)
      go false g true h = one 0x42 (eqb-true first.tag 0x42 h)
      go false g false h = λ left right. unfold and_then in unfold place_parts in unfold given in rw (e, g, h)

  told_two : (first second : Piece) → pieces_of body ≡ Some (first ∷ second ∷ [])
      → Told body (cond (eqb first.tag 0x41 && eqb second.tag 0x42) (Both (3 + length first.body)) Unframed)
  told_two first second e = go (eqb first.tag 0x41) refl (eqb second.tag 0x42) refl
    where
      f : TwoFrames body first second
      f = two_frames body first second e

      two : first.tag ≡ 0x41 → second.tag ≡ 0x42 → TwoPieces body f.end
      two left right =
          record {
            first_tag = ap (λ (p : Piece). p.tag) (sym f.first_is) ∙ left;
            second_tag = ap (λ (p : Piece). p.tag) (sym f.second_is) ∙ right;
            pieces = e ∙ rw (← f.first_is, ← f.second_is);
            first_long = f.first_long;
            second_long = f.second_long;
          }

      go : (b : Bool) → eqb first.tag 0x41 ≡ b → (c : Bool) → eqb second.tag 0x42 ≡ c → Told body (cond (b && c) (Both (3 + length first.body)) Unframed)
      go true h true k = rw f.size (two (eqb-true first.tag 0x41 h) (eqb-true second.tag 0x42 k))
      go true h false k = λ left right. unfold and_then in unfold place_parts in unfold given in rw (e, h, k)
      go false h c k = λ left right. unfold and_then in unfold place_parts in unfold given in rw (e, h)

  pub told : Told body (parts_of body)
  unfolding parts_of parts_by parts_in
  told = go (pieces_of body) refl
    where
      go : (x : Option (List Piece)) → pieces_of body ≡ x → Told body (parts_by x)
      go None e = λ left right. unfold and_then in rw e
      go (Some []) e = let over = pieces_end_is body 0 e in omega arith
      go (Some (first ∷ [])) e = told_one first e
      go (Some (first ∷ second ∷ [])) e = told_two first second e
      go (Some (first ∷ second ∷ third ∷ more)) e = λ left right. unfold and_then in unfold place_parts in rw e

-- ---- what a place comes to

-- ---- the rules, by what a place holds

module _ (node : Schema) (typed_lawful : Typed → Bool) where
  left_lawful : (d : Doc) → place_lawful_by node typed_lawful (leftover d) ≡ not (left_broken node d)
  unfolding place_lawful_by breaks_a breaks_b breaks_c breaks_d has_leftover has_typed leftover_of inside_lawful left_broken
  left_lawful d = go ((is_object d && is_fields_node node) || (is_array d && is_list_node node))
    where
      go : (b : Bool) → not b && true ≡ not b
      go true = refl
      go false = refl

  typed_lawful_lem : (t : Typed) → place_lawful_by node typed_lawful (typed t) ≡ typed_lawful t
  unfolding place_lawful_by breaks_a breaks_b breaks_c breaks_d has_leftover has_typed leftover_of inside_lawful
  typed_lawful_lem t = refl

  both_lawful : (d : Doc) (t : Typed) → place_lawful_by node typed_lawful (both d t) ≡ not (beside_broken node d) && typed_lawful t
  unfolding place_lawful_by breaks_a breaks_b breaks_c breaks_d has_leftover has_typed leftover_of inside_lawful beside_broken
  both_lawful d t = go (is_fields_node node) (is_object d) (has_any (named_by node) d)
    where
      go : (a b c : Bool) → not (not a || (not b || (c || false))) && typed_lawful t ≡ not (not a || (not b || c)) && typed_lawful t
      go false b c = refl
      go true false c = refl
      go true true true = refl
      go true true false = refl

module _ (node : Schema) (levels : ℕ) (names : Dictionary) (body : List ℕ) where
  left : List ℕ → Option Doc
  left = leftover_meaning levels names

  right : List ℕ → Option Typed
  right = typed_under node levels names

  by_parts : place_verdict node levels names body ≡ verdict_of (and_then (pieces_of body) (place_parts left right)) (place_lawful_by node (typed_lawful node names))
  unfolding place_verdict left right place_within place_by given
  by_parts = rw (place_under_lem node levels names, place_lawful_lem node names)

  pub place_empty : Told body Empty → place_verdict node levels names body ≡ Lawful
  unfolding and_then place_parts verdict_of place_lawful_by breaks_a breaks_b breaks_c breaks_d has_leftover has_typed leftover_of is_object is_array inside_lawful
  place_empty e = by_parts ∙ rw (pieces_ended body 0 (omega arith))

  pub place_unframed : Told body Unframed → place_verdict node levels names body ≡ Unparsed
  unfolding verdict_of
  place_unframed e = by_parts ∙ rw (e left right)

  pub place_left : Told body Leftover
      → place_verdict node levels names body ≡ with_left (leftover_meaning levels names (part body 3 (length body))) λ d. broken_if (left_broken node d) Lawful
  unfolding and_then place_parts left right verdict_of with_left
  place_left told = by_parts ∙ rw (told.pieces, told.tagged) (go (leftover_meaning levels names (part body 3 (length body))))
    where
      kept : (b : Bool) → cond (not b) Lawful Broken ≡ broken_if b Lawful
      kept true = refl
      kept false = refl

      go : (x : Option Doc) → verdict_of (and_then x λ d. Some (leftover d)) (place_lawful_by node (typed_lawful node names)) ≡ with_left x λ d. broken_if (left_broken node d) Lawful
      go None = refl
      go (Some d) = rw (left_lawful node (typed_lawful node names) d) (kept (left_broken node d))

  pub place_typed : Told body TypedPart → place_verdict node levels names body ≡ typed_verdict node levels names (part body 3 (length body))
  unfolding and_then place_parts left right verdict_of typed_verdict given
  place_typed told = by_parts ∙ rw (told.pieces, told.tagged) (go (typed_under node levels names (part body 3 (length body))))
    where
      go : (x : Option Typed) → verdict_of (and_then x λ t. Some (typed t)) (place_lawful_by node (typed_lawful node names)) ≡ verdict_of x (typed_lawful node names)
      go None = refl
      go (Some t) = rw (typed_lawful_lem node (typed_lawful node names) t)

  pub place_both : (end : ℕ) → Told body (Both end)
      → place_verdict node levels names body
      ≡ with_left (leftover_meaning levels names (part body 3 end)) λ d. broken_if (beside_broken node d) (typed_verdict node levels names (part body (end + 3) (length body)))
  unfolding and_then place_parts left right verdict_of with_left typed_verdict given
  place_both end told =
      by_parts
      ∙ rw (told.pieces, told.first_tag, told.second_tag)
      (go (leftover_meaning levels names (part body 3 end)) (typed_under node levels names (part body (end + 3) (length body))))
    where
      kept : (b c : Bool) → cond (not b && c) Lawful Broken ≡ broken_if b (cond c Lawful Broken)
      kept true true = refl
      kept true false = refl
      kept false c = refl

      unread : (b : Bool) → Unparsed ≡ broken_if b Unparsed
      unread true = refl
      unread false = refl

      go : (x : Option Doc) (y : Option Typed) → verdict_of (and_then x λ d. and_then y λ t. Some (both d t)) (place_lawful_by node (typed_lawful node names))
          ≡ with_left x λ d. broken_if (beside_broken node d) (verdict_of y (typed_lawful node names))
      go None y = refl
      go (Some d) None = unread (beside_broken node d)
      go (Some d) (Some t) = rw (both_lawful node (typed_lawful node names) d t) (kept (beside_broken node d) (typed_lawful node names t))

-- ---- for the walker: by the parts that it was told

pub told_by : (body : List ℕ) {p q : Parts} → p ≡ parts_of body → p ≡ q → Told body q
told_by body {p} {q} is e = subst (Told body) (sym is ∙ e) (told body)

pub one_long : (body : List ℕ) {p : Parts} → p ≡ parts_of body → p ≡ Leftover → 3 ≤ length body
one_long body is e = let piece : OnePiece body 0x41 = told_by body is e in piece.long

pub typed_long : (body : List ℕ) {p : Parts} → p ≡ parts_of body → p ≡ TypedPart → 3 ≤ length body
typed_long body is e = let piece : OnePiece body 0x42 = told_by body is e in piece.long

pub both_long : (body : List ℕ) {p : Parts} → p ≡ parts_of body → {middle : ℕ} → p ≡ Both middle → (3 ≤ middle) × (middle + 3 ≤ length body)
both_long body is {middle} e = let pieces : TwoPieces body middle = told_by body is e in (pieces.first_long, pieces.second_long)
