-- Inner places one at a time: the verdict of those from a position on, by the first of them and those behind it.
use Rattle.std.specs.Prelude.{Option, None, Some}
use mathlib.Core.Bool.{Bool, true, false, cond, not, ◌&&◌, ◌||◌}
use mathlib.Core.List.{List, ◌∷◌}
use mathlib.Core.Path.{◌≡◌, refl, sym, ap, ◌∙◌}
use Prim.Native.Nat.{ℕ, ◌+◌, ◌-◌, ◌≤◌, ◌<◌}
use native.Mathlib.Omega.{arith}
use borrow.Author.Tests.{eq-eqb, ne_eqb, eqb-true, eqb-false}
use lib.Dec.{eqb}
use lib.ListN.{length, drop, length-take, length-drop}
use Rattle.frames.specs.Frames.{frame_end, piece_in}
use Rattle.paper.specs.Framing.{Piece, pieces_of}
use Rattle.paper.specs.Meaning.{Doc}
use Rattle.paper.specs.Metadata.{Dictionary}
use Rattle.paper.specs.Rows.{Place, empty, leftover, typed, both, Typed, Places, leftover_meaning, place_parts, place_by, place_within, place_under, list_places, field_places}
use Rattle.paper.specs.Rules.{has_leftover, has_typed, breaks_e, breaks_f, elements_lawful, fields_lawful, place_lawful}
use Rattle.paper.specs.Schemas.{Schema, SchemaFields, none_named, named}
use Rattle.paper.specs.Words.{at, part, given, and_then, among, is_there}
use Rattle.frames.proofs.FrameLaws.{by_cut, by_ends, pieces_by, pieces_at, pieces_ended, frame_fits}
use Rattle.paper.proofs.WordLaws.{never, given_some, then_some, some_there}
use Rattle.places.proofs.PlaceLaws.{Told, told}
use Rattle.places.proofs.VerdictLaws.{place_under_lem, worse_unparsed, list_step, fields_step}
use Rattle.places.specs.Frames.{place_end}
use Rattle.places.specs.Parts.{parts_of}
use Rattle.places.specs.Verdicts.{verdict_of, typed_under, place_verdict, elements_verdict, members_verdict, worse, broken_if}
use Rattle.places.specs.declared.parts.Parts.TheVariants.{Empty, Leftover, Typed as TypedPart, Both, Unframed}
use Rattle.places.specs.declared.parts.Parts.{Parts}
use Rattle.places.specs.declared.verdicts.Verdict.TheVariants.{Lawful, Broken, Unparsed}
use Rattle.places.specs.declared.verdicts.Verdict.{Verdict}

-- ---- a place is present exactly when its body has bytes

unfoldable pub present : Place → Bool
present p = has_leftover p || has_typed p

-- Where a test of what is there always comes to the same.
verdict_by : {A : Type 0} (x : Option A) (broken : A → Bool) (b : Bool) (keeps : A → Bool) → ((a : A) → x ≡ Some a → broken a ≡ b)
    → verdict_of x (λ a. not (broken a) && keeps a) ≡ broken_if b (verdict_of x keeps)
unfolding verdict_of
verdict_by None broken true keeps always = refl
verdict_by None broken false keeps always = refl
verdict_by (Some a) broken b keeps always = rw (always a refl) (go b (keeps a))
  where
    go : (b c : Bool) → cond (not b && c) Lawful Broken ≡ broken_if b (cond c Lawful Broken)
    go true true = refl
    go true false = refl
    go false c = refl

module _ (node : Schema) (levels : ℕ) (names : Dictionary) (body : List ℕ) where
  abbrev Held : Option Place
  Held = place_under node levels names (record { tag = 0x50; body = body })

  held_by : Held ≡ and_then (pieces_of body) (place_parts (leftover_meaning levels names) (typed_under node levels names))
  unfolding place_within place_by given
  held_by = rw (place_under_lem node levels names)

  pub place_present : (p : Place) → Held ≡ Some p → present p ≡ not (eqb (length body) 0)
  unfolding and_then place_parts given present has_leftover has_typed is_there
  place_present p e = go (parts_of body) (told body)
    where
      there : and_then (pieces_of body) (place_parts (leftover_meaning levels names) (typed_under node levels names)) ≡ Some p
      there = sym held_by ∙ e

      from_left : (x : Option Doc) → and_then x (λ d. Some (leftover d)) ≡ Some p → present p ≡ true
      from_left x f = let got = then_some x _ f in let is = got.2 in let same : leftover got.0 ≡ p = cc in rw (← same)

      from_typed : (x : Option Typed) → and_then x (λ t. Some (typed t)) ≡ Some p → present p ≡ true
      from_typed x f = let got = then_some x _ f in let is = got.2 in let same : typed got.0 ≡ p = cc in rw (← same)

      from_both : (x : Option Doc) (y : Option Typed) → and_then x (λ d. and_then y λ t. Some (both d t)) ≡ Some p → present p ≡ true
      from_both x y f =
          let got = then_some x _ f in
          let also = then_some y _ got.2 in
          let is = also.2 in
          let same : both got.0 also.0 ≡ p = cc in
          rw (← same)

      long : 3 ≤ length body → true ≡ not (eqb (length body) 0)
      long h = rw (ne_eqb (length body) 0 (λ z. omega arith))

      go : (parts : Parts) → Told body parts → present p ≡ not (eqb (length body) 0)
      go Empty none_left =
          let is : Some empty ≡ Some p = sym (rw (pieces_ended body 0 (omega arith))) ∙ there in
          let same : empty ≡ p = cc in
          rw (← same, none_left)
      go Leftover t = from_left (leftover_meaning levels names (part body 3 (length body))) (rw (t.pieces, t.tagged) at there) ∙ long t.long
      go TypedPart t = from_typed (typed_under node levels names (part body 3 (length body))) (rw (t.pieces, t.tagged) at there) ∙ long t.long
      go (Both end) t =
          let behind = t.second_long in
          from_both (leftover_meaning levels names (part body 3 end)) (typed_under node levels names (part body (end + 3) (length body))) (rw (t.pieces, t.first_tag, t.second_tag) at there) ∙ long (omega arith)
      go Unframed t = never (sym (some_there None (sym (t (leftover_meaning levels names) (typed_under node levels names)) ∙ there)))

  -- Rule e of a list's element.
  pub element_verdict : verdict_of Held (λ p. not (breaks_e p) && place_lawful node names p) ≡ broken_if (eqb (length body) 0) (place_verdict node levels names body)
  unfolding place_verdict breaks_e present
  element_verdict =
      verdict_by Held breaks_e (eqb (length body) 0) (place_lawful node names) (λ p e. ap not (place_present p e) ∙ twice (eqb (length body) 0))
    where
      twice : (b : Bool) → not (not b) ≡ b
      twice true = refl
      twice false = refl

  -- Rule f of a field of a name.
  pub member_verdict : (name : List ℕ)
      → verdict_of Held (λ p. not (breaks_f names name p) && place_lawful node names p)
      ≡ broken_if (not (eqb (length body) 0) && not (among name names)) (place_verdict node levels names body)
  unfolding place_verdict breaks_f present
  member_verdict name =
      verdict_by Held (breaks_f names name) (not (eqb (length body) 0) && not (among name names)) (place_lawful node names)
      (λ p e. ap (λ (b : Bool). b && not (among name names)) (place_present p e))

-- ---- from a position on

-- What the code is told of an inner place's frame.
pub place_cut : (s : List ℕ) (place : ℕ) (r : Option ℕ) → r ≡ place_end s place → r ≡ None → place_end s place ≡ None
unfolding place_end
place_cut s place r is e = by_cut (place_end s place) (sym is ∙ e)

pub place_ends : (s : List ℕ) (place end : ℕ) (r : Option ℕ) → r ≡ place_end s place → r ≡ Some end → place_end s place ≡ Some end
unfolding place_end
place_ends s place end r is e = by_ends (place_end s place) (sym is ∙ e)

pub place_fits : (s : List ℕ) (place end : ℕ) → place_end s place ≡ Some end → (place + 3 ≤ end) × (end ≤ length s)
unfolding place_end
place_fits s place end e = frame_fits s place end (given_some (eqb (at s place) 0x50) (frame_end s place) e).1

pub place_other : (s : List ℕ) (place : ℕ) → (at s place ≡ 0x50 → ⊥) → None ≡ place_end s place
unfolding place_end given
place_other s place other = rw (ne_eqb (at s place) 0x50 other)

pub place_framed : (s : List ℕ) (place : ℕ) → at s place ≡ 0x50 → (r : Option ℕ) → r ≡ frame_end s place → r ≡ place_end s place
unfolding place_end frame_end given
place_framed s place e r is = is ∙ rw e

module _ (s : List ℕ) (place : ℕ) (h : place < length s) {A : Type 0} (read : List Piece → Option A) (keeps : A → Bool) where
  abbrev From : (place : ℕ) → Verdict
  From p = verdict_of (and_then (pieces_of (drop p s)) read) keeps

  -- a frame that does not fit
  from_cut : frame_end s place ≡ None → From place ≡ Unparsed
  unfolding pieces_by and_then verdict_of
  from_cut e = rw (pieces_at s place h, e)

  -- a frame that fits, and how its piece goes together with those behind it
  from_next : (end : ℕ) → frame_end s place ≡ Some end → (one : Verdict) (others : List Piece → Option A) (also : A → Bool)
      → ((more : List Piece) → verdict_of (read (piece_in s place end ∷ more)) keeps ≡ worse one (verdict_of (others more) also))
      → From place ≡ worse one (verdict_of (and_then (pieces_of (drop end s)) others) also)
  unfolding pieces_by and_then
  from_next end e one others also split = rw (pieces_at s place h, e) (go (pieces_of (drop end s)))
    where
      go : (x : Option (List Piece))
          → verdict_of (and_then (and_then x λ more. Some (piece_in s place end ∷ more)) read) keeps ≡ worse one (verdict_of (and_then x others) also)
      go None = unfold verdict_of in sym (worse_unparsed one)
      go (Some more) = split more

  -- a piece that does not read
  from_unread : (end : ℕ) → frame_end s place ≡ Some end → ((more : List Piece) → read (piece_in s place end ∷ more) ≡ None) → From place ≡ Unparsed
  unfolding pieces_by and_then verdict_of
  from_unread end e unread = rw (pieces_at s place h, e) (go (pieces_of (drop end s)))
    where
      go : (x : Option (List Piece)) → verdict_of (and_then (and_then x λ more. Some (piece_in s place end ∷ more)) read) keeps ≡ Unparsed
      go None = refl
      go (Some more) = rw (unread more)

-- A piece of another tag is no place.
other_tag : (node : Schema) (levels : ℕ) (names : Dictionary) (piece : Piece) → (piece.tag ≡ 0x50 → ⊥) → place_under node levels names piece ≡ None
unfolding place_within place_by given
other_tag node levels names piece other = rw (place_under_lem node levels names, ne_eqb piece.tag 0x50 other)

own_tag : (node : Schema) (levels : ℕ) (names : Dictionary) (s : List ℕ) (place end : ℕ) → at s place ≡ 0x50
    → place_under node levels names (piece_in s place end) ≡ place_under node levels names (record { tag = 0x50; body = part s (place + 3) end })
own_tag node levels names s place end e = rw e

body_size : (s : List ℕ) (place end : ℕ) → place + 3 ≤ end → end ≤ length s → eqb (length (part s (place + 3) end)) 0 ≡ eqb (place + 3) end
body_size s place end h k = go (eqb (place + 3) end) refl
  where
    size : length (part s (place + 3) end) ≡ end - (place + 3)
    size = rw (length-take, length-drop) (omega arith)

    go : (b : Bool) → eqb (place + 3) end ≡ b → eqb (length (part s (place + 3) end)) 0 ≡ b
    go true e = let is = eqb-true (place + 3) end e in let long = size in eq-eqb (length (part s (place + 3) end)) 0 (omega arith)
    go false e = let other = eqb-false (place + 3) end e in let long = size in ne_eqb (length (part s (place + 3) end)) 0 (λ z. other (omega arith))

-- ---- a list's places

module _ (element : Schema) (levels : ℕ) (names : Dictionary) (s : List ℕ) where
  pub elements_ended : (place : ℕ) → length s ≤ place → elements_verdict element levels names (drop place s) ≡ Lawful
  unfolding elements_verdict and_then list_places verdict_of elements_lawful
  elements_ended place h = rw (pieces_ended s place h)

  module _ (place : ℕ) (h : place < length s) where
    pub elements_cut : place_end s place ≡ None → elements_verdict element levels names (drop place s) ≡ Unparsed
    unfolding elements_verdict place_end given
    elements_cut e = go (eqb (at s place) 0x50) refl (frame_end s place) refl e
      where
        go : (b : Bool) → eqb (at s place) 0x50 ≡ b → (x : Option ℕ) → frame_end s place ≡ x → given b x ≡ None
            → verdict_of (and_then (pieces_of (drop place s)) (list_places (place_under element levels names))) (elements_lawful (place_lawful element names)) ≡ Unparsed
        go b f None g k = from_cut s place h (list_places (place_under element levels names)) (elements_lawful (place_lawful element names)) g
        go true f (Some end) g k = never (unfold is_there in ap is_there k)
        go false f (Some end) g k =
            from_unread s place h (list_places (place_under element levels names)) (elements_lawful (place_lawful element names)) end g
            (λ more. unfold list_places in unfold and_then in rw (other_tag element levels names (piece_in s place end) (eqb-false (at s place) 0x50 f)))

    pub elements_next : (end : ℕ) → place_end s place ≡ Some end
        → elements_verdict element levels names (drop place s)
        ≡ worse (broken_if (eqb (place + 3) end) (place_verdict element levels names (part s (place + 3) end))) (elements_verdict element levels names (drop end s))
    unfolding elements_verdict place_end
    elements_next end e =
        let told = given_some (eqb (at s place) 0x50) (frame_end s place) e in
        let tag : at s place ≡ 0x50 = eqb-true (at s place) 0x50 told.0 in
        let fits = frame_fits s place end told.1 in
        let one : verdict_of (place_under element levels names (piece_in s place end)) (λ p. not (breaks_e p) && place_lawful element names p)
        ≡ broken_if (eqb (place + 3) end) (place_verdict element levels names (part s (place + 3) end)) =
        ap (λ (x : Option Place). verdict_of x (λ p. not (breaks_e p) && place_lawful element names p)) (own_tag element levels names s place end tag)
        ∙ element_verdict element levels names (part s (place + 3) end)
        ∙ ap (λ (b : Bool). broken_if b (place_verdict element levels names (part s (place + 3) end))) (body_size s place end fits.0 fits.1) in
        from_next s place h (list_places (place_under element levels names)) (elements_lawful (place_lawful element names)) end told.1
        (broken_if (eqb (place + 3) end) (place_verdict element levels names (part s (place + 3) end)))
        (list_places (place_under element levels names)) (elements_lawful (place_lawful element names))
        (λ more. list_step (place_under element levels names) (place_lawful element names) (piece_in s place end) more
        ∙ ap (λ (v : Verdict). worse v (verdict_of (list_places (place_under element levels names) more) (elements_lawful (place_lawful element names)))) one)

-- ---- an object's places, one for each schema field

module _ (levels : ℕ) (names : Dictionary) (s : List ℕ) where
  -- no field is left: nothing may stand there
  pub members_ended : (place : ℕ) → length s ≤ place → members_verdict none_named levels names (drop place s) ≡ Lawful
  unfolding members_verdict and_then field_places verdict_of fields_lawful
  members_ended place h = rw (pieces_ended s place h)

  pub members_more : (place : ℕ) → place < length s → members_verdict none_named levels names (drop place s) ≡ Unparsed
  unfolding members_verdict
  members_more place h = go (frame_end s place) refl
    where
      go : (x : Option ℕ) → frame_end s place ≡ x → verdict_of (and_then (pieces_of (drop place s)) (field_places none_named levels names)) (fields_lawful none_named names) ≡ Unparsed
      go None e = from_cut s place h (field_places none_named levels names) (fields_lawful none_named names) e
      go (Some end) e = from_unread s place h (field_places none_named levels names) (fields_lawful none_named names) end e (λ more. unfold field_places in refl)

  module _ (name : List ℕ) (node : Schema) (columns : SchemaFields) where
    -- a place is missing
    pub members_few : (place : ℕ) → length s ≤ place → members_verdict (named name node columns) levels names (drop place s) ≡ Unparsed
    unfolding members_verdict and_then field_places verdict_of
    members_few place h = rw (pieces_ended s place h)

    module _ (place : ℕ) (h : place < length s) where
      abbrev Read : List Piece → Option Places
      Read = field_places (named name node columns) levels names

      pub members_cut : place_end s place ≡ None → members_verdict (named name node columns) levels names (drop place s) ≡ Unparsed
      unfolding members_verdict place_end given
      members_cut e = go (eqb (at s place) 0x50) refl (frame_end s place) refl e
        where
          go : (b : Bool) → eqb (at s place) 0x50 ≡ b → (x : Option ℕ) → frame_end s place ≡ x → given b x ≡ None
              → verdict_of (and_then (pieces_of (drop place s)) Read) (fields_lawful (named name node columns) names) ≡ Unparsed
          go b f None g k = from_cut s place h Read (fields_lawful (named name node columns) names) g
          go true f (Some end) g k = never (unfold is_there in ap is_there k)
          go false f (Some end) g k =
              from_unread s place h Read (fields_lawful (named name node columns) names) end g
              (λ more. unfold field_places in unfold and_then in rw (other_tag node levels names (piece_in s place end) (eqb-false (at s place) 0x50 f)))

      pub members_next : (end : ℕ) → place_end s place ≡ Some end
          → members_verdict (named name node columns) levels names (drop place s)
          ≡ worse (broken_if (not (eqb (place + 3) end) && not (among name names)) (place_verdict node levels names (part s (place + 3) end)))
          (members_verdict columns levels names (drop end s))
      unfolding members_verdict place_end
      members_next end e =
          let told = given_some (eqb (at s place) 0x50) (frame_end s place) e in
          let tag : at s place ≡ 0x50 = eqb-true (at s place) 0x50 told.0 in
          let fits = frame_fits s place end told.1 in
          let one : verdict_of (place_under node levels names (piece_in s place end)) (λ p. not (breaks_f names name p) && place_lawful node names p)
          ≡ broken_if (not (eqb (place + 3) end) && not (among name names)) (place_verdict node levels names (part s (place + 3) end)) =
          ap (λ (x : Option Place). verdict_of x (λ p. not (breaks_f names name p) && place_lawful node names p)) (own_tag node levels names s place end tag)
          ∙ member_verdict node levels names (part s (place + 3) end) name
          ∙ ap (λ (b : Bool). broken_if (not b && not (among name names)) (place_verdict node levels names (part s (place + 3) end))) (body_size s place end fits.0 fits.1) in
          from_next s place h Read (fields_lawful (named name node columns) names) end told.1
          (broken_if (not (eqb (place + 3) end) && not (among name names)) (place_verdict node levels names (part s (place + 3) end)))
          (field_places columns levels names) (fields_lawful columns names)
          (λ more. fields_step name node columns levels names (piece_in s place end) more
          ∙ ap (λ (v : Verdict). worse v (verdict_of (field_places columns levels names more) (fields_lawful columns names))) one)
