-- What a place that parsed holds, by its parts; what its rules say of it; and that its inner pieces are no longer than it.
use Rattle.std.specs.Prelude.{Option, None, Some}
use mathlib.Core.Bool.{Bool, true, false, not, ◌&&◌, ◌||◌}
use mathlib.Core.List.{List, [], ◌∷◌}
use mathlib.Core.Path.{◌≡◌, refl, sym, ap, subst, ◌∙◌}
use Prim.Native.Nat.{ℕ, ◌+◌, ◌-◌, ◌≤◌}
use native.Mathlib.Omega.{arith}
use lib.Dec.{eqb}
use lib.ListN.{length, drop, length-take, length-drop}
use Rattle.forms.proofs.LieLaws.{Bytes, bytes_drop, bytes_take}
use Rattle.frames.proofs.FrameLaws.{pieces_ended, pieces_first_is}
use Rattle.paper.proofs.WordLaws.{never, given_some, then_some, and_both, some_there}
use Rattle.paper.specs.Bounds.{most_walked}
use Rattle.paper.specs.Framing.{Piece, pieces_within, pieces_of}
use Rattle.paper.specs.Meaning.{Doc, null, scalar, array, object, Fields}
use Rattle.paper.specs.Metadata.{Dictionary}
use Rattle.paper.specs.Rebuilding.{place_meaning_by}
use Rattle.paper.specs.Rows.{Place, empty, leftover, typed, both, Typed, leftover_meaning, place_parts, place_by, place_within, place_under}
use Rattle.paper.specs.Rules.{has_leftover, has_typed, leftover_of, is_object, is_fields_node, named_by, any_named, has_any, breaks_a, breaks_b, breaks_c, breaks_d, breaks_f, inside_lawful, place_lawful_by, place_lawful}
use Rattle.paper.specs.Schemas.{Schema}
use Rattle.paper.specs.Words.{part, given, and_then, is_there, among}
use Rattle.places.proofs.PlaceLaws.{Told, told}
use Rattle.places.proofs.VerdictLaws.{place_under_lem, place_lawful_lem}
use Rattle.places.specs.Parts.{parts_in, parts_by, parts_of}
use Rattle.places.specs.Verdicts.{typed_under, typed_lawful}
use Rattle.places.specs.declared.parts.Parts.TheVariants.{Empty, Leftover, Typed as TypedPart, Both, Unframed}
use Rattle.places.specs.declared.parts.Parts.{Parts}
use Rattle.std.proofs.lemmas.Option.{same_Some}

-- ---- what a place holds

pub data Held (left : List ℕ → Option Doc) (right : List ℕ → Option Typed) (body : List ℕ) : Parts → Place → Type 0 where
  nothing_held : length body ≡ 0 → Held left right body Empty empty
  left_held : {d : Doc} → left (part body 3 (length body)) ≡ Some d → Held left right body Leftover (leftover d)
  typed_held : {t : Typed} → right (part body 3 (length body)) ≡ Some t → Held left right body TypedPart (typed t)
  both_held : {middle : ℕ} {d : Doc} {t : Typed} → left (part body 3 middle) ≡ Some d → right (part body (middle + 3) (length body)) ≡ Some t
      → Held left right body (Both middle) (both d t)

module _ (left : List ℕ → Option Doc) (right : List ℕ → Option Typed) (body : List ℕ) (p : Place) where
  place_held : and_then (pieces_of body) (place_parts left right) ≡ Some p → Held left right body (parts_of body) p
  unfolding and_then place_parts given is_there
  place_held e = go (parts_of body) (told body)
    where
      beside : (middle : ℕ) (d : Doc) → left (part body 3 middle) ≡ Some d
          → and_then (right (part body (middle + 3) (length body))) (λ t. Some (both d t)) ≡ Some p → Held left right body (Both middle) p
      beside middle d meant f =
          let read = then_some (right (part body (middle + 3) (length body))) (λ t. Some (both d t)) f in
          subst (Held left right body (Both middle)) (same_Some (both d read.0) p read.2) (both_held meant read.1)

      go : (q : Parts) → Told body q → Held left right body q p
      go Empty t =
          let is : empty ≡ p = same_Some empty p (rw (pieces_ended body 0 (omega arith)) at e) in
          subst (Held left right body Empty) is (nothing_held t)
      go Leftover t =
          let meant = then_some (left (part body 3 (length body))) (λ d. Some (leftover d)) (rw (t.pieces, t.tagged) at e) in
          subst (Held left right body Leftover) (same_Some (leftover meant.0) p meant.2) (left_held meant.1)
      go TypedPart t =
          let read = then_some (right (part body 3 (length body))) (λ t. Some (typed t)) (rw (t.pieces, t.tagged) at e) in
          subst (Held left right body TypedPart) (same_Some (typed read.0) p read.2) (typed_held read.1)
      go (Both middle) t =
          let meant = then_some (left (part body 3 middle)) _ (rw (t.pieces, t.first_tag, t.second_tag) at e) in
          beside middle meant.0 meant.1 meant.2
      go Unframed t = never (sym (some_there None (sym (t left right) ∙ e)))

pub under_held : (under : Schema) (levels : ℕ) (names : Dictionary) (piece : Piece) (p : Place) → place_under under levels names piece ≡ Some p
    → Held (leftover_meaning levels names) (typed_under under levels names) piece.body (parts_of piece.body) p
unfolding place_within place_by
under_held under levels names piece p e =
    let by : place_within levels names (typed_under under levels names) piece ≡ Some p = rw (place_under_lem under levels names) at e in
    let tagged = given_some (eqb piece.tag 0x50) _ by in
    place_held (leftover_meaning levels names) (typed_under under levels names) piece.body p tagged.1

-- ---- empty or not

module _ {left : List ℕ → Option Doc} {right : List ℕ → Option Typed} where
  pub empty_held : {p : Place} → Held left right [] (parts_of []) p → p ≡ empty
  unfolding parts_of parts_by parts_in pieces_of pieces_within
  empty_held (nothing_held none_left) = refl

  pub present_held : {b : ℕ} {bs : List ℕ} {q : Parts} {p : Place} → Held left right (b ∷ bs) q p → has_leftover p || has_typed p ≡ true
  unfolding has_leftover has_typed
  present_held (nothing_held none_left) = absurd (omega arith)
  present_held (left_held e) = refl
  present_held (typed_held e) = refl
  present_held (both_held e f) = refl

pub present_meant : (means : Typed → Doc) (p : Place) → has_leftover p || has_typed p ≡ true → is_there (place_meaning_by means p) ≡ true
unfolding has_leftover has_typed place_meaning_by is_there
present_meant means empty e = e
present_meant means (leftover d) e = refl
present_meant means (typed t) e = refl
present_meant means (both d t) e = refl

pub present_named : (names : Dictionary) (name : List ℕ) (p : Place) → has_leftover p || has_typed p ≡ true → not (breaks_f names name p) ≡ true → among name names ≡ true
unfolding breaks_f
present_named names name p present keeps = go (has_leftover p || has_typed p) (among name names) present keeps
  where
    go : (a b : Bool) → a ≡ true → not (a && not b) ≡ true → b ≡ true
    go true true e f = refl
    go true false e f = never (sym f)
    go false b e f = never (sym e)

-- ---- what the rules say

pub typed_keeps : (node : Schema) (names : Dictionary) (t : Typed) → place_lawful node names (typed t) ≡ true → typed_lawful node names t ≡ true
unfolding place_lawful_by breaks_a breaks_b breaks_c breaks_d has_leftover has_typed inside_lawful
typed_keeps node names t lawful = rw (place_lawful_lem node names) at lawful

-- Both together: the leftover is an object, with none of the node's names.
pub record BothKeep (node : Schema) (names : Dictionary) (d : Doc) (t : Typed) : Type 0 where
  pub on_fields : is_fields_node node ≡ true
  pub fs : Fields
  pub is : d ≡ object fs
  pub apart : any_named (named_by node) fs ≡ false
  pub inside : typed_lawful node names t ≡ true

is_object_lem : (d : Doc) → is_object d ≡ true → (fs : Fields) × (d ≡ object fs)
unfolding is_object
is_object_lem null e = never (sym e)
is_object_lem (scalar s) e = never (sym e)
is_object_lem (array ds) e = never (sym e)
is_object_lem (object fs) e = (fs, refl)

pub both_keep : (node : Schema) (names : Dictionary) (d : Doc) (t : Typed) → place_lawful node names (both d t) ≡ true → BothKeep node names d t
unfolding place_lawful_by breaks_a breaks_b breaks_c breaks_d has_leftover has_typed leftover_of inside_lawful has_any
both_keep node names d t lawful =
    let both : not (not (is_fields_node node) || (not (is_object d) || (has_any (named_by node) d || false))) && typed_lawful node names t ≡ true =
    rw (place_lawful_lem node names) at lawful in
    let own = and_both _ (typed_lawful node names t) both in
    let three = go (is_fields_node node) (is_object d) (has_any (named_by node) d) own.0 in
    let members = is_object_lem d three.1 in
    record {
      on_fields = three.0;
      fs = members.0;
      is = members.1;
      apart = ap (has_any (named_by node)) (sym members.1) ∙ three.2;
      inside = own.1;
    }
  where
    go : (a b c : Bool) → not (not a || (not b || (c || false))) ≡ true → (a ≡ true) × (b ≡ true) × (c ≡ false)
    go false b c e = never (sym e)
    go true false c e = never (sym e)
    go true true true e = never (sym e)
    go true true false e = (refl, refl, refl)

-- ---- inner pieces

pub record Fits (s : List ℕ) : Type 0 where
  pub bytes : Bytes s
  pub small : length s ≤ most_walked

pub part_fits : (s : List ℕ) (from to : ℕ) → Fits s → Fits (part s from to)
part_fits s from to fits =
    let few = fits.small in
    record { bytes = bytes_take (to - from) (drop from s) (bytes_drop from s fits.bytes); small = rw (length-take, length-drop) (omega arith) }

pub data AllFit : List Piece → Type 0 where
  none_fit : AllFit []
  one_fits : {piece : Piece} {more : List Piece} → Fits piece.body → AllFit more → AllFit (piece ∷ more)

module _ (s : List ℕ) (fits : Fits s) where
  fit_from : (pieces : List Piece) (place : ℕ) → pieces_of (drop place s) ≡ Some pieces → AllFit pieces
  fit_from [] place e = none_fit
  fit_from (first ∷ more) place e =
      let here = pieces_first_is s place first more e in
      let own : Fits first.body = subst (λ (q : Piece). Fits q.body) (sym here.is) (part_fits s (place + 3) here.end fits) in
      one_fits own (fit_from more here.end here.behind)

  pub pieces_fit : (pieces : List Piece) → pieces_of s ≡ Some pieces → AllFit pieces
  pieces_fit pieces e = fit_from pieces 0 e
