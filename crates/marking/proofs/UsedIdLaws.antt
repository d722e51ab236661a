-- The ids inside a lawful value: each is below the dictionary's count, and their names are the names that its document uses.
use Rattle.std.specs.Prelude.{Option, None, Some}
use mathlib.Core.Bool.{Bool, true, false, ◌&&◌, ◌||◌}
use mathlib.Core.List.{List, [], ◌∷◌, ◌++◌, map-append}
use mathlib.Core.Path.{◌≡◌, refl, sym, ap, ◌∙◌}
use Prim.Native.Nat.{ℕ, zero, suc, ◌+◌, ◌*◌, ◌≤◌}
use native.Mathlib.Nat.{suc-mul}
use native.Mathlib.Numerals.{add-one}
use native.Mathlib.Omega.{arith}
use lib.Dec.{ltb, eqb}
use lib.ListN.{length, get_or, drop, length-drop, length-map}
use Rattle.marking.specs.Ids.{ids_of_all, ids_inside, ids_by, ids_in}
use Rattle.names.specs.Used.{used_in, used_in_all, used_in_fields}
use Rattle.numbers.specs.Little.{number_at}
use Rattle.paper.proofs.MeaningLaws.{prefixed_doc, string_is, prefixed_is}
use Rattle.paper.specs.FirstBytes.{reading_of}
use Rattle.paper.specs.Meaning.{boolean, payload, text, Doc, null, scalar, array, object, Docs, no_docs, doc, Fields, no_fields, field}
use Rattle.paper.specs.Metadata.{Dictionary, rising}
use Rattle.paper.specs.Values.{head_size_of, child_bytes, area_of, starts_of, ids_of, names_at, elements_of, members_of, primitive_meaning, element_docs, member_docs, meaning_by, meaning_of, whole}
use Rattle.paper.specs.declared.Child.{Child}
use Rattle.paper.specs.Words.{at, same, among, all_below, is_there}
use Rattle.paper.specs.declared.Reading.TheVariants.{Fixed, Prefixed, Short, ObjectHead, ArrayHead, Nothing}
use Rattle.paper.specs.declared.Reading.{Reading}
use Rattle.runs.proofs.NumbersRunLaws.{run_length}
use Rattle.forms.proofs.LieLaws.{elements_lie, members_lie, lie_count}
use Rattle.heads.proofs.HeadLaws.{Spans, object_spans}
use Rattle.heads.proofs.ReadingLaws.{object_sizes}
use Rattle.paper.proofs.WordLaws.{never, given_some, then_some, some_there, and_both}
use Rattle.values.proofs.PrimitiveLaws.{whole_extent}
use Rattle.std.proofs.lemmas.Option.{same_Some}

-- ---- ids, then more ids

below_append : (bound : ℕ) (ids more : List ℕ) → all_below bound ids ≡ true → all_below bound more ≡ true → all_below bound (ids ++ more) ≡ true
unfolding all_below
below_append bound [] more e f = f
below_append bound (id ∷ ids) more e f =
    let both = and_both (ltb id bound) (all_below bound ids) e in
    rw both.0 (below_append bound ids more both.1 f)

among_append : (name : List ℕ) (names more : List (List ℕ)) → among name (names ++ more) ≡ among name names || among name more
unfolding among
among_append name [] more = refl
among_append name (first ∷ names) more = go (same first name) (among_append name names more)
  where
    go : (b : Bool) → among name (names ++ more) ≡ among name names || among name more
        → b || among name (names ++ more) ≡ (b || among name names) || among name more
    go true e = refl
    go false e = e

among_ids : (names : Dictionary) (name : List ℕ) (ids more : List ℕ)
    → among name (names_at names (ids ++ more)) ≡ among name (names_at names ids) || among name (names_at names more)
unfolding names_at
among_ids names name ids more =
    ap (among name) (map-append (λ (id : ℕ). get_or names id []) ids more) ∙ among_append name (names_at names ids) (names_at names more)

-- ---- ids against the names that are used

-- The ids are below the dictionary's count, and their names are those that are used.
record Names (names : Dictionary) (ids : List ℕ) (used : List ℕ → Bool) : Type 0 where
  below : all_below (length names) ids ≡ true
  exact : (name : List ℕ) → among name (names_at names ids) ≡ used name

none_used : (names : Dictionary) → Names names [] (λ name. false)
unfolding all_below names_at among
none_used names = record { below = refl; exact = λ name. refl }

both_used : {names : Dictionary} {ids more : List ℕ} {used further : List ℕ → Bool} → Names names ids used → Names names more further
    → Names names (ids ++ more) (λ name. used name || further name)
both_used {names} {ids} {more} {used} {further} first second =
    record {
      below = below_append (length names) ids more first.below second.below;
      exact = λ name. among_ids names name ids more ∙ ap (λ (b : Bool). b || among name (names_at names more)) (first.exact name)
          ∙ ap (λ (b : Bool). used name || b) (second.exact name);
    }

-- ---- inside children

module _ (names : Dictionary) (inner : List ℕ → Option Doc) (ids : List ℕ → List ℕ)
    (each : (s : List ℕ) (d : Doc) → inner s ≡ Some d → Names names (ids s) (λ name. used_in name d)) (area : List ℕ) where
  elements_used : (children : List Child) (ds : Docs) → element_docs inner area children ≡ Some ds
      → Names names (ids_of_all ids area children) (λ name. used_in_all name ds)
  unfolding element_docs ids_of_all used_in
  elements_used [] ds e = rw (← same_Some no_docs ds e) (none_used names)
  elements_used (child ∷ more) ds e =
      let first = then_some (inner (child_bytes area child)) _ e in
      let rest = then_some (element_docs inner area more) _ first.2 in
      rw (← same_Some (doc first.0 rest.0) ds rest.2)
      (both_used (each (child_bytes area child) first.0 first.1) (elements_used more rest.0 rest.1))

  -- The names of an object's own ids come first, so that those inside its children are told beside them.
  members_used : (fields : List (List ℕ)) (children : List Child) (fs : Fields) → length fields ≡ length children
      → member_docs inner area fields children ≡ Some fs
      → (all_below (length names) (ids_of_all ids area children) ≡ true)
      × ((name : List ℕ) → among name fields || among name (names_at names (ids_of_all ids area children)) ≡ used_in_fields name fs)
  unfolding member_docs ids_of_all used_in among all_below names_at
  members_used [] [] fs count e = rw (← same_Some no_fields fs e) (refl, λ name. refl)
  members_used [] (child ∷ more) fs count e = absurd (omega arith)
  members_used (field-name ∷ fields) [] fs count e = absurd (omega arith)
  members_used (field-name ∷ fields) (child ∷ more) fs count e =
      let first = then_some (inner (child_bytes area child)) _ e in
      let rest = then_some (member_docs inner area fields more) _ first.2 in
      let own = each (child_bytes area child) first.0 first.1 in
      let others = members_used fields more rest.0 (omega arith) rest.1 in
      rw (← same_Some (field field-name first.0 rest.0) fs rest.2) (
        below_append (length names) (ids (child_bytes area child)) (ids_of_all ids area more) own.below others.0,
        λ name. ap (λ (b : Bool). (same field-name name || among name fields) || b)
            (among_ids names name (ids (child_bytes area child)) (ids_of_all ids area more)
            ∙ ap (λ (b : Bool). b || among name (names_at names (ids_of_all ids area more))) (own.exact name))
            ∙ regroup (same field-name name) (among name fields) (used_in name first.0) (among name (names_at names (ids_of_all ids area more)))
            ∙ ap (λ (b : Bool). same field-name name || (used_in name first.0 || b)) (others.1 name),
      )
    where
      regroup : (a b c d : Bool) → (a || b) || (c || d) ≡ a || (c || (b || d))
      regroup true b c d = refl
      regroup false true true d = refl
      regroup false true false d = refl
      regroup false false c d = refl

-- ---- a value by its first byte

-- A scalar uses no name.
primitive_used : (type : ℕ) (s : List ℕ) (d : Doc) → primitive_meaning type s ≡ Some d → (name : List ℕ) → false ≡ used_in name d
unfolding primitive_meaning used_in
primitive_used zero s d e name = rw (← same_Some null d e)
primitive_used (suc zero) s d e name = rw (← same_Some (scalar (boolean true)) d e)
primitive_used (suc (suc zero)) s d e name = rw (← same_Some (scalar (boolean false)) d e)
primitive_used (suc (suc (suc more))) s d e name =
    let type : ℕ = suc (suc (suc more)) in
    rw (← same_Some (scalar (payload type s)) d (given_some _ (Some (scalar (payload type s))) e).1)

unused : (names : Dictionary) (d : Doc) → ((name : List ℕ) → false ≡ used_in name d) → Names names [] (λ name. used_in name d)
unused names d e = record { below = (none_used names).below; exact = λ name. (none_used names).exact name ∙ e name }

-- An object has as many ids as starts.
ids_starts : (s : List ℕ) (c i w n : ℕ) → Spans s c i w n → 1 ≤ i → 1 ≤ w → length (ids_of c i s) ≡ length (starts_of c i w s)
unfolding ids_of starts_of head_size_of
ids_starts s c i w n spans id_least least =
    let count : ℕ = number_at s 1 c in
    let all : 1 + c + count * i + (count + 1) * w ≤ length s = spans.head_there in
    let one : (count + 1) * w ≡ count * w + w = rw (add-one count, suc-mul) in
    run_length i count (drop (1 + c) s) id_least (rw length-drop (omega arith))
    ∙ sym (run_length w count (drop (1 + c + count * i) s) least (rw length-drop (omega arith)))

module _ (names : Dictionary) (inner : List ℕ → Option Doc) (ids : List ℕ → List ℕ)
    (each : (s : List ℕ) (d : Doc) → inner s ≡ Some d → Names names (ids s) (λ name. used_in name d)) (s : List ℕ) (fills : whole s ≡ true) where
  array_used : (c w : ℕ) (children : List Child) → elements_of c w s ≡ Some children → (ds : Docs) → element_docs inner (area_of c 0 w s) children ≡ Some ds
      → Names names (ids_by ids (ArrayHead c w) s) (λ name. used_in name (array ds))
  unfolding ids_by ids_inside used_in
  array_used c w children lie ds e =
      rw (elements_lie s c w children lie).are (elements_used names inner ids each (area_of c 0 w s) children ds e)

  object_used : (c i w : ℕ) → reading_of (at s 0) ≡ ObjectHead c i w → (children : List Child) → members_of names c i w s ≡ Some children
      → (fs : Fields) → member_docs inner (area_of c i w s) (names_at names (ids_of c i s)) children ≡ Some fs
      → Names names (ids_by ids (ObjectHead c i w) s) (λ name. used_in name (object fs))
  unfolding ids_by ids_inside used_in members_of names_at
  object_used c i w is children lie fs e =
      let sizes = object_sizes (at s 0) is in
      let lies = members_lie names s c i w children lie in
      let own = (given_some (all_below (length names) (ids_of c i s) && rising (names_at names (ids_of c i s))) _ lie).0 in
      let count : length (names_at names (ids_of c i s)) ≡ length children =
      length-map (ids_of c i s) (λ (id : ℕ). get_or names id [])
      ∙ ids_starts s c i w (length s) (object_spans s is (whole_extent s fills)) sizes.1.0 sizes.2.0 ∙ sym (lie_count lies) in
      let inside = members_used names inner ids each (area_of c i w s) (names_at names (ids_of c i s)) children fs count e in
      rw lies.are
      (record {
        below = below_append (length names) (ids_of c i s) (ids_of_all ids (area_of c i w s) children)
            (and_both (all_below (length names) (ids_of c i s)) _ own).0 inside.0;
        exact = λ name. among_ids names name (ids_of c i s) (ids_of_all ids (area_of c i w s) children) ∙ inside.1 name;
      })

  used_by : (d : Doc) (r : Reading) → reading_of (at s 0) ≡ r → meaning_by inner names r s ≡ Some d → Names names (ids_by ids r s) (λ name. used_in name d)
  unfolding meaning_by ids_by is_there used_in
  used_by d (Fixed type size) is e = unused names d (primitive_used type (drop 1 s) d e)
  used_by d (Prefixed type) is e =
      rw (prefixed_is (eqb type 16) type (drop 5 s) e) (unused names (prefixed_doc (eqb type 16) type (drop 5 s)) (λ name. refl))
  used_by d (Short size) is e = rw (string_is (drop 1 s) e) (unused names (scalar (text (drop 1 s))) (λ name. refl))
  used_by d (ObjectHead c i w) is e =
      let lie = then_some (members_of names c i w s) _ e in
      let inside = then_some (member_docs inner (area_of c i w s) (names_at names (ids_of c i s)) lie.0) _ lie.2 in
      rw (← same_Some (object inside.0) d inside.2) (object_used c i w is lie.0 lie.1 inside.0 inside.1)
  used_by d (ArrayHead c w) is e =
      let lie = then_some (elements_of c w s) _ e in
      let inside = then_some (element_docs inner (area_of c 0 w s) lie.0) _ lie.2 in
      rw (← same_Some (array inside.0) d inside.2) (array_used c w lie.0 lie.1 inside.0 inside.1)
  used_by d Nothing is e = never (sym (some_there None e))

-- ---- any value

ids_names : (levels : ℕ) (names : Dictionary) (s : List ℕ) (d : Doc) → meaning_of levels names s ≡ Some d
    → Names names (ids_in levels s) (λ name. used_in name d)
unfolding meaning_of ids_in is_there
ids_names zero names s d e = never (sym (some_there None e))
ids_names (suc levels) names s d e =
    let told = given_some (whole s) _ e in
    used_by names (meaning_of levels names) (ids_in levels) (λ t c f. ids_names levels names t c f) s told.0 d (reading_of (at s 0)) refl told.1

pub ids_below_lem : (levels : ℕ) (names : Dictionary) (s : List ℕ) (d : Doc) → meaning_of levels names s ≡ Some d
    → all_below (length names) (ids_in levels s) ≡ true
ids_below_lem levels names s d e = (ids_names levels names s d e).below

pub ids_used : (levels : ℕ) (names : Dictionary) (s : List ℕ) (d : Doc) → meaning_of levels names s ≡ Some d
    → (name : List ℕ) → among name (names_at names (ids_in levels s)) ≡ used_in name d
ids_used levels names s d e = (ids_names levels names s d e).exact
