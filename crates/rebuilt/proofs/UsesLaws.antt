-- Some ids against the names that something uses: each is an id of the dictionary, and their names are those used.
use Rattle.dictionary.specs.declared.ids.InputId.{InputId}
use Rattle.std.specs.Prelude.{Option, None, Some}
use mathlib.Core.Bool.{Bool, true, false, not, ◌&&◌, ◌||◌}
use mathlib.Core.List.{List, [], ◌∷◌, ◌++◌, map}
use mathlib.Core.Path.{◌≡◌, refl, sym, ap, ◌∙◌}
use Prim.Native.Nat.{ℕ, ◌<◌}
use native.Mathlib.Omega.{arith}
use borrow.Author.Tests.{lt-ltb, ne_eqb}
use lib.Dec.{eqb}
use lib.ListN.{length, get_or}
use Rattle.lookup.specs.Looking.{Tells, found, missing}
use Rattle.marking.specs.Ids.{ids_in}
use Rattle.names.specs.Used.{used_in, used_in_all, used_in_fields}
use Rattle.paper.specs.Framing.{Piece}
use Rattle.paper.specs.Meaning.{Doc, Fields}
use Rattle.paper.specs.Metadata.{Dictionary}
use Rattle.paper.specs.Rebuilding.{or_null, add_field, list_meaning}
use Rattle.paper.specs.Rows.{Place, Places, no_places, place, list_places}
use Rattle.paper.specs.Rules.{breaks_e, elements_lawful}
use Rattle.paper.specs.Values.{names_at, meaning_of}
use Rattle.paper.specs.Words.{same, among, all_below, is_there, joined}
use Rattle.marking.proofs.UsedIdLaws.{ids_below_lem, ids_used}
use Rattle.paper.proofs.WordLaws.{never, and_both, then_some}
use Rattle.ranking.proofs.HeldLaws.{or_more, below_join}
use Rattle.rebuilt.specs.Using.{add_id}
use Rattle.std.proofs.lemmas.Option.{same_Some}

pub record Uses (names : Dictionary) (ids : List ℕ) (used : List ℕ → Bool) : Type 0 where
  pub below : all_below (length names) ids ≡ true
  pub exact : (name : List ℕ) → among name (names_at names ids) ≡ used name

among_ids : (names : Dictionary) (name : List ℕ) (ids more : List ℕ)
    → among name (names_at names (ids ++ more)) ≡ among name (names_at names ids) || among name (names_at names more)
unfolding names_at among
among_ids names name [] more = refl
among_ids names name (id ∷ ids) more =
    ap (λ (b : Bool). same (get_or names id []) name || b) (among_ids names name ids more)
    ∙ sym (or_more (same (get_or names id []) name) (among name (names_at names ids)) (among name (names_at names more)))

module _ {names : Dictionary} where
  pub uses_none : Uses names [] (λ name. false)
  unfolding all_below names_at among
  uses_none = record { below = refl; exact = λ name. refl }

  pub uses_as : {ids : List ℕ} {used other : List ℕ → Bool} → Uses names ids used → ((name : List ℕ) → used name ≡ other name) → Uses names ids other
  uses_as uses same = record { below = uses.below; exact = λ name. uses.exact name ∙ same name }

  -- ---- ids, then more ids

  pub uses_both : {ids more : List ℕ} {used further : List ℕ → Bool} → Uses names ids used → Uses names more further
      → Uses names (ids ++ more) (λ name. used name || further name)
  uses_both {ids} {more} {used} {further} first second =
      record {
        below = below_join (length names) ids more first.below second.below;
        exact = λ name. among_ids names name ids more ∙ ap (λ (b : Bool). b || among name (names_at names more)) (first.exact name)
            ∙ ap (λ (b : Bool). used name || b) (second.exact name);
      }

  uses_id : {ids : List ℕ} {used : List ℕ → Bool} (name : List ℕ) (id : ℕ) → id < length names → get_or names id [] ≡ name → Uses names ids used
      → Uses names (id ∷ ids) (λ n. same name n || used n)
  unfolding all_below names_at among
  uses_id name id h is uses =
      record { below = rw (lt-ltb id (length names) h) uses.below; exact = λ n. rw (is, uses.exact n) }

  -- ---- a field by its place

  -- A place that is there has bytes, and its field's name is one of the dictionary.
  pub uses_field : (body : List ℕ) {name : List ℕ} {looked : Option InputId} → Tells names name looked → (x : Option Doc)
      → is_there x ≡ not (eqb (length body) 0) → (is_there x ≡ true → among name names ≡ true)
      → {ids : List ℕ} (fs : Fields) → Uses names ids (λ n. used_in n (or_null x) || used_in_fields n fs)
      → Uses names (add_id body looked ids) (λ n. used_in_fields n (add_field name x fs))
  unfolding add_id add_field or_null used_in is_there
  uses_field [] tells None present known fs uses = uses
  uses_field [] tells (Some d) present known fs uses = never present
  uses_field (b ∷ bs) tells None present known fs uses = never (sym (present ∙ rw (ne_eqb (length (b ∷ bs)) 0 (λ z. omega arith))))
  uses_field (b ∷ bs) {name} (found id h is) (Some d) present known fs uses = uses_id name id.0 h is uses
  uses_field (b ∷ bs) (missing none_has) (Some d) present known fs uses = never (sym (known refl) ∙ none_has)

-- ---- a list's places

module _ {names : Dictionary} (read : Piece → Option Place) (keeps : Place → Bool) (ids : List ℕ → List ℕ) (means : Place → Option Doc)
    (each : (piece : Piece) (p : Place) → read piece ≡ Some p → keeps p ≡ true → Uses names (ids piece.body) (λ name. used_in name (or_null (means p)))) where
  pub uses_elements : (pieces : List Piece) (ps : Places) → list_places read pieces ≡ Some ps → elements_lawful keeps ps ≡ true
      → Uses names (joined (map (λ (piece : Piece). ids piece.body) pieces)) (λ name. used_in_all name (list_meaning means ps))
  unfolding list_places elements_lawful joined list_meaning used_in
  uses_elements [] ps e lawful = rw (← same_Some no_places ps e) uses_none
  uses_elements (piece ∷ more) ps e lawful =
      let first = then_some (read piece) _ e in
      let rest = then_some (list_places read more) _ first.2 in
      let are : place first.0 rest.0 ≡ ps = same_Some (place first.0 rest.0) ps rest.2 in
      let both = and_both (not (breaks_e first.0) && keeps first.0) (elements_lawful keeps rest.0) (ap (elements_lawful keeps) are ∙ lawful) in
      let own = and_both (not (breaks_e first.0)) (keeps first.0) both.0 in
      rw (← are) (uses_both (each piece first.0 first.1 own.1) (uses_elements more rest.0 rest.1 both.1))

-- ---- a leftover

pub uses_left : (levels : ℕ) (names : Dictionary) (left : List ℕ) (d : Doc) → meaning_of levels names left ≡ Some d
    → Uses names (ids_in levels left) (λ name. used_in name d)
uses_left levels names left d means = record { below = ids_below_lem levels names left d means; exact = ids_used levels names left d means }
