-- What a lawful place is rebuilt to is one value: it fills its bytes.
use Rattle.std.specs.Prelude.{Some}
use mathlib.Core.Bool.{Bool, true, false, cond, ◌&&◌, ◌||◌}
use mathlib.Core.List.{List, [], ◌∷◌, map}
use mathlib.Core.Path.{◌≡◌, refl, sym, ◌∙◌}
use Prim.Native.Nat.{ℕ, ◌^◌, ◌≤◌, ◌<◌}
use native.Mathlib.Omega.{arith}
use borrow.Author.Tests.{le-leb, leb-true, eqb-true, eqb-false, ne_eqb}
use lib.Dec.{leb, eqb}
use lib.ListN.{length, get_or, length-map}
use Rattle.forms.proofs.ContainerLaws.{array_filled, object_filled}
use Rattle.forms.proofs.ScalarLaws.{Filled, null_written, scalar_written}
use Rattle.forms.specs.WellFormed.{scalar_good}
use Rattle.paper.proofs.WordLaws.{never, given_some, some_there, there_some}
use Rattle.paper.specs.Bounds.{most_walked}
use Rattle.paper.specs.Cells.{yes_no, string, binary, sized, body_kind, cell_by, cell_meaning}
use Rattle.paper.specs.FirstBytes.{payload_sizes}
use Rattle.paper.specs.Meaning.{Scalar, payload, text_meaning}
use Rattle.paper.specs.Metadata.{Dictionary}
use Rattle.paper.specs.Schemas.{Schema, leftover_only, column, list, fields, column_code}
use Rattle.paper.specs.Words.{part}
use Rattle.paper.specs.Values.{meaning_of}
use Rattle.places.specs.Parts.{parts_of}
use Rattle.places.specs.declared.parts.Parts.TheVariants.{Empty, Leftover, Typed, Both, Unframed}
use Rattle.places.specs.declared.parts.Parts.{Parts}
use Rattle.rebuilt.proofs.CellLaws.{cell_is}
use Rattle.rebuilt.proofs.PartwiseLaws.{place_is-typed}
use Rattle.rebuilt.proofs.ThereLaws.{place_leftover, place_only, place_behind, place_framed, typed_never, typed_code, typed_cell}
use Rattle.rebuilt.specs.Members.{Member, no_left, object_of}
use Rattle.rebuilt.specs.Rebuilt.{rebuilt_by, place_rebuilt, typed_rebuilt}
use Rattle.rebuilt.specs.There.{PlaceThere, TypedThere}
use Rattle.schemas.proofs.KindLaws.{kind_is}
use Rattle.schemas.specs.Kinds.{kind_of, kind_at}
use Rattle.schemas.specs.Positions.{Stands}
use Rattle.writing.proofs.RewrittenLaws.{rewritten_filled}
use Rattle.writing.specs.Rewritten.{ranks_at, rewritten}
use Rattle.std.proofs.lemmas.Option.{same_Some}

-- ---- a cell

module _ (code : ℕ) (s : List ℕ) where
  -- The codes of a schema's columns have no decimal among them.
  code_bounds : column_code code ≡ true → (code ≡ 1 → ⊥) → (3 ≤ code) × (code ≤ 20) × (leb 8 code && leb code 10 ≡ false)
  unfolding column_code
  code_bounds good other = go (leb 3 code) (leb code 7) (leb 11 code) (leb code 20) refl refl refl refl (rw (ne_eqb code 1 other) at good)
    where
      no_decimal : (b c : Bool) → leb 8 code ≡ b → leb code 10 ≡ c → (8 ≤ code → code ≤ 10 → ⊥) → b && c ≡ false
      no_decimal true true e f out = absurd (out (leb-true 8 code e) (leb-true code 10 f))
      no_decimal true false e f out = refl
      no_decimal false c e f out = refl

      go : (a b c d : Bool) → leb 3 code ≡ a → leb code 7 ≡ b → leb 11 code ≡ c → leb code 20 ≡ d → (a && b) || (c && d) ≡ true
          → (3 ≤ code) × (code ≤ 20) × (leb 8 code && leb code 10 ≡ false)
      go true true c d ea eb ec ed e =
          let low = leb-true 3 code ea in
          let high = leb-true code 7 eb in
          (low, omega arith, no_decimal (leb 8 code) (leb code 10) refl refl λ h l. omega arith)
      go true false true true ea eb ec ed e =
          let low = leb-true 11 code ec in
          let high = leb-true code 20 ed in
          (omega arith, high, no_decimal (leb 8 code) (leb code 10) refl refl λ h l. omega arith)
      go false b true true ea eb ec ed e =
          let low = leb-true 11 code ec in
          let high = leb-true code 20 ed in
          (omega arith, high, no_decimal (leb 8 code) (leb code 10) refl refl λ h l. omega arith)
      go true false true false ea eb ec ed e = never (sym e)
      go true false false d ea eb ec ed e = never (sym e)
      go false b true false ea eb ec ed e = never (sym e)
      go false b false d ea eb ec ed e = never (sym e)

  payload_good : column_code code ≡ true → (code ≡ 1 → ⊥) → (code ≡ 16 → ⊥) → eqb code 15 || eqb (length s) (get_or payload_sizes code 0) ≡ true
      → scalar_good (payload code s) ≡ true
  unfolding scalar_good
  payload_good good other no_string sized-right =
      let bounds = code_bounds good other in
      rw (le-leb 3 code bounds.0, le-leb code 20 bounds.1, ne_eqb code 16 no_string, sized-right, bounds.2)

  cell_good : column_code code ≡ true → (value : Scalar) → cell_meaning (record { code = code }) s ≡ Some value → scalar_good value ≡ true
  unfolding cell_meaning body_kind cell_by text_meaning scalar_good
  cell_good good value = go (eqb code 1) (eqb code 15) (eqb code 16) refl refl refl
    where
      go : (one fifteen sixteen : Bool) → eqb code 1 ≡ one → eqb code 15 ≡ fifteen → eqb code 16 ≡ sixteen
          → cell_by (cond one yes_no (cond fifteen binary (cond sixteen string sized))) code s ≡ Some value → scalar_good value ≡ true
      go true fifteen sixteen e f g m =
          let told = given_some _ _ m in rw (← same_Some _ value told.1)
      go false true sixteen e f g m =
          let is : code ≡ 15 = eqb-true code 15 f in
          rw (← same_Some _ value m) (payload_good good (eqb-false code 1 e) (λ z. omega arith) (rw f))
      go false false true e f g m = rw (← same_Some _ value m)
      go false false false e f g m =
          let told = given_some _ _ m in
          rw (← same_Some _ value told.1) (payload_good good (eqb-false code 1 e) (eqb-false code 16 g) (rw (f, told.0)))

-- ---- what is typed, and a place

abbrev Short : List ℕ → Type 0
Short s = length s < 2 ^ 32

pub object_of-filled : (ranks : List ℕ) (ms : List Member) → Short (object_of ranks ms) → Filled (object_of ranks ms)
unfolding object_of ranks_at
object_of-filled ranks ms short =
    object_filled (ranks_at ranks (map (λ (m : Member). m.id) ms)) (map (λ (m : Member). m.bytes) ms)
    (length-map (map (λ (m : Member). m.id) ms) (λ (id : ℕ). get_or ranks id 0) ∙ length-map ms (λ (m : Member). m.id) ∙ sym (length-map ms (λ (m : Member). m.bytes))) short

module _ {levels : ℕ} {names : Dictionary} {schema table : List ℕ} {node : ℕ} {body : List ℕ} (ranks : List ℕ) where
  pub typed_filled : (there : TypedThere levels names schema table node body) (under : Schema) → Stands levels schema node under → (left : List ℕ)
      → Short (typed_rebuilt under levels ranks schema table node left body) → Filled (typed_rebuilt under levels ranks schema table node left body)
  unfolding kind_of typed_rebuilt
  typed_filled there under stands left = go under (sym (kind_is stands))
    where
      go : (under : Schema) → kind_of under ≡ kind_at schema node → Short (typed_rebuilt under levels ranks schema table node left body)
          → Filled (typed_rebuilt under levels ranks schema table node left body)
      go leftover_only is short = absurd (typed_never there is refl)
      go (column said) is short =
          let value = there_some (cell_meaning (record { code = said.code }) body) (typed_cell there is refl) in
          let same = cell_is said.code body value.1 in
          rw same (scalar_written [] value.0 (cell_good said.code body (typed_code there is refl) value.0 value.1) (rw same at short)).0
      go (list element) is short = array_filled _ short
      go (fields columns) is short = object_of-filled ranks _ short

module _ {levels : ℕ} {names : Dictionary} {schema table : List ℕ} {node : ℕ} {body : List ℕ} (ranks : List ℕ) where
  pub place_filled : (there : PlaceThere levels names schema table node body) → length body ≤ most_walked
      → Short (place_rebuilt there.under levels ranks schema table node body) → Filled (place_rebuilt there.under levels ranks schema table node body)
  unfolding rebuilt_by
  place_filled there small short =
      rw (place_is-typed there.under levels ranks schema table node body)
      (go (parts_of body) refl (rw (place_is-typed there.under levels ranks schema table node body) at short))
    where
      by : Parts → List ℕ
      by p = rebuilt_by [] (0x00 ∷ []) (rewritten levels ranks) (typed_rebuilt there.under levels ranks schema table node) p body

      go : (p : Parts) → p ≡ parts_of body → Short (by p) → Filled (by p)
      go Empty is fits = (null_written []).0
      go Leftover is fits =
          let left = place_leftover there is refl in
          let few = left.few in
          rewritten_filled levels names ranks (part body 3 (length body)) (some_there (meaning_of levels names (part body 3 (length body))) left.means) (omega arith) fits
      go Typed is fits = typed_filled ranks (place_only there is refl) there.under there.stands no_left fits
      go (Both middle) is fits = typed_filled ranks (place_behind there is refl) there.under there.stands (part body 3 middle) fits
      go Unframed is fits = absurd (place_framed there is refl)
