-- A cell as a value is the normal form of what the cell means.
use Rattle.std.specs.Prelude.{Some}
use mathlib.Core.Bool.{Bool, true, false, cond, ◌&&◌}
use mathlib.Core.List.{List, [], ◌∷◌}
use mathlib.Core.Path.{◌≡◌, refl, ap, ◌∙◌}
use Prim.Native.Nat.{ℕ, ◌*◌}
use native.Mathlib.Omega.{arith}
use borrow.Author.Tests.{eqb-true}
use lib.Dec.{leb, eqb}
use lib.ListN.{length, get_or}
use Rattle.paper.proofs.WordLaws.{given_some}
use Rattle.paper.specs.Cells.{yes_no, string, binary, sized, body_kind, cell_by, cell_meaning}
use Rattle.paper.specs.FirstBytes.{payload_sizes}
use Rattle.paper.specs.Meaning.{Scalar, boolean, payload, text, text_meaning}
use Rattle.paper.specs.Normal.{text_bytes, prefixed_bytes, scalar_bytes}
use Rattle.paper.specs.Words.{at}
use Rattle.rebuilt.specs.Rebuilt.{cell_value}
use Rattle.std.proofs.lemmas.Option.{same_Some}

boolean_bytes : (b : Bool) → cond b 0x04 0x08 ∷ [] ≡ scalar_bytes (boolean b)
unfolding scalar_bytes
boolean_bytes true = refl
boolean_bytes false = refl

pub cell_is : (code : ℕ) (s : List ℕ) {value : Scalar} → cell_meaning (record { code = code }) s ≡ Some value → cell_value code s ≡ scalar_bytes value
unfolding cell_meaning body_kind cell_by text_meaning cell_value scalar_bytes
cell_is code s {value} = go (eqb code 1) (eqb code 15) (eqb code 16) refl refl refl
  where
    go : (one fifteen sixteen : Bool) → eqb code 1 ≡ one → eqb code 15 ≡ fifteen → eqb code 16 ≡ sixteen
        → cell_by (cond one yes_no (cond fifteen binary (cond sixteen string sized))) code s ≡ Some value
        → cond one (cond (eqb (at s 0) 1) 0x04 0x08 ∷ []) (cond sixteen (text_bytes s) (cond fifteen (prefixed_bytes 15 s) ((4 * code) ∷ s)))
        ≡ scalar_bytes value
    go true fifteen sixteen e f g m =
        let told = given_some (eqb (length s) 1 && leb (at s 0) 1) (Some (boolean (eqb (at s 0) 1))) m in
        boolean_bytes (eqb (at s 0) 1) ∙ ap scalar_bytes (same_Some (boolean (eqb (at s 0) 1)) value told.1)
    go false true true e f g m =
        let fifteen = eqb-true code 15 f in let sixteen = eqb-true code 16 g in absurd (omega arith)
    go false true false e f g m =
        let is : code ≡ 15 = eqb-true code 15 f in
        let bytes : prefixed_bytes 15 s ≡ scalar_bytes (payload code s) = rw is in
        bytes ∙ ap scalar_bytes (same_Some (payload code s) value m)
    go false false true e f g m = ap scalar_bytes (same_Some (text s) value m)
    go false false false e f g m =
        let told = given_some (eqb (length s) (get_or payload_sizes code 0)) (Some (payload code s)) m in
        let bytes : (4 * code) ∷ s ≡ scalar_bytes (payload code s) = rw f in
        bytes ∙ ap scalar_bytes (same_Some (payload code s) value told.1)
