-- A cell that is written means the value that its column took.
use Rattle.std.specs.Prelude.{Some}
use mathlib.Core.Bool.{Bool, true, false, cond}
use mathlib.Core.List.{List}
use mathlib.Core.Path.{◌≡◌, refl}
use Prim.Native.Nat.{ℕ}
use native.Mathlib.Omega.{arith}
use borrow.Author.Tests.{eqb-true, eqb-false, eq-eqb, ne_eqb}
use lib.Dec.{eqb}
use lib.ListN.{length, get_or}
use Rattle.forms.proofs.ScalarLaws.{PayloadParts, payload_parts}
use Rattle.forms.specs.WellFormed.{scalar_good}
use Rattle.paper.specs.Cells.{takes, cell_bytes, binary, sized, body_kind, cell_by, cell_meaning}
use Rattle.paper.specs.FirstBytes.{payload_sizes}
use Rattle.paper.specs.Meaning.{Scalar, boolean, payload, text, text_meaning}
use Rattle.paper.specs.Schemas.{Column}
use Rattle.paper.specs.Words.{given}

-- A payload's code is none of the others'.
payload_back : (code type : ℕ) (s : List ℕ) → PayloadParts type s → code ≡ type → cell_by (body_kind code) code s ≡ Some (payload type s)
unfolding body_kind cell_by given
payload_back code type s parts is =
    let least = parts.least in
    rw (is, ne_eqb type 1 (omega arith), ne_eqb type 16 parts.no_string) (go (eqb type 15) refl)
  where
    go : (b : Bool) → eqb type 15 ≡ b → cell_by (cond b binary sized) type s ≡ Some (payload type s)
    go true e = refl
    go false e = rw (eq-eqb (length s) (get_or payload_sizes type 0) (parts.size (eqb-false type 15 e)))

pub cell_back : (said : Column) (value : Scalar) → scalar_good value ≡ true → takes said value ≡ true → cell_meaning said (cell_bytes said value) ≡ Some value
unfolding takes cell_bytes cell_meaning
cell_back said (boolean true) good taken = rw (eqb-true said.code 1 taken) (unfold body_kind cell_by given in refl)
cell_back said (boolean false) good taken = rw (eqb-true said.code 1 taken) (unfold body_kind cell_by given in refl)
cell_back said (payload type s) good taken = payload_back said.code type s (payload_parts type s good) (eqb-true said.code type taken)
cell_back said (text s) good taken = rw (eqb-true said.code 16 taken) (unfold body_kind cell_by text_meaning in refl)
