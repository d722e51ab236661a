-- The type codes of a schema, range by range, and the sizes that cells of numbers have by their code.
use mathlib.Core.Bool.{Bool, true, false, not, cond, ◌&&◌, ◌||◌}
use mathlib.Core.Path.{◌≡◌, refl}
use Prim.Native.Nat.{ℕ, ◌<◌}
use native.Mathlib.Omega.{arith}
use borrow.Author.Tests.{eqb-true, leb-true, ne_eqb}
use lib.Dec.{eqb, leb}
use lib.ListN.{get_or}
use Rattle.cells.specs.Sized.{NumberSized}
use Rattle.signed.specs.Signed.{SomeWidth}
use Rattle.paper.specs.FirstBytes.{length_prefixed, payload_sizes}
use Rattle.paper.specs.Schemas.{column_code}
use Rattle.std.proofs.lemmas.Bool.Decides.{nat_tests}
use Rattle.numbers.proofs.Table.{entry, and_left, and_right}

-- The largest is 20.
pub code_most : (code : ℕ) → column_code code ≡ true → code < 21
unfolding column_code
code_most code known = grind (arith, nat_tests)

-- ---- the sizes of numbers, by one test over the table of payload sizes

some_width : ℕ → Bool
some_width size = cond (eqb size 8) true (leb 1 size && leb size 4)

number_fits_lem : ℕ → ℕ → Bool
number_fits_lem code size =
    cond (eqb code 7) (eqb size 8) (cond (eqb code 14) (eqb size 4) (cond (eqb code 20) (eqb size 16) (some_width size)))

right : ℕ → ℕ → Bool
right code size =
    cond (column_code code && not (eqb code 1 || (eqb code 15 || eqb code 16))) (number_fits_lem code size) true

right_entry : (code : ℕ) → code < 21 → right code (get_or payload_sizes code 0) ≡ true
unfolding right number_fits_lem some_width column_code payload_sizes length_prefixed
right_entry code h = entry right payload_sizes refl code h

some_width_lem : (size : ℕ) → some_width size ≡ true → SomeWidth size
unfolding some_width
some_width_lem size passed = go (eqb size 8) refl passed
  where
    go : (eight : Bool) → eqb size 8 ≡ eight → cond eight true (leb 1 size && leb size 4) ≡ true → SomeWidth size
    go true e p =
        let is = eqb-true size 8 e in
        record { least = omega arith; most = omega arith; none_between = λ other. absurd (other is) }
    go false e p =
        let low = leb-true 1 size (and_left (leb 1 size) (leb size 4) p) in
        let high = leb-true size 4 (and_right (leb 1 size) (leb size 4) p) in
        record { least = low; most = omega arith; none_between = λ other. high }

number_fits : (code size : ℕ) → number_fits_lem code size ≡ true → NumberSized code size
unfolding number_fits_lem
number_fits code size passed =
    record {
      double = λ e. eqb-true size 8 (rw e at passed);
      float = λ e. eqb-true size 4 (rw e at passed);
      uuid = λ e. eqb-true size 16 (rw e at passed);
      integer = λ d f u. some_width_lem size (rw (ne_eqb code 7 d, ne_eqb code 14 f, ne_eqb code 20 u) at passed);
    }

pub number_sized : (code size : ℕ) → column_code code ≡ true → (code ≡ 1 → ⊥) → (code ≡ 15 → ⊥) → (code ≡ 16 → ⊥)
    → size ≡ get_or payload_sizes code 0 → NumberSized code size
unfolding right
number_sized code size known one binary string is =
    let passed : right code (get_or payload_sizes code 0) ≡ true = right_entry code (code_most code known) in
    number_fits code size (rw (← is, known, ne_eqb code 1 one, ne_eqb code 15 binary, ne_eqb code 16 string) at passed)
