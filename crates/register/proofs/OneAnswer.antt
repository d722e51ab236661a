-- No second answer satisfies a contract, for each operation; `register_c` says so of each function for C. `Post` is the `ensures`
-- of the source, so that what is said here cannot drift from the contract.
use mathlib.Core.List.{List}
use mathlib.Core.Path.{◌≡◌, refl, sym, ◌∙◌}
use Prim.Native.Nat.{ℕ}
use contract.Lifetimes.{Lfts}
use denote.Triple.Clauses.{Ended, Lasts, AtExit, at_exit}
use denote.Triple.Entry.{Args, Res}
use Rattle.register.specs.contracts.check as check
use Rattle.register.specs.contracts.find as find
use Rattle.register.specs.contracts.normalise as normalise
use Rattle.register.specs.contracts.shred as shred
use Rattle.register.specs.contracts.judge as judge
use Rattle.register.specs.contracts.rebuild as rebuild
use Rattle.register.specs.contracts.lot_box as lot_box
use Rattle.register.specs.contracts.cell as cell
use Rattle.register.proofs.check.Reads as check-reads
use Rattle.register.proofs.find.Reads as find-reads
use Rattle.register.proofs.normalise.Reads as normalise-reads
use Rattle.register.proofs.shred.Reads as shred-reads
use Rattle.register.proofs.judge.Reads as judge-reads
use Rattle.register.proofs.rebuild.Reads as rebuild-reads
use Rattle.register.proofs.lot_box.Reads as lot_box-reads
use Rattle.register.proofs.cell.Reads as cell-reads

-- An `ensures`: a claim of what is lent, the answer, and what is there at the end.
abbrev pub Contract : Ended → Type 1
Contract T = (κs : Lfts T.signature.lifetimes) → Args T.signature κs → Res T.signature κs → AtExit T κs → Type 0

-- Whatever is lent, two answers that satisfy the contract are the same, and so is all that they leave in the lent buffers.
abbrev pub OneAnswer : (T : Ended) → Contract T → Type 0
OneAnswer T Post =
    (κs : Lfts T.signature.lifetimes) (lent : Args T.signature κs) (answer other : Res T.signature κs) (left left' : Lasts T κs lent)
    → Post κs lent answer (at_exit T κs lent left) → Post κs lent other (at_exit T κs lent left') → (answer ≡ other) × (left ≡ left')

-- A contract that says what the answer is leaves room for one only; what is left in two buffers goes by each.
pub settled : {A : Type 0} {answer other is : A} → answer ≡ is → other ≡ is → answer ≡ other
settled e f = e ∙ sym f

pub both : {A B : Type 0} {a a' : A} {b b' : B} → a ≡ a' → b ≡ b' → ◌≡◌ {A = A × B} (a, b) (a', b')
both e f = cc

-- the two buffers stand behind two inputs, of which nothing is left
pub two_buffers : {left left' : Unit {0} × (Unit {0} × (List ℕ × (List ℕ × Unit {0})))} → left.1.1.0 ≡ left'.1.1.0 → left.1.1.1.0 ≡ left'.1.1.1.0
    → left ≡ left'
two_buffers e f = both refl (both refl (both e (both f refl)))

-- the one buffer stands behind three inputs
pub one_buffer : {left left' : Unit {0} × (Unit {0} × (Unit {0} × (List ℕ × Unit {0})))} → left.1.1.1.0 ≡ left'.1.1.1.0 → left ≡ left'
one_buffer e = both refl (both refl (both refl (both e refl)))

-- ---- the operations

pub one_check : OneAnswer check.ended check-reads.Post
one_check κs lent answer other left left' e f = (settled e f, refl)

pub one_find : OneAnswer find.ended find-reads.Post
one_find κs lent answer other left left' e f = (settled e f, refl)

pub one_normalise : OneAnswer normalise.ended normalise-reads.Post
one_normalise κs lent answer other left left' e f =
    (settled e.answer_is f.answer_is, two_buffers (settled e.metadata_is f.metadata_is) (settled e.value_is f.value_is))

pub one_shred : OneAnswer shred.ended shred-reads.Post
one_shred κs lent answer other left left' e f = (settled e.answer_is f.answer_is, one_buffer (settled e.row_is f.row_is))

pub one_judge : OneAnswer judge.ended judge-reads.Post
one_judge κs lent answer other left left' e f = (settled e f, refl)

pub one_rebuild : OneAnswer rebuild.ended rebuild-reads.Post
one_rebuild κs lent answer other left left' e f =
    (settled e.answer_is f.answer_is, two_buffers (settled e.metadata_is f.metadata_is) (settled e.value_is f.value_is))

pub one_lot_box : OneAnswer lot_box.ended lot_box-reads.Post
one_lot_box κs lent answer other left left' e f = (settled e f, refl)

pub one_cell : OneAnswer cell.ended cell-reads.Post
one_cell κs lent answer other left left' e f = (settled e f, refl)
