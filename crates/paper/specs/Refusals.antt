-- "When the register says no" (01): the numbers, and what an operation comes to before it meets its buffers.
use Rattle.std.specs.Prelude.{Bool, true, false, ℕ, Option, None, Some, Result, Ok, Err}
use Rattle.paper.specs.declared.DocumentLengths.{DocumentLengths}
use Rattle.paper.specs.declared.Unwritten.{Unwritten}
use Rattle.paper.specs.declared.Refusal.{Refusal}
use Rattle.paper.specs.declared.Refusal.TheVariants.{TooLong, BadMetadata, BadValue, BadSchema, BadPath, BadRow, BrokenRule, TooLarge}

-- 01's table, numbers 1 to 8.
abbrev pub refusal_number : Refusal → ℕ
refusal_number TooLong = 1
refusal_number BadMetadata = 2
refusal_number BadValue = 3
refusal_number BadSchema = 4
refusal_number BadPath = 5
refusal_number BadRow = 6
refusal_number BrokenRule = 7
refusal_number TooLarge = 8

-- What an operation comes to: a refusal, or what it has to answer.
abbrev pub Outcome : Type 0 → Type 0
Outcome A = Result A Refusal

-- "Where several apply, the lowest number is given": an operation judges in the order of the numbers, and the first
-- refusal stands. `require` asks that a test passes, `obtain` that something is there. Each names the refusal that is given
-- otherwise, and then goes on.
unfoldable pub require : {A : Type 0} → Bool → Refusal → Outcome A → Outcome A
require true refusal next = next
require false refusal next = Err refusal

unfoldable pub obtain : {A B : Type 0} → Option A → Refusal → (A → Outcome B) → Outcome B
obtain None refusal next = Err refusal
obtain (Some a) refusal next = next a

-- What an operation that writes answers: what was written, or why nothing was: a refusal, or 9 with what is needed.
abbrev pub DocumentAnswer : Type 0
DocumentAnswer = Result DocumentLengths (Unwritten DocumentLengths)

abbrev pub RowAnswer : Type 0
RowAnswer = Result ℕ (Unwritten ℕ)
