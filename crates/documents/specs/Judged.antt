-- A lent document judged: what its metadata opens to where both keep their rules, else the lowest refusal.
use Rattle.std.specs.Prelude.{List, ℕ, Err, Ok}
use Rattle.paper.specs.Refusals.{Outcome}
use Rattle.paper.specs.Meaning.{Doc}
use Rattle.paper.specs.Operations.{check_outcome}
use Rattle.dictionary.specs.Lent.{LentNames, lent_read}

unfoldable pub document_by : LentNames → Outcome Doc → Outcome LentNames
document_by names (Err r) = Err r
document_by names (Ok d) = Ok names

unfoldable pub document_of : List ℕ → List ℕ → Outcome LentNames
document_of metadata value = document_by (lent_read metadata) (check_outcome metadata value)
