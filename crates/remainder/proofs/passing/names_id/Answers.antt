-- `names_id`: by where the fields end, and what the table tells.
use Rattle.std.proofs.Common.{arith}
use Rattle.std.proofs.lemmas.Grind.{common_steps}
use Rattle.remainder.specs.Passing.{is_id, names_id}
use Rattle.remainder.proofs.passing.names_id.Goals as goal

pub returns-then-place-to : goal.returns-then-place-to
unfolding names_id is_id
returns-then-place-to c = grind (arith, common_steps)

pub returns-else-place-to : goal.returns-else-place-to
unfolding names_id is_id
returns-else-place-to c = grind (arith, common_steps)
