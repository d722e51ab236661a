-- `reaches`: by what the table tells.
use Rattle.std.proofs.Common.{arith}
use Rattle.std.proofs.lemmas.Grind.{common_steps}
use Rattle.remainder.specs.Passing.{reaches_id}
use Rattle.remainder.proofs.passing.reaches.Goals as goal

pub returns : goal.returns
unfolding reaches_id
returns c = grind (arith, common_steps)
