-- `step_good`: by the tag, then by the length of an index.
use native.Mathlib.Omega.{arith}
use Rattle.paths.proofs.PathLaws.{step_name, step_index, step_neither}
use Rattle.paths.proofs.path.step_good.Goals as goal

pub returns-in-96 : goal.returns-in-96
returns-in-96 c = step_name _ _ c.in-96.is

pub returns-in-97 : goal.returns-in-97
returns-in-97 c = step_index _ _ (omega arith) c.in-97.is

pub returns-in_default : goal.returns-in_default
returns-in_default c = step_neither _ _ (omega arith) (omega arith)
