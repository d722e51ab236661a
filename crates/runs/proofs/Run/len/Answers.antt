-- `len`: as many as the count says.
use Rattle.runs.proofs.NumbersRunLaws.{seen_length}
use Rattle.runs.proofs.Run.len.Goals as goal

pub returns : goal.returns
returns c = seen_length _ _ _ _ c.self.invariant c.self.view_is
