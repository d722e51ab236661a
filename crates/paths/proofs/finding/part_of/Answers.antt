-- `part_of`: the head is what the area leaves of the container.
use mathlib.Core.Path.{refl}
use Rattle.paper.specs.Paths.{behind_head}
use Rattle.paths.proofs.finding.part_of.Goals as goal

pub returns : goal.returns
unfolding behind_head
returns c = refl
