-- `good`: a schema is a node that fills it.
use mathlib.Core.Path.{ap, ◌∙◌}
use Rattle.paper.specs.Words.{is_there}
use Rattle.schemas.proofs.NodeLaws.{schema_node}
use Rattle.schemas.proofs.judge.good.Goals as goal

pub returns : goal.returns
returns c = c.node.ensures ∙ ap is_there (schema_node _)
