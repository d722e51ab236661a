use borrow.Author.Rules.{rules}
use Rattle.containers.proofs.ShapeLaws.{once_tiled, once_broken}
use Rattle.containers.proofs.shape.members_lie.Goals as goal

pub returns-in-Some-EndToEnd : goal.returns-in-Some-EndToEnd
returns-in-Some-EndToEnd c = search (rules, once_tiled)

pub returns-in-None : goal.returns-in-None
returns-in-None c = search (rules, once_broken)
