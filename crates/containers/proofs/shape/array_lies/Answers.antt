use borrow.Author.Rules.{rules}
use Rattle.containers.proofs.ShapeLaws.{lies_tiled, lies_scattered, lies_broken}
use Rattle.containers.proofs.shape.array_lies.Goals as goal

pub returns-in-Some-EndToEnd : goal.returns-in-Some-EndToEnd
returns-in-Some-EndToEnd c = search (rules, lies_tiled)

pub returns-in-Some-Scattered : goal.returns-in-Some-Scattered
returns-in-Some-Scattered c = search (rules, lies_scattered)

pub returns-in-None : goal.returns-in-None
returns-in-None c = search (rules, lies_broken)
