-- `stands`: the two names are looked up and compared.
use borrow.Author.Rules.{rules}
use Rattle.clashes.proofs.MergeLaws.{compared}
use Rattle.clashes.proofs.merging.stands.Goals as goal

pub returns : goal.returns
returns c = search (rules, compared)
