-- `len`: the count that was read.
use Rattle.dictionary.proofs.LentLaws.{lent_count, lent_opens}
use Rattle.dictionary.proofs.lent.Dictionary.len.Goals as goal

pub returns-clause-count : goal.returns-clause-count
returns-clause-count c = lent_count c.self.invariant.0 c.self.view_is

pub returns-clause-lent : goal.returns-clause-lent
returns-clause-lent c = lent_opens c.self.invariant.0 c.self.view_is
