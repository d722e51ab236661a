use Rattle.dictionary.proofs.LentLaws.{lent_rises}
use Rattle.dictionary.proofs.lent.Dictionary.is_sorted.Goals as goal

pub returns-clause-rises : goal.returns-clause-rises
returns-clause-rises c = lent_rises c.self.invariant.0 c.self.view_is
