-- `copied`: put where it ends at the place.
use borrow.Author.Rules.{rules}
use Rattle.writing.proofs.ScalarLaws.{copied_ends}
use Rattle.writing.proofs.scalars.copied.Goals as goal

pub returns : goal.returns
returns c = search (rules, copied_ends)
