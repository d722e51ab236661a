-- `follows`: the first field follows nothing; else by the two names.
use borrow.Author.Rules.{rules}
use Rattle.schemas.proofs.FieldFrameLaws.{follows_first, follows_by}
use Rattle.schemas.proofs.judge.follows.Goals as goal

pub returns-then-last-place : goal.returns-then-last-place
returns-then-last-place c = search (rules, follows_first)

pub returns-else-last-place : goal.returns-else-last-place
returns-else-last-place c = search follows_by
