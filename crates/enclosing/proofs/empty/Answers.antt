-- `empty`: a head with nothing behind it.
use borrow.Author.Rules.{rules}
use Rattle.enclosing.proofs.FrameLaws.{put_empty}
use Rattle.enclosing.proofs.empty.Goals as goal

pub returns : goal.returns
returns c = search (rules, put_empty)
