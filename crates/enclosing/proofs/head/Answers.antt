-- `head`: there is no room for three bytes, or the length is written and the tag in front of it.
use borrow.Author.Rules.{rules}
use Rattle.enclosing.proofs.FrameLaws.{head_full, put_head}
use Rattle.enclosing.proofs.head.Goals as goal

pub returns-then-start-lt3 : goal.returns-then-start-lt3
returns-then-start-lt3 c = search (rules, head_full)

pub returns : goal.returns
returns c = search (rules, put_head)
