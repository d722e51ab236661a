-- `text`: by how long it is.
use borrow.Author.Rules.{rules}
use Rattle.putting.proofs.ScalarLaws.{text_short, text_long}
use Rattle.putting.proofs.scalars.text.Goals as goal

pub returns-then-s-le63 : goal.returns-then-s-le63
returns-then-s-le63 c = search (rules, text_short)

pub returns-else-s-le63 : goal.returns-else-s-le63
returns-else-s-le63 c = search (rules, text_long)
