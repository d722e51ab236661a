-- `count_size`: by the count.
use borrow.Author.Rules.{rules}
use Rattle.putting.proofs.HeadLaws.{few_size, many_size}
use Rattle.putting.proofs.container.count_size.Goals as goal

pub returns-then-count-le255 : goal.returns-then-count-le255
returns-then-count-le255 c = search (rules, few_size)

pub returns-else-count-le255 : goal.returns-else-count-le255
returns-else-count-le255 c = search (rules, many_size)
