-- `array`: the head's size says whether there is room for it.
use borrow.Author.Rules.{rules}
use Rattle.putting.proofs.HeadLaws.{array_fits, array_full, array_put}
use Rattle.putting.proofs.container.array.Goals as goal

pub returns-then-start-floor : goal.returns-then-start-floor
returns-then-start-floor c = search (rules, array_full)

pub array_head-requires : goal.array_head-requires
array_head-requires c = search (rules, array_fits)

pub returns : goal.returns
returns c = search (rules, array_put)
