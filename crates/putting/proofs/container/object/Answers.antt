-- `object`: the head's size, with its largest id's, says whether there is room for it.
use borrow.Author.Rules.{rules}
use Rattle.putting.proofs.HeadLaws.{object_fits, object_full, object_put}
use Rattle.putting.proofs.container.object.Goals as goal

pub returns-then-start-floor : goal.returns-then-start-floor
returns-then-start-floor c = search (rules, object_full)

pub object_head-requires : goal.object_head-requires
object_head-requires c = record { room = (search rules, search rules, search rules, search (rules, object_fits)); ranked = search rules }

pub returns : goal.returns
returns c = search (rules, object_put)
