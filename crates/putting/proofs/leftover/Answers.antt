-- `leftover`: it is written, and then seen whether it starts below the floor.
use borrow.Author.Rules.{rules}
use Rattle.putting.proofs.LeftoverLaws.{leftover_writable, leftover_full, leftover_put}
use Rattle.putting.proofs.leftover.Goals as goal

pub written-start-requires : goal.written-start-requires
written-start-requires c = search (rules, leftover_writable)

pub returns-then-start-floor : goal.returns-then-start-floor
returns-then-start-floor c = search (rules, leftover_full)

pub returns : goal.returns
returns c = search (rules, leftover_put)
