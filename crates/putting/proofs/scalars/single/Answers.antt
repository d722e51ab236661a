-- `single`: there is no room for a byte, or it is written.
use borrow.Author.Rules.{rules}
use Rattle.putting.proofs.ScalarLaws.{one_full, put_one}
use Rattle.putting.proofs.scalars.single.Goals as goal

pub returns-then-end-floor-lt1 : goal.returns-then-end-floor-lt1
returns-then-end-floor-lt1 c = search (rules, one_full)

pub returns : goal.returns
returns c = search (rules, put_one)
