-- `headed`: the bytes, then the first byte in front of them.
use borrow.Author.Rules.{rules}
use Rattle.putting.proofs.ScalarLaws.{headed_full, put_headed}
use Rattle.putting.proofs.scalars.headed.Goals as goal

pub returns-then-end-floor : goal.returns-then-end-floor
returns-then-end-floor c = search (rules, headed_full)

pub returns : goal.returns
returns c = search (rules, put_headed)
