-- `prefixed`: the bytes, then their length and the first byte in front of them.
use borrow.Author.Rules.{rules}
use Rattle.putting.proofs.ScalarLaws.{prefixed_full, put_prefixed}
use Rattle.putting.proofs.scalars.prefixed.Goals as goal

pub returns-then-end-floor : goal.returns-then-end-floor
returns-then-end-floor c = search (rules, prefixed_full)

pub returns : goal.returns
returns c = search (rules, put_prefixed)
