-- `covered`: the sum first, then a map that has room.
use borrow.Author.Rules.{rules}
use Rattle.containers.proofs.CoveredLaws.{covered_sum}
use Rattle.containers.proofs.cover.covered.Goals as goal

pub returns-then-sum-area : goal.returns-then-sum-area
returns-then-sum-area c = search (rules, covered_sum)
