-- `stands`: by the first byte, and a string by its length; to an answer `false` nothing is asked.
use borrow.Author.Rules.{rules}
use Rattle.normalise.proofs.StandingLaws.{short_stands, other_stands, long_stands}
use Rattle.normalise.proofs.stands.Goals as goal

pub returns-in-1 : goal.returns-in-1
returns-in-1 c = λ e. search (rules, short_stands)

pub returns-then-first-ne64 : goal.returns-then-first-ne64
returns-then-first-ne64 c = λ e. search (rules, other_stands)

pub returns-else-first-ne64 : goal.returns-else-first-ne64
returns-else-first-ne64 c = search (rules, long_stands)
