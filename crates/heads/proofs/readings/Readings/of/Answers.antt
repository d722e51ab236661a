-- `of`: the packed reading taken apart, by its kind.
use borrow.Author.Rules.{rules}
use Rattle.heads.proofs.PackLaws.{says_fixed, says_prefixed, says_short, says_object, says_array, says_nothing}
use Rattle.heads.proofs.readings.Readings.of.Goals as goal

pub returns-in-0 : goal.returns-in-0
returns-in-0 c = search (rules, says_fixed)

pub returns-in-1 : goal.returns-in-1
returns-in-1 c = search (rules, says_prefixed)

pub returns-in-2 : goal.returns-in-2
returns-in-2 c = search (rules, says_short)

pub returns-in-3 : goal.returns-in-3
returns-in-3 c = search (rules, says_object)

pub returns-in-4 : goal.returns-in-4
returns-in-4 c = search (rules, says_array)

pub returns-in_default : goal.returns-in_default
returns-in_default c = search (rules, says_nothing)
