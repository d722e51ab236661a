-- `member_from`: by what the table tells of the field.
use borrow.Author.Rules.{rules}
use Rattle.cutting.proofs.PassLaws.{passed_to, passed_none}
use Rattle.cutting.proofs.passing.member_from.Goals as goal

pub returns-in-Some : goal.returns-in-Some
returns-in-Some c = search (rules, passed_to)

pub returns-in-None : goal.returns-in-None
returns-in-None c = search (rules, passed_none)
