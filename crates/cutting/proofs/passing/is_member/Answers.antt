-- `is_member`: behind the last member, or by the id that the table tells.
use borrow.Author.Rules.{rules}
use Rattle.cutting.proofs.PassLaws.{past_last, member_by_id, member_of_none, run_there}
use Rattle.cutting.proofs.passing.is_member.Goals as goal

pub returns-then-members-k : goal.returns-then-members-k
returns-then-members-k c = search (rules, past_last)

pub id_at-requires : goal.id_at-requires
id_at-requires c = search (rules, run_there)

pub returns-in-Some : goal.returns-in-Some
returns-in-Some c = search (rules, member_by_id)

pub returns-in-None : goal.returns-in-None
returns-in-None c = search (rules, member_of_none)
