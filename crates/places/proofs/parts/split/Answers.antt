-- `split`: each return says what the first frame shows of the parts.
use borrow.Author.Rules.{rules}
use Rattle.places.proofs.PartLaws.{parts_empty, split_cut, split_one, split_other, first_ends}
use Rattle.places.proofs.parts.split.Goals as goal

pub returns-then-body-eq0 : goal.returns-then-body-eq0
returns-then-body-eq0 c = search parts_empty

pub returns-in_default : goal.returns-in_default
returns-in_default c = search split_cut

pub returns-then-body-end : goal.returns-then-body-end
returns-then-body-end c = search split_one

pub returns-then-body-ne65 : goal.returns-then-body-ne65
returns-then-body-ne65 c = search split_other

pub both-requires : goal.both-requires
both-requires c = search (rules, first_ends)
