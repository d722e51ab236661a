-- `id_at`: the id is there.
use borrow.Author.Rules.{rules}
use Rattle.members.proofs.ReachLaws.{id_place_fits, id_fits, id_readable}
use Rattle.members.proofs.id_at.Goals as goal

pub overflow_mul-k : goal.overflow_mul-k
overflow_mul-k c = search (rules, id_place_fits)

pub overflow_add-members : goal.overflow_add-members
overflow_add-members c = search (rules, id_fits)

pub read-requires : goal.read-requires
read-requires c = search (rules, id_readable)
