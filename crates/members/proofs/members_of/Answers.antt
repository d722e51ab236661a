-- `members_of`: the head is there, so what the count says is.
use Rattle.containers.proofs.LayoutLaws.{count_there, ids_fit, starts_fit, head_asks}
use Rattle.members.proofs.members_of.Goals as goal

pub read-count-requires : goal.read-count-requires
read-count-requires c = count_there _ _ _ _ c.requires

pub overflow_mul-starts : goal.overflow_mul-starts
overflow_mul-starts c = ids_fit _ _ _ _ c.requires _ c.read-count.ensures.0

pub overflow_add-starts : goal.overflow_add-starts
overflow_add-starts c = starts_fit _ _ _ _ c.requires _ c.read-count.ensures.0

pub head_size-area-requires : goal.head_size-area-requires
head_size-area-requires c = head_asks _ _ _ _ c.requires _ c.read-count.ensures.0
