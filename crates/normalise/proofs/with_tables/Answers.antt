-- `with_tables`: the ids marked on a clean table and ranked number the names used.
use native.Mathlib.Omega.{arith}
use borrow.Author.Rules.{rules}
use Rattle.normalise.proofs.NumberedLaws.{markable, count_few, numbered}
use Rattle.normalise.proofs.with_tables.Goals as goal

pub mark-requires : goal.mark-requires
mark-requires c = markable c.requires.lent.0 c.requires.lent.1 _ c.requires.tables.0

pub rank-count-requires : goal.rank-count-requires
rank-count-requires c = (search rules, search rules, search rules, count_few c.requires.lent.0 c.requires.lent.1.metadata_short)

pub with_room-requires : goal.with_room-requires
with_room-requires c = let lent = c.requires.lent in
    (numbered lent.0 lent.1 (λ i. omega (arith, c.type_inv.value i)) c.mark.ensures c.requires.clean c.requires.tables.0 c.rank-count.ensures (search rules), lent.1.value_short)
