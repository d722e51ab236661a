-- `by_tables`: the tables have an entry for each name.
use native.Mathlib.Omega.{arith}
use Rattle.normalise.proofs.NumberedLaws.{count_few}
use Rattle.normalise.proofs.by_tables.Goals as goal

pub in_tables-requires-2 : goal.in_tables-requires-2
in_tables-requires-2 c = let few = count_few c.len-names.ensures.lent c.requires.metadata_short in (c.len-names.ensures.lent, c.requires, omega (arith, few), omega arith)
