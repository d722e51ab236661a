-- `by_tables`: a dictionary has at most as many names as the largest tables have entries.
use Prim.Native.Nat.{◌≤◌}
use native.Mathlib.Omega.{arith}
use lib.ListN.{length}
use Rattle.paper.specs.Bounds.{most_names}
use Rattle.rebuild.proofs.NumberedLaws.{count_few, metadata_there, opened_is}
use Rattle.rebuild.proofs.by_tables.Goals as goal

pub open-requires : goal.open-requires
open-requires c = metadata_there c.requires

pub invariant_of-opened : goal.invariant_of-opened
invariant_of-opened c = record { opens = opened_is c.requires c.open.ensures }

pub in_tables-requires-in_default : goal.in_tables-requires-in_default
in_tables-requires-in_default c =
    let few : length c.open.result.names ≤ most_names = rw (opened_is c.requires c.open.ensures) (count_few c.requires) in
    (c.requires, omega (arith, few), omega arith)
