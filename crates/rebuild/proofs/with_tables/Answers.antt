-- `with_tables`: the ids gathered on a clean table and ranked number the names used.
use Prim.Native.Nat.{◌≤◌}
use borrow.Author.Rules.{rules}
use lib.ListN.{length}
use Rattle.rebuild.proofs.NumberedLaws.{gatherable, count_few, numbered}
use Rattle.rebuild.proofs.with_tables.Goals as goal

pub mark_used-requires : goal.mark_used-requires
mark_used-requires c = let pre = c.requires in gatherable pre.0 _ (rw c.args.row.now.opens at pre.1)

pub rank-count-requires : goal.rank-count-requires
rank-count-requires c = let pre = c.requires in (search rules, search rules, search rules, rw c.args.row.now.opens (count_few pre.0))

pub with_room-requires : goal.with_room-requires
with_room-requires c = let pre = c.requires in
    let opens = c.args.row.now.opens in
    let room : length c.args.row.now.dictionary.names ≤ length c.rank-count.new.ranks = search rules in
    numbered pre.0 c.mark_used.ensures.marks pre.4 (rw opens at pre.1) (rw opens at c.rank-count.ensures) c.mark_used.ensures.bytes (rw opens at room)
