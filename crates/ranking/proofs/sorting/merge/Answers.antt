use borrow.Author.Rules.{rules}
use Rattle.ranking.proofs.MergeLaws.{takes_there, takes_other, merge_start, merge_first, merge_second, merge_done}
use Rattle.ranking.proofs.sorting.merge.Goals as goal

pub loop-i-init : goal.loop-i-init
loop-i-init c = search (rules, merge_start)

pub id_at-requires : goal.id_at-requires
id_at-requires c = search (rules, takes_there)

pub loop-i-preserved-then-from_first : goal.loop-i-preserved-then-from_first
loop-i-preserved-then-from_first c = merge_first c.loop-i.invariant _ c.from_first.ensures c.if-from_first.true c.loop-i-test.true _
    c.id_at.ensures.0 c.put_id.ensures

pub id_at-requires-else-from_first : goal.id_at-requires-else-from_first
id_at-requires-else-from_first c = let seen = c.loop-i.invariant in
    let size = seen.size in
    takes_other _ _ _ _ _ _ c.from_first.ensures c.if-from_first.false seen.far_first (search rules)

pub loop-i-preserved : goal.loop-i-preserved
loop-i-preserved c = merge_second c.loop-i.invariant _ c.from_first.ensures c.if-from_first.false c.loop-i-test.true _
    c.id_at-else-from_first.ensures.0 c.put_id-else-from_first.ensures

pub returns : goal.returns
returns c = search (rules, merge_done)
