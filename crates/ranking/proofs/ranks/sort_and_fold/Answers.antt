-- `sort_and_fold`: what is folded of sorted ids is folded of the ids.
use native.Mathlib.Omega.{arith}
use Rattle.ranking.proofs.SortLaws.{sorted_below}
use Rattle.ranking.proofs.RankLaws.{fold_sorted}
use Rattle.ranking.proofs.ranks.sort_and_fold.Goals as goal

pub fold-requires : goal.fold-requires
fold-requires c = let pre = c.requires in
    let sorted = c.sort.ensures in
    let size = sorted.size in
    (sorted_below _ _ sorted pre.0, sorted.order, pre.1, omega arith)

pub returns : goal.returns
returns c = fold_sorted c.sort.ensures c.fold.ensures
