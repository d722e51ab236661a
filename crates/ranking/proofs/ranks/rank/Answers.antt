-- `rank`: the used ids are listed; where their names rise they are picked as they are, else sorted and folded.
use mathlib.Core.Path.{sym, ◌∙◌}
use native.Mathlib.Omega.{arith}
use Rattle.ranking.proofs.RankLaws.{listed_size, listed_few, listed_below, listed_rise, rank_placed, rank_folded}
use Rattle.dictionary.proofs.LentLaws.{lent_rising}
use Rattle.ranking.proofs.ranks.rank.Goals as goal

pub slice_bounds-in_order-end-2 : goal.slice_bounds-in_order-end-2
slice_bounds-in_order-end-2 c = let listed = rw c.len.ensures.count at c.collect-listed.ensures in
    listed_size _ _ listed

pub in_order-requires : goal.in_order-requires
in_order-requires c = let listed = rw c.len.ensures.count at c.collect-listed.ensures in
    (listed_below _ _ listed _ (omega arith), λ set. listed_rise _ _ listed (lent_rising c.len.ensures.lent set))

pub slice_bounds-place-end-then-in_order : goal.slice_bounds-place-end-then-in_order
slice_bounds-place-end-then-in_order c = let listed = rw c.len.ensures.count at c.collect-listed.ensures in
    listed_size _ _ listed

pub place-requires : goal.place-requires
place-requires c = let listed = rw c.len.ensures.count at c.collect-listed.ensures in
    let few = listed_few _ _ listed in
    (listed_below _ _ listed _ c.requires.1, omega arith)

pub returns-then-in_order : goal.returns-then-in_order
returns-then-in_order c = let listed = rw c.len.ensures.count at c.collect-listed.ensures in
    let rise = sym c.in_order.ensures ∙ c.if-in_order.true in
    rank_placed _ _ listed rise (c.place.ensures _ rise)

pub slice_bounds-sort_and_fold-end-2 : goal.slice_bounds-sort_and_fold-end-2
slice_bounds-sort_and_fold-end-2 c = let listed = rw c.len.ensures.count at c.collect-listed.ensures in
    listed_size _ _ listed

pub sort_and_fold-requires : goal.sort_and_fold-requires
sort_and_fold-requires c = let listed = rw c.len.ensures.count at c.collect-listed.ensures in
    let few = listed_few _ _ listed in
    (listed_below _ _ listed _ (omega arith), c.requires.1, omega arith)

pub returns : goal.returns
returns c = let listed = rw c.len.ensures.count at c.collect-listed.ensures in
    rank_folded _ _ listed c.sort_and_fold.ensures
