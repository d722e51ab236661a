-- `sort_by`: each half is shorter than the run; sorted, the two merge to the run sorted.
use lib.ListN.{length}
use Rattle.ranking.proofs.sorting.+sort_by.Given as goal

abbrev pub decreases-sort_by : goal.decreases-sort_by
decreases-sort_by l = length l.ids.now
