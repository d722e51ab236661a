-- `fold`: of the ids so far the first of each name is kept.
use Rattle.ranking.proofs.FoldLaws.{FoldSeen}
use Rattle.ranking.proofs.ranks.fold.Given as goal

abbrev pub invariant-loop-i : goal.invariant-loop-i
invariant-loop-i l = FoldSeen l.dictionary.names l.initial.ids l.ids l.initial.ranks l.ranks l.last.0 l.kept l.i
