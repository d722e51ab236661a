-- `collect`: the ids used so far are listed.
use Rattle.ranking.proofs.CollectLaws.{Collected}
use Rattle.ranking.proofs.ranks.collect.Given as goal

abbrev pub invariant-loop-i : goal.invariant-loop-i
invariant-loop-i l = Collected l.used l.initial.chosen l.chosen l.n l.i
