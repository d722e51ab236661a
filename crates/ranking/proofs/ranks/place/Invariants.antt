-- `place`: the ids so far have their places.
use Rattle.ranking.proofs.PlaceLaws.{Placed}
use Rattle.ranking.proofs.ranks.place.Given as goal

abbrev pub invariant-loop-i : goal.invariant-loop-i
invariant-loop-i l = Placed l.ids l.initial.ranks l.ranks l.i
