-- `position_of`: what is left of the ids has the name that much further on.
use Rattle.paths.proofs.PositionLaws.{PositionSeen}
use Rattle.paths.proofs.places.position_of.Given as goal

abbrev pub invariant-loop-i : goal.invariant-loop-i
invariant-loop-i l = PositionSeen l.dictionary.names l.ids l.name l.i
