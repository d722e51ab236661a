-- `note_left`: what was passed is noted, and the next one decides.
use Rattle.noting.proofs.LeftLaws.{LeftSeen}
use Rattle.noting.proofs.members.note_left.Given as goal

abbrev pub invariant-loop-i : goal.invariant-loop-i
invariant-loop-i l = LeftSeen l.ranks l.lefts l.starts l.from l.bound l.initial.places l.initial.ids l.n l.places l.ids l.i
