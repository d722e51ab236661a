-- `note_left`: whatever the object is, what stands in the tables and what is left of it make all that is left over.
use Rattle.remainder.proofs.NoteLaws.{NoteSeen}
use Rattle.remainder.proofs.left.note_left.Given as goal

abbrev pub invariant-loop-k : goal.invariant-loop-k
invariant-loop-k l = NoteSeen l.schema l.table l.from l.to l.s l.members l.initial.notes l.initial.ids l.notes l.ids l.n l.place l.k
