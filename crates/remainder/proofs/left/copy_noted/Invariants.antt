-- `copy_noted`: those from one on stand so that they end at the place.
use Rattle.remainder.proofs.CopyLaws.{CopySeen}
use Rattle.remainder.proofs.left.copy_noted.Given as goal

abbrev pub invariant-loop-i : goal.invariant-loop-i
invariant-loop-i l = CopySeen l.s l.members l.notes l.count l.initial.out l.out l.end l.start l.i
