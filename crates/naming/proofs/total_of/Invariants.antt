-- `total_of`: with the names that are left the total is that of all.
use Rattle.naming.proofs.LoopLaws.{Summed}
use Rattle.naming.proofs.total_of.Given as goal

abbrev pub invariant-loop-i : goal.invariant-loop-i
invariant-loop-i l = Summed l.dictionary.names l.chosen l.total l.i
