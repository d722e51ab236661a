-- `write_names`: the names that are left, put behind those that are written, make all.
use Rattle.naming.proofs.LoopLaws.{NamesPut}
use Rattle.naming.proofs.write_names.Given as goal

abbrev pub invariant-loop-i : goal.invariant-loop-i
invariant-loop-i l = NamesPut l.dictionary.names l.chosen l.initial.out l.out l.place l.at l.i
