-- `write_offsets`: the offsets that are left, put behind those that are written, make all.
use Rattle.naming.proofs.LoopLaws.{OffsetsPut}
use Rattle.naming.proofs.write_offsets.Given as goal

abbrev pub invariant-loop-i : goal.invariant-loop-i
invariant-loop-i l = OffsetsPut l.dictionary.names l.chosen l.initial.out l.out l.place l.width l.at l.total l.i
