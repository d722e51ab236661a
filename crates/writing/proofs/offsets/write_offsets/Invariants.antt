use Rattle.writing.proofs.OffsetLoopLaws.{OffsetsLoop}
use Rattle.writing.proofs.offsets.write_offsets.Given as goal

abbrev pub invariant-loop : goal.invariant-loop
invariant-loop l = OffsetsLoop l.initial.out l.out l.count l.width l.start l.end l.from l.place l.child l.counter
