-- `mark_run`: what is left to be marked, on what is marked.
use Rattle.marking.proofs.RunLaws.{RunSeen}
use Rattle.marking.proofs.mark_run.Given as goal

abbrev pub invariant-loop-i : goal.invariant-loop-i
invariant-loop-i l = RunSeen l.ids l.initial.used l.used l.i
