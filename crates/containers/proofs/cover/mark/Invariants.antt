-- `mark`: what is left to be marked, on what is marked.
use Rattle.containers.proofs.MarkLaws.{MarksSeen}
use Rattle.containers.proofs.cover.mark.Given as goal

abbrev pub invariant-loop-i : goal.invariant-loop-i
invariant-loop-i l = MarksSeen l.starts l.initial.marks l.marks l.i
