-- `child`, `children` and `mark`: what is left of the children is to be marked on what is marked, and a value is marked by its
-- first byte. A call takes a level, or keeps it and goes from `children` to `child` to `mark`.
use Prim.Native.Nat.{◌+◌, ◌*◌}
use Rattle.marking.proofs.InsideLaws.{InsideSeen}
use Rattle.marking.proofs.+child_children_mark.Given as goal

abbrev pub decreases-child : goal.decreases-child
decreases-child l = 3 * l.levels + 1

abbrev pub decreases-children : goal.decreases-children
decreases-children l = 3 * l.levels + 2

abbrev pub decreases-mark : goal.decreases-mark
decreases-mark l = 3 * l.levels

abbrev pub invariant-children-loop-i : goal.invariant-children-loop-i
invariant-children-loop-i l = InsideSeen l.levels l.container.area.now l.container.starts l.initial.used l.used l.i
