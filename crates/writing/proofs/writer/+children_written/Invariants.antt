-- `children` and `written`: the parts from one on stand up to the end, and a value is written by its first byte. A call
-- takes a level, or keeps it and goes from `children` to `written`.
use Prim.Native.Nat.{◌+◌, ◌*◌}
use Rattle.writing.proofs.ChildrenLaws.{ChildrenSeen}
use Rattle.writing.proofs.writer.+children_written.Given as goal

abbrev pub decreases-children : goal.decreases-children
decreases-children l = 2 * l.levels + 1

abbrev pub decreases-written : goal.decreases-written
decreases-written l = 2 * l.levels

abbrev pub invariant-children-loop-i : goal.invariant-children-loop-i
invariant-children-loop-i l = ChildrenSeen l.levels l.area l.container.starts l.ranks l.initial.out l.out l.end l.start l.i
