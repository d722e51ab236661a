-- `child`, `insides` and `value`: what is left of the children decides, and a value is judged by its first byte. A call takes
-- a level, or keeps it and goes from `insides` to `child` to `value`.
use Prim.Native.Nat.{◌+◌, ◌*◌}
use Rattle.paper.specs.Values.{meaning_of}
use Rattle.values.proofs.InsideLaws.{InsidesSeen}
use Rattle.values.proofs.walker.+child_insides_value.Given as goal

abbrev pub decreases-child : goal.decreases-child
decreases-child l = 3 * l.levels + 1

abbrev pub decreases-insides : goal.decreases-insides
decreases-insides l = 3 * l.levels + 2

abbrev pub decreases-value : goal.decreases-value
decreases-value l = 3 * l.levels

abbrev pub invariant-insides-loop-i : goal.invariant-insides-loop-i
invariant-insides-loop-i l = InsidesSeen (meaning_of l.levels l.dictionary.names) l.container.area.now l.container.starts l.i
