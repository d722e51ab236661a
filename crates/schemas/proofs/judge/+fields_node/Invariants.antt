-- `fields` and `node`: what is left of the fields decides, and a node is judged by its frame and tag; the levels fall.
use Prim.Native.Nat.{◌+◌, ◌-◌, ◌*◌}
use Rattle.schemas.proofs.ObjectLaws.{FieldsSeen}
use Rattle.schemas.proofs.judge.+fields_node.Given as goal

abbrev pub decreases-fields : goal.decreases-fields
decreases-fields l = 2 * l.levels + 1

abbrev pub decreases-node : goal.decreases-node
decreases-node l = 2 * l.levels

abbrev pub invariant-fields-loop-place : goal.invariant-fields-loop-place
invariant-fields-loop-place l = FieldsSeen l.levels l.s l.from l.to l.last l.place

abbrev pub decreases-fields-loop-place : goal.decreases-fields-loop-place
decreases-fields-loop-place l = l.to - l.place
