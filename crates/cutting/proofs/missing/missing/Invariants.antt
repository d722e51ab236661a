-- `missing`: each turn puts an empty place and passes a field.
use Prim.Native.Nat.{◌-◌}
use Rattle.cutting.proofs.MissingLaws.{MissingSeen}
use Rattle.cutting.proofs.missing.missing.Given as goal

abbrev pub invariant-loop-field : goal.invariant-loop-field
invariant-loop-field l = MissingSeen l.schema l.from l.to l.initial.out l.out l.end l.start l.field

abbrev pub decreases-loop-field : goal.decreases-loop-field
decreases-loop-field l = l.to - l.field
