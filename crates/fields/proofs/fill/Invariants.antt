-- `fill`: the fields in front of the place are told.
use Prim.Native.Nat.{◌-◌}
use lib.ListN.{length}
use Rattle.fields.proofs.FillLaws.{ScanSeen}
use Rattle.fields.proofs.fill.Given as goal

abbrev pub invariant-loop-place : goal.invariant-loop-place
invariant-loop-place l = ScanSeen l.dictionary.names l.schema l.initial.table l.table l.place

abbrev pub decreases-loop-place : goal.decreases-loop-place
decreases-loop-place l = length l.schema - l.place
