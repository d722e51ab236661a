-- `names_fields`: the node at the place names fields exactly when the schema does.
use Prim.Native.Nat.{◌-◌}
use lib.ListN.{length}
use Rattle.fields.proofs.NamesLaws.{ListsSeen}
use Rattle.fields.proofs.names_fields.Given as goal

abbrev pub invariant-loop-place : goal.invariant-loop-place
invariant-loop-place l = ListsSeen l.schema l.place

abbrev pub decreases-loop-place : goal.decreases-loop-place
decreases-loop-place l = length l.schema - l.place
