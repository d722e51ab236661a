-- `note_elements`: the places in front of the one here stand in the table; a lawful list's places are all whole.
use Prim.Native.Nat.{◌-◌}
use lib.ListN.{length}
use Rattle.noting.proofs.ElementLaws.{ElementsSeen}
use Rattle.noting.proofs.elements.note_elements.Given as goal

abbrev pub invariant-loop-at : goal.invariant-loop-at
invariant-loop-at l = ElementsSeen l.body l.initial.places l.places l.n l.at

abbrev pub decreases-loop-at : goal.decreases-loop-at
decreases-loop-at l = length l.body - l.at
