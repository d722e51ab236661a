-- `note`: two entries and two bytes, behind those that stand.
use mathlib.Core.Path.{refl}
use native.Mathlib.Omega.{arith}
use lib.ListN.{length-set}
use Rattle.noting.proofs.AddedLaws.{one_added}
use Rattle.noting.proofs.members.note.Goals as goal

pub bounds-places-first-2 : goal.bounds-places-first-2
bounds-places-first-2 c = let room = c.requires.0.places_room in rw length-set (omega arith)

pub returns : goal.returns
returns c = one_added (record { room = c.requires.0; low = c.requires.1; put = refl; wrote = c.write.ensures })
