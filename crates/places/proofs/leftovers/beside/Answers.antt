-- `beside`: a leftover that reads is judged by rules a, b and c.
use mathlib.Core.Path.{ap}
use mathlib.Core.Bool.{not}
use Rattle.places.proofs.LeftLaws.{beside_unread, beside_ready, beside_judged}
use Rattle.places.proofs.leftovers.beside.Goals as goal

pub returns-then-not-lawful_left : goal.returns-then-not-lawful_left
returns-then-not-lawful_left c = beside_unread _ _ _ _ _ _ c.lawful_left.ensures (ap not c.if-not-lawful_left.true) _

pub beside_broken-requires : goal.beside_broken-requires
beside_broken-requires c = search beside_ready

pub returns : goal.returns
returns c = beside_judged _ _ _ _ _ _ c.lawful_left.ensures (ap not c.if-not-lawful_left.false) _ c.beside_broken.ensures _ _ c.broken_if.ensures
