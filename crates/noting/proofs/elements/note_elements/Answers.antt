use borrow.Author.Rules.{rules}
use Rattle.noting.proofs.ElementLaws.{elements_start, elements_done, elements_whole, spot_room, elements_falls, elements_next}
use Rattle.noting.proofs.elements.note_elements.Goals as goal

pub loop-at-init : goal.loop-at-init
loop-at-init c = search (rules, elements_start)

-- A list of lawful places has no other frame.
pub returns-in_default : goal.returns-in_default
returns-in_default c = absurd (elements_whole c.loop-at.invariant c.loop-at-test.true c.place_frame.ensures c.in_default.is)

pub bounds-places-n : goal.bounds-places-n
bounds-places-n c = search (rules, spot_room)

pub loop-at-smaller : goal.loop-at-smaller
loop-at-smaller c = search (rules, elements_falls)

pub loop-at-preserved : goal.loop-at-preserved
loop-at-preserved c = search (rules, elements_next)

pub returns : goal.returns
returns c = search (rules, elements_done)
