-- `alone`: a leftover that reads is judged by rule d.
use mathlib.Core.Path.{ap}
use mathlib.Core.Bool.{not}
use borrow.Author.Rules.{rules}
use Rattle.places.proofs.LeftLaws.{left_ready_lem, alone_unread, left_some, alone_judged}
use Rattle.places.proofs.leftovers.alone.Goals as goal

pub returns-then-not-lawful_left : goal.returns-then-not-lawful_left
returns-then-not-lawful_left c = alone_unread _ _ _ _ _ _ c.lawful_left.ensures (ap not c.if-not-lawful_left.true)

pub left_broken-requires : goal.left_broken-requires
left_broken-requires c = search (rules, left_ready_lem, left_some)

pub returns : goal.returns
returns c = alone_judged _ _ _ _ _ _ c.lawful_left.ensures (ap not c.if-not-lawful_left.false) _ c.left_broken.ensures _ c.broken_if.ensures
