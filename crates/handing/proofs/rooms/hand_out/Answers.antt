-- `hand_out`: too large, no room, or written in four parts.
use mathlib.Core.Path.{refl}
use borrow.Author.Rules.{rules}
use Rattle.handing.proofs.HandLaws.{hand_large, hand_short, hand_done}
use Rattle.handing.proofs.rooms.hand_out.Goals as goal

pub returns-then-size-gt-MOST_ROW : goal.returns-then-size-gt-MOST_ROW
returns-then-size-gt-MOST_ROW c = search (rules, hand_large)

pub returns-then-row-size : goal.returns-then-row-size
returns-then-row-size c = search (rules, hand_short)

pub returns : goal.returns
returns c = hand_done _ _ _ refl c.if-size-gt-MOST_ROW.false _ c.if-row-size.false c.write.ensures c.write-2.ensures c.put.ensures c.put-2.ensures
