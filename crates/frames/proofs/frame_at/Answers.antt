-- `frame_at`: each return says what its tests show of the frame.
use borrow.Author.Rules.{rules}
use Rattle.frames.proofs.FrameLaws.{cut_short, cut_past, ends_there}
use Rattle.frames.proofs.frame_at.Goals as goal

pub returns-then-s-at-lt3 : goal.returns-then-s-at-lt3
returns-then-s-at-lt3 c = search (rules, cut_short)

pub returns-then-s-body : goal.returns-then-s-body
returns-then-s-body c = search (rules, cut_past)

pub returns : goal.returns
returns c = search (rules, ends_there)
