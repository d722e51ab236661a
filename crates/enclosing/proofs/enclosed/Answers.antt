-- `enclosed`: the part's head, then the place's.
use borrow.Author.Rules.{rules}
use Rattle.putting.proofs.PutLaws.{told_room}
use Rattle.enclosing.proofs.FrameLaws.{enclosed_full, inner_below, inner_within, inner_short, put_enclosed}
use Rattle.enclosing.proofs.enclosed.Goals as goal

pub returns-in_err-inner : goal.returns-in_err-inner
returns-in_err-inner c = rw c.from_residual.ensures (search (rules, enclosed_full))

pub head-requires-2 : goal.head-requires-2
head-requires-2 c = search (rules, told_room, inner_below, inner_within, inner_short)

pub returns : goal.returns
returns c = search (rules, put_enclosed)
