-- `tagged_within`: the frame's head is there, then its body, then its tag decides.
use borrow.Author.Rules.{rules}
use Rattle.schemas.proofs.FrameLaws.{tagged_short, tagged_cut, tagged_is}
use Rattle.schemas.proofs.framing.tagged_within.Goals as goal

pub returns-then-end-place-lt3 : goal.returns-then-end-place-lt3
returns-then-end-place-lt3 c = search (rules, tagged_short)

pub returns-then-end-body : goal.returns-then-end-body
returns-then-end-body c = search (rules, tagged_cut)

pub returns : goal.returns
returns c = search (rules, tagged_is)
