-- `place`: the body, then both heads in front of it.
use borrow.Author.Rules.{rules}
use Rattle.enclosing.proofs.FrameLaws.{place_full, put_place}
use Rattle.enclosing.proofs.place.Goals as goal

pub returns-then-end-body : goal.returns-then-end-body
returns-then-end-body c = search (rules, place_full)

pub returns : goal.returns
returns c = search (rules, put_place)
