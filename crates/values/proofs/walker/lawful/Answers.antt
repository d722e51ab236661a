-- `lawful`: the extent is the length, and the walker does the rest.
use borrow.Author.Rules.{rules}
use Rattle.values.proofs.WholeLaws.{no_extent, other_extent, fills}
use Rattle.values.proofs.walker.lawful.Goals as goal

pub returns-in_default : goal.returns-in_default
returns-in_default c = search no_extent

pub returns-then-size-s : goal.returns-then-size-s
returns-then-size-s c = search other_extent

pub value-requires : goal.value-requires
value-requires c = search (rules, fills)
