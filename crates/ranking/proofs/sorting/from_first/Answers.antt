-- `from_first`: one run has ended, or the names decide.
use borrow.Author.Rules.{rules}
use Rattle.ranking.proofs.HeldLaws.{entry_below}
use Rattle.ranking.proofs.MergeLaws.{takes_ended, takes_all, takes_lower}
use Rattle.ranking.proofs.sorting.from_first.Goals as goal

pub returns-then-first-i : goal.returns-then-first-i
returns-then-first-i c = search (rules, takes_ended)

pub returns-then-second-j : goal.returns-then-second-j
returns-then-second-j c = search (rules, takes_all)

pub name_before-requires : goal.name_before-requires
name_before-requires c = let pre = c.requires in (
  entry_below _ _ _ _ pre.1 c.if-second-j.false c.id_at.ensures.0,
  entry_below _ _ _ _ pre.0 c.if-first-i.false c.id_at-2.ensures.0,
)

pub returns : goal.returns
returns c = search (rules, takes_lower)
