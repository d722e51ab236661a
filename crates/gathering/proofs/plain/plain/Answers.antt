-- `plain`: no bytes; a cell alone; no frame of a leftover; one that is too short, or does not fill the place; a leftover alone.
use borrow.Author.Rules.{rules}
use Rattle.gathering.proofs.PlainLaws.{not_told, empty_plain, cell_plain, leftover_plain}
use Rattle.gathering.proofs.plain.plain.Goals as goal

pub returns-then-body-eq0 : goal.returns-then-body-eq0
returns-then-body-eq0 c = search (rules, empty_plain)

pub returns-then-tag-eq66 : goal.returns-then-tag-eq66
returns-then-tag-eq66 c = search (rules, cell_plain)

pub returns-then-tag-ne65 : goal.returns-then-tag-ne65
returns-then-tag-ne65 c = search (rules, not_told)

pub returns-then-body-lt4 : goal.returns-then-body-lt4
returns-then-body-lt4 c = search (rules, not_told)

pub returns-then-size-body : goal.returns-then-size-body
returns-then-size-body c = search (rules, not_told)

pub returns : goal.returns
returns c = search (rules, leftover_plain)
