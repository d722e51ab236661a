use borrow.Author.Rules.{rules}
use Rattle.remainder.proofs.CopyLaws.{copy_start, copy_done, copy_within, copy_index, copy_there, copy_full, copy_next}
use Rattle.remainder.proofs.left.copy_noted.Goals as goal

pub loop-i-init : goal.loop-i-init
loop-i-init c = search (rules, copy_start)

pub spot-requires : goal.spot-requires
spot-requires c = search (rules, copy_index)

pub part_at-part-requires : goal.part_at-part-requires
part_at-part-requires c = search (rules, copy_there)

pub returns-then-start-part : goal.returns-then-start-part
returns-then-start-part c = search (rules, copy_full)

pub copied-start-requires : goal.copied-start-requires
copied-start-requires c = search (rules, copy_within)

pub loop-i-preserved : goal.loop-i-preserved
loop-i-preserved c = search (rules, copy_next)

pub returns : goal.returns
returns c = search (rules, copy_done)
