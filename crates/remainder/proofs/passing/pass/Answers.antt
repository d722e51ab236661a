use borrow.Author.Rules.{rules}
use Rattle.remainder.proofs.PassLaws.{pass_start, pass_entry, pass_here, pass_frame, pass_next, pass_end}
use Rattle.remainder.proofs.passing.pass.Goals as goal

pub loop-place-init : goal.loop-place-init
loop-place-init c = search (rules, pass_start)

pub reaches-requires : goal.reaches-requires
reaches-requires c = search (rules, pass_entry)

pub returns-else-not-reaches : goal.returns-else-not-reaches
returns-else-not-reaches c = search (rules, pass_here)

pub frame_end-place-requires : goal.frame_end-place-requires
frame_end-place-requires c = search (rules, pass_frame)

pub loop-place-preserved : goal.loop-place-preserved
loop-place-preserved c = search (rules, pass_next)

pub returns-after-loop-place : goal.returns-after-loop-place
returns-after-loop-place c = search (rules, pass_end)
