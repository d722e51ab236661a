use borrow.Author.Rules.{rules}
use Rattle.cutting.proofs.MissingLaws.{missing_start, missing_framed, missing_falls, missing_full, missing_next, missing_done}
use Rattle.cutting.proofs.missing.missing.Goals as goal

pub loop-field-init : goal.loop-field-init
loop-field-init c = search (rules, missing_start)

pub returns-in_err-start : goal.returns-in_err-start
returns-in_err-start c = rw c.from_residual.ensures (missing_full c.loop-field.invariant c.loop-field-test.true c.requires.0.within c.empty.ensures c.in_err-start.was)

pub frame_end-field-requires : goal.frame_end-field-requires
frame_end-field-requires c = search (rules, missing_framed)

pub loop-field-smaller : goal.loop-field-smaller
loop-field-smaller c = search (rules, missing_falls)

pub loop-field-preserved : goal.loop-field-preserved
loop-field-preserved c = missing_next c.loop-field.invariant c.loop-field-test.true c.requires.0.within c.empty.ensures c.in_ok-start.was c.frame_end-field.ensures

pub returns : goal.returns
returns c = search (rules, missing_done)
