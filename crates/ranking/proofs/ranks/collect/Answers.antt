use mathlib.Core.Path.{◌∙◌}
use borrow.Author.Rules.{rules}
use Rattle.ranking.proofs.CollectLaws.{collect_start, collect_one, collect_none, collect_done}
use Rattle.ranking.proofs.ranks.collect.Goals as goal
use Rattle.ranking.proofs.ranks.collect.Goals.{then-is_used, else-is_used}

pub loop-i-init : goal.loop-i-init
loop-i-init c = collect_start _ _

pub loop-i-preserved : goal.loop-i-preserved
loop-i-preserved c = let seen = c.loop-i.invariant in
    let told = c.is_used.ensures in
    let test = c.loop-i-test.true in
    elim c.if-is_used.branch [
      | then-is_used w ↦ collect_one seen _ told w.if-is_used.true (search rules) (w.chosen-is ∙ w.put_id.ensures) w.n-is
      | else-is_used w ↦ collect_none seen _ told w.if-is_used.false w.chosen-is w.n-is
    ]

pub returns : goal.returns
returns c = collect_done c.loop-i.invariant (search rules) (search rules)
