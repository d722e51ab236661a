use mathlib.Core.Path.{◌≡◌, sym, ◌∙◌}
use borrow.Author.Rules.{rules}
use borrow.Author.Tests.{eqb-true, eqb-false}
use lib.ListN.{length}
use Rattle.ranking.proofs.OrderedLaws.{ordered_none, ordered_start, ordered_done, ordered_below, ordered_next, ordered_falls}
use Rattle.ranking.proofs.sorting.in_order.Goals as goal
use Rattle.ranking.proofs.sorting.in_order.Goals.{then-is_sorted-via-then-is_sorted, then-is_sorted-via-else-is_sorted+then-is_empty}

pub returns-then-is_sorted : goal.returns-then-is_sorted
returns-then-is_sorted c = elim c.then-is_sorted.branch [
  | then-is_sorted-via-then-is_sorted w ↦ sym (c.requires.1 (sym c.is_sorted.ensures.flag ∙ w.if-is_sorted.true))
  | then-is_sorted-via-else-is_sorted+then-is_empty w ↦ ordered_none _ _ (eqb-true _ _ (sym w.is_empty.ensures ∙ w.if-is_empty.true))
]

pub loop-i-init : goal.loop-i-init
loop-i-init c = let some : length c.args.ids.now ≡ 0 → ⊥ = eqb-false _ _ (sym c.is_empty.ensures ∙ c.if-is_empty.false) in
    search (rules, ordered_start)

pub name_before-requires : goal.name_before-requires
name_before-requires c = search (rules, ordered_below)

pub returns-then-not-name_before : goal.returns-then-not-name_before
returns-then-not-name_before c = search (rules, ordered_falls)

pub loop-i-preserved : goal.loop-i-preserved
loop-i-preserved c = search (rules, ordered_next)

pub returns : goal.returns
returns c = search (rules, ordered_done)
