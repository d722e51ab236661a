use mathlib.Core.Path.{sym, ◌∙◌}
use Prim.Native.Nat.{◌<◌}
use native.Mathlib.Omega.{arith}
use borrow.Author.Rules.{rules}
use borrow.Author.Tests.{eqb-true, eqb-false}
use lib.ListN.{length}
use Rattle.ranking.proofs.FoldLaws.{fold_none, fold_first_inside, fold_start, fold_below, fold_inside, fold_new, fold_same, fold_done}
use Rattle.ranking.proofs.ranks.fold.Goals as goal
use Rattle.ranking.proofs.ranks.fold.Goals.{then-name_before, else-name_before}

pub returns-then-is_empty : goal.returns-then-is_empty
returns-then-is_empty c = fold_none _ _ _ (eqb-true _ _ (sym c.is_empty.ensures ∙ c.if-is_empty.true))

pub set_normal-requires : goal.set_normal-requires
set_normal-requires c = let pre = c.requires in
    let some = eqb-false _ _ (sym c.is_empty.ensures ∙ c.if-is_empty.false) in (
      fold_first_inside c.args.dictionary.now.names c.args.ids.now c.args.ranks.now pre.0 pre.2 some _ c.id_at-last.ensures.0,
      search rules,
    )

pub loop-i-init : goal.loop-i-init
loop-i-init c = let pre = c.requires in
    let some = eqb-false _ _ (sym c.is_empty.ensures ∙ c.if-is_empty.false) in
    fold_start c.args.dictionary.now.names c.args.ids.now c.args.ranks.now pre.0 pre.2 some _ c.id_at-last.ensures.0 pre.1 c.set_normal.ensures

pub name_before-requires : goal.name_before-requires
name_before-requires c = let seen = c.loop-i.invariant in
    let there : c.loop-i.i < length c.loop-i.ids = omega arith in
    (seen.last_below, fold_below seen c.requires.0 there _ c.id_at-id.ensures.0)

pub overflow_sub-place : goal.overflow_sub-place
overflow_sub-place c = elim c.if-name_before.branch [ then-name_before w ↦ omega arith | else-name_before w ↦ omega arith ]

pub set_normal-requires-in-loop-i : goal.set_normal-requires-in-loop-i
set_normal-requires-in-loop-i c = let there : c.loop-i.i < length c.loop-i.ids = omega arith in (
  fold_inside c.loop-i.invariant c.requires.0 there _ c.id_at-id.ensures.0,
  elim c.if-name_before.branch [ then-name_before w ↦ omega arith | else-name_before w ↦ omega arith ],
)

pub loop-i-preserved : goal.loop-i-preserved
loop-i-preserved c = let below = c.requires.0 in
    let seen = c.loop-i.invariant in
    let test : c.loop-i.i < length c.loop-i.ids = omega arith in
    let told = c.name_before.ensures in
    elim c.if-name_before.branch [
      | then-name_before w ↦ fold_new seen below test _ c.id_at-id.ensures.0 _ told w.if-name_before.true (w.ids-is ∙ w.put_id.ensures) w.kept-is c.set_normal-in-loop-i.ensures
      | else-name_before w ↦ fold_same seen below test _ c.id_at-id.ensures.0 _ told w.if-name_before.false w.ids-is w.kept-is c.set_normal-in-loop-i.ensures
    ]

pub returns : goal.returns
returns c = search (rules, fold_done)
