-- `judge_row`: the row's verdict, under a schema that was admitted.
use mathlib.Core.Path.{refl, sym}
use borrow.Author.Rules.{rules}
use Rattle.register.proofs.RowAnswers.{row_judged_as}
use Rattle.register.proofs.judge_row.Goals as goal

pub returns : goal.returns
returns c = let pre = c.requires in row_judged_as _ _ pre.1 pre.2 _ (sym pre.0) refl (search rules) _ c.judge.ensures
