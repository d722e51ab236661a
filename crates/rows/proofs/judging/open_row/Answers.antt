-- `open_row`: in the order of the definition.
use mathlib.Core.Path.{refl}
use borrow.Author.Rules.{rules}
use Rattle.rows.proofs.JudgeLaws.{open_unhalved, halves_fit, open_other_tag, open_long, open_bad, open_other_place, open_is, open_at}
use Rattle.rows.proofs.judging.open_row.Goals as goal

pub returns-in_err-middle : goal.returns-in_err-middle
returns-in_err-middle c = rw c.from_residual.ensures (open_unhalved _ _ c.row_halves.ensures c.in_err-middle.was)

pub bounds-row-0 : goal.bounds-row-0
bounds-row-0 c = let fits = halves_fit _ _ c.row_halves.ensures c.in_ok-middle.was in search rules

pub returns-then-row-ne64 : goal.returns-then-row-ne64
returns-then-row-ne64 c = open_other_tag _ _ c.row_halves.ensures c.in_ok-middle.was c.if-row-ne64.true

pub overflow_sub-middle : goal.overflow_sub-middle
overflow_sub-middle c = let fits = halves_fit _ _ c.row_halves.ensures c.in_ok-middle.was in search rules

pub returns-then-middle-gt-MOST_METADATA : goal.returns-then-middle-gt-MOST_METADATA
returns-then-middle-gt-MOST_METADATA c = open_long _ _ c.row_halves.ensures c.in_ok-middle.was c.if-row-ne64.false c.if-middle-gt-MOST_METADATA.true

pub slice_bounds-metadata-count : goal.slice_bounds-metadata-count
slice_bounds-metadata-count c = let fits = halves_fit _ _ c.row_halves.ensures c.in_ok-middle.was in search rules

pub slice_bounds-metadata-start : goal.slice_bounds-metadata-start
slice_bounds-metadata-start c = let fits = halves_fit _ _ c.row_halves.ensures c.in_ok-middle.was in search rules

pub slice_bounds-metadata-end : goal.slice_bounds-metadata-end
slice_bounds-metadata-end c = let fits = halves_fit _ _ c.row_halves.ensures c.in_ok-middle.was in search rules

pub returns-in_err-dictionary : goal.returns-in_err-dictionary
returns-in_err-dictionary c = rw c.from_residual-in_err-dictionary.ensures (open_bad _ _ c.row_halves.ensures c.in_ok-middle.was c.if-row-ne64.false c.if-middle-gt-MOST_METADATA.false _ c.judge.ensures c.in_err-dictionary.was)

pub bounds-row-middle : goal.bounds-row-middle
bounds-row-middle c = let fits = halves_fit _ _ c.row_halves.ensures c.in_ok-middle.was in search rules

pub returns-then-row-middle-ne80 : goal.returns-then-row-middle-ne80
returns-then-row-middle-ne80 c = open_other_place _ _ c.row_halves.ensures c.in_ok-middle.was c.if-row-ne64.false c.if-middle-gt-MOST_METADATA.false _ c.judge.ensures c.in_ok-dictionary.was c.if-row-middle-ne80.true

pub slice_bounds-outermost-count : goal.slice_bounds-outermost-count
slice_bounds-outermost-count c = let fits = halves_fit _ _ c.row_halves.ensures c.in_ok-middle.was in search rules

pub slice_bounds-outermost-start : goal.slice_bounds-outermost-start
slice_bounds-outermost-start c = let fits = halves_fit _ _ c.row_halves.ensures c.in_ok-middle.was in search rules

pub invariant_of-result : goal.invariant_of-result
invariant_of-result c =
    record {
      opens = open_is _ _ c.row_halves.ensures c.in_ok-middle.was c.if-row-ne64.false c.if-middle-gt-MOST_METADATA.false _ c.judge.ensures c.in_ok-dictionary.was;
    }

pub returns : goal.returns
returns c = open_at _ _ c.row_halves.ensures c.in_ok-middle.was c.if-row-ne64.false c.if-middle-gt-MOST_METADATA.false _ c.judge.ensures c.in_ok-dictionary.was c.if-row-middle-ne80.false _ refl refl refl
