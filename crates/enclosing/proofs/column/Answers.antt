-- `column`: by what the first byte says.
use borrow.Author.Rules.{rules}
use Rattle.enclosing.proofs.ColumnLaws.{column_fixed, prefix_there, prefixed_typed, prefixed_left, short_typed, short_left, other_left}
use Rattle.enclosing.proofs.column.Goals as goal
use Rattle.enclosing.proofs.column.Goals.{in_default-via-in-Prefixed+else-wide-kind, in_default-via-in-Short+else-code-eq16, in_default-via-in_default}

pub slice_bounds-place-count : goal.slice_bounds-place-count
slice_bounds-place-count c = search (rules, prefix_there)

pub slice_bounds-place-start : goal.slice_bounds-place-start
slice_bounds-place-start c = search (rules, prefix_there)

pub returns-in-Fixed : goal.returns-in-Fixed
returns-in-Fixed c = search (rules, column_fixed)

pub returns-in-Prefixed : goal.returns-in-Prefixed
returns-in-Prefixed c = search (rules, prefixed_typed)

pub returns-in-Short : goal.returns-in-Short
returns-in-Short c = search (rules, short_typed)

pub returns-in_default : goal.returns-in_default
returns-in_default c = elim c.in_default.branch [
  | in_default-via-in-Prefixed+else-wide-kind w ↦ search (rules, prefixed_left)
  | in_default-via-in-Short+else-code-eq16 w ↦ search (rules, short_left)
  | in_default-via-in_default w ↦ search (rules, other_left)
]
