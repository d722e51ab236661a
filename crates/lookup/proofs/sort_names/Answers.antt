-- `sort_names`: where the flag is set nothing is asked of the table, else it starts with the sorted ids.
use mathlib.Core.Path.{sym, ◌∙◌}
use native.Mathlib.Omega.{arith}
use Rattle.lookup.proofs.OrderedLaws.{order_flag, order_table, listed_asks, listed_sorted}
use Rattle.lookup.proofs.sort_names.Goals as goal

pub returns-then-is_sorted : goal.returns-then-is_sorted
returns-then-is_sorted c = order_flag _ (sym c.is_sorted.ensures.flag ∙ c.if-is_sorted.true)

pub slice_bounds-ids-end : goal.slice_bounds-ids-end
slice_bounds-ids-end c = let room = c.requires.1 (sym c.is_sorted.ensures.flag ∙ c.if-is_sorted.false) in omega arith

pub sort-requires : goal.sort-requires
sort-requires c = let room = c.requires.1 (sym c.is_sorted.ensures.flag ∙ c.if-is_sorted.false) in
    listed_asks _ c.len.ensures.count room c.list_ids.ensures _ c.requires.0

pub returns : goal.returns
returns c = let room = c.requires.1 (sym c.is_sorted.ensures.flag ∙ c.if-is_sorted.false) in
    order_table (listed_sorted _ c.len.ensures.count room c.list_ids.ensures c.sort.ensures) _
