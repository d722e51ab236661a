-- `part_at`: both starts are there, and the member is what stands between them.
use borrow.Author.Rules.{rules}
use Rattle.members.proofs.ReachLaws.{start_place_fits, start_fits, end_fits, start_readable, end_readable, part_fits, part_ordered, part_inside, part_is}
use Rattle.members.proofs.part_at.Goals as goal

pub overflow_mul-place : goal.overflow_mul-place
overflow_mul-place c = search (rules, start_place_fits)

pub overflow_add-place : goal.overflow_add-place
overflow_add-place c = search (rules, start_fits)

pub read-requires : goal.read-requires
read-requires c = search (rules, start_readable)

pub overflow_add-place-2 : goal.overflow_add-place-2
overflow_add-place-2 c = search (rules, end_fits)

pub read-requires-2 : goal.read-requires-2
read-requires-2 c = search (rules, end_readable)

pub overflow_add-to : goal.overflow_add-to
overflow_add-to c = search (rules, part_fits)

pub slice_bounds-result-count : goal.slice_bounds-result-count
slice_bounds-result-count c = search (rules, part_ordered)

pub slice_bounds-result-start : goal.slice_bounds-result-start
slice_bounds-result-start c = search (rules, part_ordered)

pub slice_bounds-result-end : goal.slice_bounds-result-end
slice_bounds-result-end c = search (rules, part_inside)

pub returns : goal.returns
returns c = search (rules, part_is)
