-- `object`: the head is there, so what the count says is.
use mathlib.Core.Path.{◌∙◌, sym, ap}
use lib.ListN.{length}
use borrow.Author.Rules.{rules}
use Rattle.containers.proofs.LayoutLaws.{count_there, ids_fit, starts_fit, head_asks, ids_in, starts_in, area_in, ids_there, starts_there, ids_same, starts_same, area_same, starts_few, area_small, ids_starts_length}
use Rattle.containers.proofs.opened.object.Goals as goal

pub read-count-requires : goal.read-count-requires
read-count-requires c = count_there _ _ _ _ c.requires.0

pub overflow_mul-starts : goal.overflow_mul-starts
overflow_mul-starts c = ids_fit _ _ _ _ c.requires.0 _ c.read-count.ensures.0

pub overflow_add-starts : goal.overflow_add-starts
overflow_add-starts c = starts_fit _ _ _ _ c.requires.0 _ c.read-count.ensures.0

pub head_size-area-requires : goal.head_size-area-requires
head_size-area-requires c = head_asks _ _ _ _ c.requires.0 _ c.read-count.ensures.0

pub slice_bounds-new-count : goal.slice_bounds-new-count
slice_bounds-new-count c = ids_in _ _ _ _ c.requires.0 _ c.read-count.ensures.0

pub slice_bounds-new-start : goal.slice_bounds-new-start
slice_bounds-new-start c = let there = ids_in _ _ _ _ c.requires.0 _ c.read-count.ensures.0 in search rules

pub new-requires : goal.new-requires
new-requires c = (ids_there _ _ _ _ c.requires.0 _ c.read-count.ensures.0, c.requires.1, c.requires.0.id_most)

pub slice_bounds-new-count-2 : goal.slice_bounds-new-count-2
slice_bounds-new-count-2 c = starts_in _ _ _ _ c.requires.0 _ c.read-count.ensures.0

pub slice_bounds-new-start-2 : goal.slice_bounds-new-start-2
slice_bounds-new-start-2 c = let there = starts_in _ _ _ _ c.requires.0 _ c.read-count.ensures.0 in search rules

pub new-requires-2 : goal.new-requires-2
new-requires-2 c = (starts_there _ _ _ _ c.requires.0 _ c.read-count.ensures.0, c.requires.0.least, c.requires.0.most)

pub slice_bounds-result-count : goal.slice_bounds-result-count
slice_bounds-result-count c = area_in _ _ _ _ c.requires.0 _ c.read-count.ensures.0 _ c.head_size-area.ensures.0

pub slice_bounds-result-start : goal.slice_bounds-result-start
slice_bounds-result-start c = let there = area_in _ _ _ _ c.requires.0 _ c.read-count.ensures.0 _ c.head_size-area.ensures.0 in search rules

pub invariant_of-result : goal.invariant_of-result
invariant_of-result c =
    record {
      few = rw (c.new-2.ensures ∙ starts_same _ _ _ _ c.requires.0 _ c.read-count.ensures.0) (starts_few _ _ _ _ c.requires.0 _ c.read-count.ensures.0);
      small = rw (area_same _ _ _ _ c.requires.0 _ c.read-count.ensures.0 _ c.head_size-area.ensures.0) (area_small _ _ _ _ c.requires.0);
    }

pub returns-clause-ids : goal.returns-clause-ids
returns-clause-ids c = c.new.ensures ∙ ids_same _ _ _ _ c.requires.0 _ c.read-count.ensures.0

pub returns-clause-starts : goal.returns-clause-starts
returns-clause-starts c = c.new-2.ensures ∙ starts_same _ _ _ _ c.requires.0 _ c.read-count.ensures.0

pub returns-clause-area : goal.returns-clause-area
returns-clause-area c = area_same _ _ _ _ c.requires.0 _ c.read-count.ensures.0 _ c.head_size-area.ensures.0

pub returns-clause-as_many : goal.returns-clause-as_many
returns-clause-as_many c =
    ap length (c.new.ensures ∙ ids_same _ _ _ _ c.requires.0 _ c.read-count.ensures.0)
    ∙ ids_starts_length _ _ _ _ c.requires.0 c.requires.1
    ∙ sym (ap length (c.new-2.ensures ∙ starts_same _ _ _ _ c.requires.0 _ c.read-count.ensures.0))
