-- `array`: the head is there, so what the count says is.
use mathlib.Core.Path.{◌∙◌, refl}
use borrow.Author.Rules.{rules}
use Rattle.paper.specs.Words.{numbers}
use Rattle.containers.proofs.LayoutLaws.{count_there, head_asks, ids_in, area_in, array_starts_there, array_starts_same, area_same, starts_few, area_small}
use Rattle.containers.proofs.opened.array.Goals as goal

pub read-count-requires : goal.read-count-requires
read-count-requires c = count_there _ _ _ _ c.requires

pub head_size-area-requires : goal.head_size-area-requires
head_size-area-requires c = head_asks _ _ _ _ c.requires _ c.read-count.ensures.0

pub slice_bounds-new-count : goal.slice_bounds-new-count
slice_bounds-new-count c = ids_in _ _ _ _ c.requires _ c.read-count.ensures.0

pub slice_bounds-new-start : goal.slice_bounds-new-start
slice_bounds-new-start c = let there = ids_in _ _ _ _ c.requires _ c.read-count.ensures.0 in search rules

pub new-requires-2 : goal.new-requires-2
new-requires-2 c = (array_starts_there _ _ _ _ c.requires refl _ c.read-count.ensures.0, c.requires.least, c.requires.most)

pub slice_bounds-result-count : goal.slice_bounds-result-count
slice_bounds-result-count c = area_in _ _ _ _ c.requires _ c.read-count.ensures.0 _ c.head_size-area.ensures.0

pub slice_bounds-result-start : goal.slice_bounds-result-start
slice_bounds-result-start c = let there = area_in _ _ _ _ c.requires _ c.read-count.ensures.0 _ c.head_size-area.ensures.0 in search rules

pub invariant_of-result : goal.invariant_of-result
invariant_of-result c =
    record {
      few = rw (c.new-2.ensures ∙ array_starts_same _ _ _ _ c.requires refl _ c.read-count.ensures.0) (starts_few _ _ _ _ c.requires _ c.read-count.ensures.0);
      small = rw (area_same _ _ _ _ c.requires _ c.read-count.ensures.0 _ c.head_size-area.ensures.0) (area_small _ _ _ _ c.requires);
    }

pub returns-clause-ids : goal.returns-clause-ids
unfolding numbers
returns-clause-ids c = c.new.ensures

pub returns-clause-starts : goal.returns-clause-starts
returns-clause-starts c = c.new-2.ensures ∙ array_starts_same _ _ _ _ c.requires refl _ c.read-count.ensures.0

pub returns-clause-area : goal.returns-clause-area
returns-clause-area c = area_same _ _ _ _ c.requires _ c.read-count.ensures.0 _ c.head_size-area.ensures.0
