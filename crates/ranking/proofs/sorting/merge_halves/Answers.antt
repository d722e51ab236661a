-- `merge_halves`: the two parts of the run.
use mathlib.Core.Path.{ap, ◌∙◌}
use lib.ListN.{take}
use Rattle.runs.proofs.NumbersRunLaws.{rest_is}
use Rattle.ranking.specs.Merging.{merged}
use Rattle.ranking.proofs.HalfLaws.{half_size, half_below, rest_below, parts_size}
use Rattle.ranking.proofs.sorting.merge_halves.Goals as goal

pub slice_bounds-merge-end : goal.slice_bounds-merge-end
slice_bounds-merge-end c = half_size _ _ c.requires.2

pub merge-requires : goal.merge-requires
merge-requires c = let pre = c.requires in
    let lent = c.args in
    (half_below lent.ids.now lent.half _ pre.0, rest_below lent.ids.now lent.half _ pre.0, pre.1 ∙ parts_size lent.ids.now lent.half pre.2)

pub returns : goal.returns
returns c = let lent = c.args in
    c.merge.ensures ∙ ap (merged lent.dictionary.now.names (take lent.half lent.ids.now)) (rest_is lent.ids.now lent.half)
