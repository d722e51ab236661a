-- `join`: the run stands in front of the spare room, and its parts are merged from there.
use mathlib.Core.Path.{sym, ap}
use lib.ListN.{length}
use Rattle.ranking.proofs.HalfLaws.{copied_front, copied_merged, copied_fits}
use Rattle.ranking.proofs.sorting.join.Goals as goal

pub slice_bounds-merge_halves-end-2 : goal.slice_bounds-merge_halves-end-2
slice_bounds-merge_halves-end-2 c = sym (ap length (copied_front _ c.args.spare.now _ c.copy_from_slice.ensures.after))

pub merge_halves-requires : goal.merge_halves-requires
merge_halves-requires c = let pre = c.requires in
    let fits = copied_fits _ c.args.spare.now _ c.copy_from_slice.ensures.after _ _ pre.0 pre.2 in
    (fits.0, fits.1, fits.2)

pub returns : goal.returns
returns c = copied_merged _ c.args.spare.now _ c.copy_from_slice.ensures.after _ c.args.half c.merge_halves.ensures
