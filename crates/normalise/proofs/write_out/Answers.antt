-- `write_out`: there is room for twice the value, and what stands at its end is handed out.
use borrow.Author.Rules.{rules}
use Rattle.normalise.proofs.NumberedLaws.{ready, write_starts, write_answers}
use Rattle.normalise.proofs.write_out.Goals as goal

pub value-start-requires : goal.value-start-requires
value-start-requires c = let pre = c.requires in ready pre.0 _ pre.1 pre.2

pub slice_bounds-hand_out-count : goal.slice_bounds-hand_out-count
slice_bounds-hand_out-count c = write_starts c.requires.0 c.value-start.ensures

pub slice_bounds-hand_out-start : goal.slice_bounds-hand_out-start
slice_bounds-hand_out-start c = let inside = write_starts c.requires.0 c.value-start.ensures in
    search rules

pub returns : goal.returns
returns c = write_answers c.requires.0 c.value-start.ensures c.hand_out.ensures
