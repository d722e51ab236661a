-- `write_out`: what was put above the floor is handed out; what was not would reach below it.
use native.Mathlib.Omega.{arith}
use borrow.Author.Rules.{rules}
use Rattle.rebuild.proofs.NumberedLaws.{place_ready_lem, value_put}
use Rattle.rebuild.proofs.RoomLaws.{put_starts, put_answers, put_nowhere}
use Rattle.rebuild.proofs.rooms.write_out.Goals as goal

pub place-requires : goal.place-requires
place-requires c = let pre = c.requires in
    (record { above = pre.2; within = omega arith; small = pre.3 }, place_ready_lem pre.0 pre.1)

pub returns-in_err-start : goal.returns-in_err-start
returns-in_err-start c = rw c.from_residual.ensures (put_nowhere (value_put c.requires.0 c.place.ensures) c.in_err-start.was)

pub slice_bounds-value-count : goal.slice_bounds-value-count
slice_bounds-value-count c = put_starts (value_put c.requires.0 c.place.ensures) c.in_ok-start.was

pub slice_bounds-value-start : goal.slice_bounds-value-start
slice_bounds-value-start c = let inside = put_starts (value_put c.requires.0 c.place.ensures) c.in_ok-start.was in
    search rules

pub hand_out-requires : goal.hand_out-requires
hand_out-requires c = rw c.args.numbered.now.row.now.opens c.requires.0.choice

pub returns : goal.returns
returns c = let pre = c.requires in
    put_answers (value_put pre.0 c.place.ensures) c.in_ok-start.was (rw c.args.numbered.now.row.now.opens pre.0.used) c.hand_out.ensures
