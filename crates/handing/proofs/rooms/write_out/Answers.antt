-- `write_out`: what was put is the row's outermost place, and is handed out; what was not is longer than the room.
use native.Mathlib.Omega.{arith}
use lib.ListN.{length-take, length-drop}
use borrow.Author.Rules.{rules}
use Rattle.handing.proofs.RoomLaws.{place_ready_lem, place_starts, place_answers, place_nowhere}
use Rattle.handing.proofs.rooms.write_out.Goals as goal

pub place-requires : goal.place-requires
place-requires c = let pre = c.requires in
    (record { above = omega arith; within = omega arith; small = omega (arith, pre.3) }, pre.3, place_ready_lem pre.0 pre.1 pre.2)

pub returns-in_err-start : goal.returns-in_err-start
returns-in_err-start c = let pre = c.requires in λ ready. rw c.from_residual.ensures (place_nowhere ready pre.1 pre.2 c.place.ensures c.in_err-start.was)

pub slice_bounds-hand_out-count : goal.slice_bounds-hand_out-count
slice_bounds-hand_out-count c = let pre = c.requires in place_starts pre.0 pre.1 pre.2 c.place.ensures c.in_ok-start.was

pub slice_bounds-hand_out-start : goal.slice_bounds-hand_out-start
slice_bounds-hand_out-start c = let pre = c.requires in
    let inside = place_starts pre.0 pre.1 pre.2 c.place.ensures c.in_ok-start.was in
    search rules

pub hand_out-requires : goal.hand_out-requires
hand_out-requires c = let pre = c.requires in (pre.0.normal.metadata_short, rw (length-take, length-drop) (omega (arith, pre.3)))

pub returns : goal.returns
returns c = let pre = c.requires in
    λ ready. place_answers ready pre.1 pre.2 c.place.ensures c.in_ok-start.was c.hand_out.ensures
