-- `box_in`: side by side, then by their order.
use Rattle.paper.specs.Boxes.{east, north, south, west}
use Rattle.boxes.proofs.BoxLaws.{no_east, no_north, no_south, no_west, four_sides, box_read}
use Rattle.boxes.proofs.box_in.Goals as goal

pub returns-in_err-east : goal.returns-in_err-east
unfolding east
returns-in_err-east c = rw c.from_residual.ensures (no_east _ _ _ _ c.in_err-east.was c.side_in.ensures)

pub returns-in_err-north : goal.returns-in_err-north
unfolding north
returns-in_err-north c = rw c.from_residual-in_err-north.ensures (no_north _ _ _ _ c.in_err-north.was c.side_in-2.ensures)

pub returns-in_err-south : goal.returns-in_err-south
unfolding south
returns-in_err-south c = rw c.from_residual-in_err-south.ensures (no_south _ _ _ _ c.in_err-south.was c.side_in-3.ensures)

pub returns-in_err-west : goal.returns-in_err-west
unfolding west
returns-in_err-west c = rw c.from_residual-in_err-west.ensures (no_west _ _ _ _ c.in_err-west.was c.side_in-4.ensures)

pub returns : goal.returns
unfolding east north south west
returns c =
    box_read _ _ _ _
    (four_sides _ _ _ _ c.in_ok-east.was c.side_in.ensures
    c.in_ok-north.was c.side_in-2.ensures
    c.in_ok-south.was c.side_in-3.ensures
    c.in_ok-west.was c.side_in-4.ensures)
    c.ordered.ensures
