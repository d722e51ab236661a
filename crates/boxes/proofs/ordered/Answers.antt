-- `ordered`: by the two tests.
use Rattle.boxes.proofs.BoxLaws.{in_order, south_above, west_above}
use Rattle.boxes.proofs.ordered.Goals as goal
use Rattle.boxes.proofs.ordered.Goals.{else-west-east-via-then-west-east+else-south-north, else-west-east-via-else-west-east}

pub returns-then-south-north : goal.returns-then-south-north
returns-then-south-north c = in_order _ _ _ _ c.if-west-east.true c.if-south-north.true

pub returns : goal.returns
returns c =
    elim c.else-west-east.branch [
      | else-west-east-via-then-west-east+else-south-north w ↦ south_above _ _ _ _ w.if-south-north.false
      | else-west-east-via-else-west-east w ↦ west_above _ _ _ _ w.if-west-east.false
    ]
