-- `offset_size`: the larger of the two numbers needs the width.
use Rattle.naming.proofs.offset_size.Goals as goal

pub returns : goal.returns
returns c = rw (← c.max.ensures) c.width_of.ensures
