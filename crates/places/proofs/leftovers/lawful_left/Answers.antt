-- `lawful_left`: not too long, and a lawful value.
use Rattle.places.proofs.LeftLaws.{left_long, left_judged}
use Rattle.places.proofs.leftovers.lawful_left.Goals as goal

pub returns-else-left-le-MOST_LEFTOVER : goal.returns-else-left-le-MOST_LEFTOVER
returns-else-left-le-MOST_LEFTOVER c = left_long _ _ _ c.if-left-le-MOST_LEFTOVER.false

pub returns-then-left-le-MOST_LEFTOVER : goal.returns-then-left-le-MOST_LEFTOVER
returns-then-left-le-MOST_LEFTOVER c = search left_judged
