-- `place_frame`: by the tag, then by the frame.
use Rattle.places.proofs.StepLaws.{place_other, place_framed}
use Rattle.places.proofs.frame.place_frame.Goals as goal

pub returns-then-s-at-ne80 : goal.returns-then-s-at-ne80
returns-then-s-at-ne80 c = search place_other

pub returns : goal.returns
returns c = search place_framed
