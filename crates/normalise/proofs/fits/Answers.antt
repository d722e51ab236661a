-- `fits`: too large, or a 9 for either buffer.
use Rattle.normalise.proofs.AnswerLaws.{needed_large, needed_short}
use Rattle.normalise.proofs.fits.Goals as goal

pub returns-then-needed-gt-MOST_VALUE : goal.returns-then-needed-gt-MOST_VALUE
returns-then-needed-gt-MOST_VALUE c = λ d same. needed_large d _ _ _ same c.if-needed-gt-MOST_VALUE.true

pub returns-then-metadata_out-needed : goal.returns-then-metadata_out-needed
returns-then-metadata_out-needed c = λ d same. needed_short d _ _ _ same c.if-needed-gt-MOST_VALUE.false c.then-metadata_out-needed.either
