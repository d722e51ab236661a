-- `hand_out`: nothing is written, or both.
use mathlib.Core.Path.{refl}
use Rattle.std.proofs.lemmas.Result.{err_from_is_err_and}
use Rattle.normalise.proofs.AnswerLaws.{lengths_same, handed_done}
use Rattle.normalise.proofs.hand_out.Goals as goal

pub returns-in_err-fits : goal.returns-in_err-fits
returns-in_err-fits c = λ d used is. let p = err_from_is_err_and c.from_residual.result c.from_residual.ensures.1 in
    rw (p.1, p.2) (c.in_err-fits.ensures d (lengths_same d _ used _ is _ c.size.ensures refl))

pub returns : goal.returns
returns c = λ d used is. handed_done d _ used _ is _ c.size.ensures refl c.in_ok-fits.ensures c.write.ensures c.put.ensures
