-- `null`: nothing is written, or both.
use Rattle.std.proofs.lemmas.Result.{err_from_is_err_and}
use Rattle.lone.proofs.LoneLaws.{null_needed, null_done}
use Rattle.lone.proofs.null.Goals as goal

pub returns-in_err-fits : goal.returns-in_err-fits
returns-in_err-fits c = let p = err_from_is_err_and c.from_residual.result c.from_residual.ensures.1 in
    rw (p.1, p.2) (c.in_err-fits.ensures _ null_needed)

pub returns : goal.returns
returns c = null_done c.in_ok-fits.ensures c.write.ensures c.write-2.ensures
