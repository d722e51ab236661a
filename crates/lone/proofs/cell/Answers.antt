-- `cell`: nothing is written, or both.
use Rattle.std.proofs.lemmas.Result.{err_from_is_err_and}
use Rattle.lone.proofs.LoneLaws.{cell_needed, cell_done}
use Rattle.lone.proofs.cell.Goals as goal

pub returns-in_err-fits : goal.returns-in_err-fits
returns-in_err-fits c = λ value means. let p = err_from_is_err_and c.from_residual.result c.from_residual.ensures.1 in
    rw (p.1, p.2) (c.in_err-fits.ensures _ (cell_needed _ _ _ c.cell_size.ensures value means))

pub returns : goal.returns
returns c = λ value means. cell_done _ _ _ c.cell_size.ensures value means c.in_ok-fits.ensures c.write.ensures c.write_cell.ensures
