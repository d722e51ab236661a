-- `rebuild_row`: what the judge refuses is refused, and a lawful row is written.
use native.Mathlib.Omega.{arith}
use Rattle.std.proofs.lemmas.Result.{err_from_is_err_and}
use Rattle.register.proofs.RebuildLaws.{rebuild_refused, rebuild_lawful}
use Rattle.register.proofs.rebuild_row.Goals as goal

pub returns-in_err-admit : goal.returns-in_err-admit
returns-in_err-admit c =
    let p = err_from_is_err_and c.from_residual.result c.from_residual.ensures.1 in
    rw (p.1, p.2) (rebuild_refused _ _ c.in_err-admit.ensures _ _)

pub returns-in_err-parts : goal.returns-in_err-parts
returns-in_err-parts c =
    let p = err_from_is_err_and c.from_residual-in_err-parts.result c.from_residual-in_err-parts.ensures.1 in
    rw (p.1, p.2) (rebuild_refused _ _ c.in_err-parts.ensures _ _)

pub rebuild-requires : goal.rebuild-requires
rebuild-requires c = c.in_ok-parts.ensures.0

pub returns : goal.returns
returns c =
    let judged = c.in_ok-parts.ensures in
    rw judged.1 at (rebuild_lawful judged.0 (rw judged.1 (λ i. omega (arith, c.type_inv.row i))) c.rebuild.ensures)
