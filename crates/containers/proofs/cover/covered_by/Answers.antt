-- `covered_by`: the marks on a clean map, then the walk.
use mathlib.Core.Path.{refl}
use lib.ListN.{replicate, length-replicate}
use Rattle.containers.proofs.CoveredLaws.{covered_below, covered_walked}
use Rattle.containers.proofs.cover.covered_by.Goals as goal

pub mark-requires : goal.mark-requires
mark-requires g c = covered_below _ _ _ c.requires.scattered _ (rw length-replicate c.requires.bounds.1)

pub returns : goal.returns
returns g c =
    covered_walked _ _ _ c.requires.scattered refl (replicate g.row.BYTES 0) (rw length-replicate refl) (rw length-replicate c.requires.bounds.1) _ _ c.walk.ensures c.mark.ensures
