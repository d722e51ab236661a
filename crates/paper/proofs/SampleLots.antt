-- The sample lots hold: each list is one statement, and the checker computes it.
use mathlib.Core.Path.{refl}
use Rattle.paper.specs.Running.{running}
use Rattle.paper.specs.Lots.{AllHold, starred, tempting}
use Rattle.paper.specs.RowLots.{ruled}

pub starred_hold : AllHold starred
unfolding running AllHold starred
starred_hold = (refl, (refl, (refl, (refl, (refl, (refl, (refl, (refl, (refl, (refl, (refl, (refl, (refl, tt)))))))))))))

pub tempting_hold : AllHold tempting
unfolding running AllHold tempting
tempting_hold = (refl, (refl, (refl, (refl, (refl, (refl, (refl, (refl, (refl, (refl, tt))))))))))

pub ruled_hold : AllHold ruled
unfolding running AllHold ruled
ruled_hold = (refl, (refl, (refl, (refl, (refl, (refl, (refl, (refl, (refl, (refl, (refl, (refl, (refl, (refl, (refl, tt)))))))))))))))
