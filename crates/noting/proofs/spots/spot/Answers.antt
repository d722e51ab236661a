-- `spot`: an entry fits.
use native.Mathlib.Omega.{arith}
use Rattle.noting.proofs.spots.spot.Goals as goal

pub overflow_cast-result : goal.overflow_cast-result
overflow_cast-result c = omega (arith, c.type_inv.table c.args.place)
