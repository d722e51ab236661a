-- `entry`: an entry fits.
use native.Mathlib.Omega.{arith}
use borrow.Author.Rules.{rules}
use Rattle.ranking.proofs.tables.entry.Goals as goal

pub overflow_cast-result : goal.overflow_cast-result
overflow_cast-result c = omega (arith, c.type_inv.table c.args.place)

pub returns : goal.returns
returns c = search (rules, c.type_inv.table c.args.place)
