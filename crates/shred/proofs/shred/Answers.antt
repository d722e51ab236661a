-- `shred`: a scalar that is its own normal form by itself, another document by its lengths.
use mathlib.Core.Path.{sym, ◌∙◌}
use native.Mathlib.Omega.{arith}
use borrow.Author.Rules.{rules}
use Rattle.shred.proofs.AloneLaws.{alone_row, alone_known, value_begins}
use Rattle.shred.proofs.shred.Goals as goal

pub stands_alone-requires : goal.stands_alone-requires
stands_alone-requires c = search (rules, value_begins)

pub shred_alone-requires : goal.shred_alone-requires
shred_alone-requires c = (alone_known _ c.requires.0 (λ i. omega (arith, c.type_inv.value i)) c.requires.2 (sym c.stands_alone.ensures ∙ c.if-stands_alone.true) c.requires.1, c.requires.0.value_short)

pub returns-then-stands_alone : goal.returns-then-stands_alone
returns-then-stands_alone c = λ node d node_is means. alone_row _ c.requires.0 (λ i. omega (arith, c.type_inv.value i)) c.requires.2 (sym c.stands_alone.ensures ∙ c.if-stands_alone.true) node d node_is means c.shred_alone.ensures
