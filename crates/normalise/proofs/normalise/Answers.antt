-- `normalise`: a value that is its own normal form is handed out with no name chosen; any other goes by way of tables.
use native.Mathlib.Omega.{arith}
use Rattle.normalise.proofs.StandingLaws.{no_choice, stands_answers}
use Rattle.normalise.proofs.normalise.Goals as goal

pub hand_out-requires : goal.hand_out-requires
hand_out-requires c = no_choice c.requires

pub returns-then-stands : goal.returns-then-stands
returns-then-stands c = stands_answers c.requires (λ i. omega (arith, c.type_inv.value i)) _ c.stands.ensures c.if-stands.true c.hand_out.ensures
