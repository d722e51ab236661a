-- `only`: by the two tags.
use native.Mathlib.Omega.{arith}
use Rattle.places.proofs.PartLaws.{only_leftover, only_typed, only_neither}
use Rattle.places.proofs.parts.only.Goals as goal

pub returns-in-65 : goal.returns-in-65
returns-in-65 c = search only_leftover

pub returns-in-66 : goal.returns-in-66
returns-in-66 c = search only_typed

pub returns-in_default : goal.returns-in_default
returns-in_default c = only_neither c.args.tag (λ e. omega arith) (λ e. omega arith)
