-- `left_broken`: by the node's tag.
use native.Mathlib.Omega.{arith}
use Rattle.places.proofs.LeftLaws.{fields_tag, list_tag, no_tag}
use Rattle.places.proofs.leftovers.left_broken.Goals as goal

pub returns-in-48 : goal.returns-in-48
returns-in-48 c = search fields_tag

pub returns-in-32 : goal.returns-in-32
returns-in-32 c = search list_tag

pub returns-in_default : goal.returns-in_default
returns-in_default c = no_tag _ _ (λ e. omega arith) (λ e. omega arith)
