-- `name_of`: the name of the id that is looked up.
use mathlib.Core.List.{[]}
use mathlib.Core.Path.{ap, ◌∙◌}
use Prim.Native.Nat.{ℕ}
use lib.ListN.{get_or}
use Rattle.naming.proofs.name_of.Goals as goal

pub returns : goal.returns
returns c = c.name.ensures ∙ ap (λ (id : ℕ). get_or c.args.dictionary.now.names id []) c.input_of.ensures
