-- `payload_size`: the table is that of the definition.
use mathlib.Core.Path.{refl}
use Rattle.paper.specs.FirstBytes.{length_prefixed, payload_sizes}
use Rattle.heads.proofs.payload_size.Goals as goal

pub returns : goal.returns
unfolding payload_sizes length_prefixed
returns c = refl
