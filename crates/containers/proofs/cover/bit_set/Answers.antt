-- `bit_set`: the bit of the byte.
use mathlib.Core.Path.{refl}
use Rattle.containers.specs.Marks.{bit_of}
use Rattle.containers.proofs.cover.bit_set.Goals as goal

pub returns : goal.returns
unfolding bit_of
returns c = refl
