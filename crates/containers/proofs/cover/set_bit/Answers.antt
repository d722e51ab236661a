-- `set_bit`: one byte with one bit more.
use Rattle.containers.proofs.BitLaws.{wrote_bit}
use Rattle.containers.proofs.cover.set_bit.Goals as goal

pub returns : goal.returns
returns c = wrote_bit _ _
