-- `double_in`: by the first byte, then by the bits.
use Rattle.boxes.proofs.DoubleLaws.{other_first, double_eight, double_read}
use Rattle.values.proofs.ValueLaws.{whole_some}
use Rattle.boxes.proofs.double_in.Goals as goal

pub bounds-s-0 : goal.bounds-s-0
bounds-s-0 c = whole_some _ c.requires

pub returns-then-s-ne28 : goal.returns-then-s-ne28
returns-then-s-ne28 c = other_first _ c.if-s-ne28.true

pub read8-requires : goal.read8-requires
read8-requires c = double_eight _ c.requires c.if-s-ne28.false

pub returns : goal.returns
returns c = double_read _ c.if-s-ne28.false c.read8.ensures _ c.double.ensures
