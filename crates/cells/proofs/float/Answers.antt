-- `float`: a NaN's pattern lies above infinity's.
use lib.Ieee.{binary32}
use Rattle.cells.proofs.FloatLaws.{nan_above, nan_not}
use Rattle.cells.proofs.float.Goals as goal

pub returns-then-bits-gt2139095040 : goal.returns-then-bits-gt2139095040
returns-then-bits-gt2139095040 c = rw (nan_above binary32 c.args.bits c.if-bits-gt2139095040.true)

pub float_from_bits-result : goal.float_from_bits-result
float_from_bits-result c = rw (nan_not binary32 c.args.bits c.if-bits-gt2139095040.false) tt

pub returns : goal.returns
returns c = rw (nan_not binary32 c.args.bits c.if-bits-gt2139095040.false)
