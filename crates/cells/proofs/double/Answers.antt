-- `double`: a NaN's pattern lies above infinity's.
use lib.Ieee.{binary64}
use Rattle.cells.proofs.FloatLaws.{nan_above, nan_not}
use Rattle.cells.proofs.double.Goals as goal

pub returns-then-bits-gt9218868437227405312 : goal.returns-then-bits-gt9218868437227405312
returns-then-bits-gt9218868437227405312 c = rw (nan_above binary64 c.args.bits c.if-bits-gt9218868437227405312.true)

pub float_from_bits-result : goal.float_from_bits-result
float_from_bits-result c = rw (nan_not binary64 c.args.bits c.if-bits-gt9218868437227405312.false) tt

pub returns : goal.returns
returns c = rw (nan_not binary64 c.args.bits c.if-bits-gt9218868437227405312.false)
