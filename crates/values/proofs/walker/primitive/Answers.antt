-- `primitive`: only a decimal can be unlawful, by its scale byte.
use borrow.Author.Rules.{rules}
use Rattle.values.proofs.PrimitiveLaws.{primitive_low, primitive_high, primitive_scale, scale_there}
use Rattle.values.proofs.walker.primitive.Goals as goal

pub bounds-s-1 : goal.bounds-s-1
bounds-s-1 c = search (rules, scale_there)

pub returns-in-8-to-10 : goal.returns-in-8-to-10
returns-in-8-to-10 c = search (rules, primitive_scale)

pub returns-in_default : goal.returns-in_default
returns-in_default c = search (rules, primitive_low, primitive_high)

pub returns-in_default-2 : goal.returns-in_default-2
returns-in_default-2 c = search (rules, primitive_low, primitive_high)
