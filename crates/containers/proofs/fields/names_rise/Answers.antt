use native.Mathlib.Omega.{arith}
use borrow.Author.Rules.{rules}
use Rattle.containers.proofs.FieldLaws.{fields_none, fields_first_past, fields_first, fields_done, fields_past, fields_next, fields_fall}
use Rattle.containers.proofs.fields.names_rise.Goals as goal

pub returns-then-len-eq0 : goal.returns-then-len-eq0
returns-then-len-eq0 c = search (rules, fields_none)

pub returns-then-names-last : goal.returns-then-names-last
returns-then-names-last c = search (rules, fields_first_past)

pub loop-i-init : goal.loop-i-init
loop-i-init c = search (rules, fields_first)

pub returns-then-names-id : goal.returns-then-names-id
returns-then-names-id c = fields_past c.loop-i.invariant (omega arith) _ c.input_id-id.ensures.0 (omega arith)

pub returns-then-not-comes_before : goal.returns-then-not-comes_before
returns-then-not-comes_before c = search (rules, fields_fall)

pub loop-i-preserved : goal.loop-i-preserved
loop-i-preserved c = search (rules, fields_next)

pub returns : goal.returns
returns c = search (rules, fields_done)
