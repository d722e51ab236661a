use mathlib.Core.Path.{ap}
use mathlib.Core.Bool.{not}
use native.Mathlib.Omega.{arith}
use borrow.Author.Rules.{rules}
use Rattle.schemas.proofs.NodeLaws.{node_none, node_short, node_unfilled, node_leftover, node_column, node_list, node_fields, node_other}
use Rattle.schemas.proofs.ObjectLaws.{fields_start, fields_cut, field_passed, fields_fall, fields_bad, fields_next, fields_done}
use Rattle.schemas.proofs.judge.+fields_node.Goals as goal

pub fields-loop-place-init : goal.fields-loop-place-init
fields-loop-place-init t c = search (rules, fields_start)

pub fields-returns-then-not-field_within : goal.fields-returns-then-not-field_within
fields-returns-then-not-field_within t c = search (rules, fields_cut)

pub fields-follows-requires : goal.fields-follows-requires
fields-follows-requires t c = let here = field_passed c.loop-place.invariant c.requires.1 c.loop-place-test.true _ c.field_within.ensures (ap not c.if-not-field_within.false) in search rules

pub fields-returns-then-not-follows : goal.fields-returns-then-not-follows
fields-returns-then-not-follows t c = search (rules, fields_fall)

pub fields-frame_end-next-requires : goal.fields-frame_end-next-requires
fields-frame_end-next-requires t c = let here = field_passed c.loop-place.invariant c.requires.1 c.loop-place-test.true _ c.field_within.ensures (ap not c.if-not-field_within.false) in search rules

pub fields-field_node-requires : goal.fields-field_node-requires
fields-field_node-requires t c = let here = field_passed c.loop-place.invariant c.requires.1 c.loop-place-test.true _ c.field_within.ensures (ap not c.if-not-field_within.false) in search rules

pub fields-node-requires : goal.fields-node-requires
fields-node-requires t c = let here = field_passed c.loop-place.invariant c.requires.1 c.loop-place-test.true _ c.field_within.ensures (ap not c.if-not-field_within.false) in
    (omega (arith, c.decreases), search rules)

pub fields-returns-then-not-node : goal.fields-returns-then-not-node
fields-returns-then-not-node t c = search (rules, fields_bad)

pub fields-loop-place-preserved : goal.fields-loop-place-preserved
fields-loop-place-preserved t c = fields_next c.loop-place.invariant c.requires.1 c.loop-place-test.true _ c.field_within.ensures (ap not c.if-not-field_within.false) _ c.follows.ensures (ap not c.if-not-follows.false) _ _ c.field_node.ensures c.frame_end-next.ensures _ c.node.ensures (ap not c.if-not-node.false)

pub fields-returns : goal.fields-returns
fields-returns t c = search (rules, fields_done)

pub node-returns-then-levels-eq0 : goal.node-returns-then-levels-eq0
node-returns-then-levels-eq0 t c = search (rules, node_none)

pub node-returns-then-to-from-lt3 : goal.node-returns-then-to-from-lt3
node-returns-then-to-from-lt3 t c = search (rules, node_short)

pub node-returns-then-to-body : goal.node-returns-then-to-body
node-returns-then-to-body t c = search (rules, node_unfilled)

pub node-returns-in-0 : goal.node-returns-in-0
node-returns-in-0 t c = search (rules, node_leftover)

pub node-returns-in-16 : goal.node-returns-in-16
node-returns-in-16 t c = search (rules, node_column)

pub node-returns-in-32 : goal.node-returns-in-32
node-returns-in-32 t c = search (rules, node_list)

pub node-returns-in-48 : goal.node-returns-in-48
node-returns-in-48 t c = search (rules, node_fields)

pub node-returns-in_default : goal.node-returns-in_default
node-returns-in_default t c =
    node_other c.args.levels c.args.s.now c.args.from c.args.to c.requires.0 c.requires.1 c.if-to-from-lt3.false c.read.result c.read.ensures.0 c.if-to-body.false
    c.if-levels-eq0.false (λ e. omega arith) (λ e. omega arith) (λ e. omega arith) (λ e. omega arith)
