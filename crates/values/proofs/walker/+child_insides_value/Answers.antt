use mathlib.Core.Path.{ap}
use mathlib.Core.Bool.{not}
use Prim.Native.Nat.{◌-◌}
use native.Mathlib.Omega.{arith}
use borrow.Author.Rules.{rules}
use Rattle.values.proofs.InsideLaws.{child_plain, child_lost, child_judged, insides_start, next_there, insides_bad, insides_next, insides_done}
use Rattle.containers.proofs.OwnLaws.{child_starts, child_end, child_in, child_asks}
use Rattle.values.proofs.ValueLaws.{value_none, whole_some, fixed_asks, value_fixed, value_prefixed, value_short, value_nothing, array_container, array_there, value_array_not, value_array, object_container, object_id, object_there, value_object_not, value_object, object_said, array_said, children_said, insides_said}
use Rattle.values.proofs.walker.+child_insides_value.Goals as goal

pub child-bounds-area-start : goal.child-bounds-area-start
child-bounds-area-start t c = search (rules, child_starts)

pub child-returns-then-plain : goal.child-returns-then-plain
child-returns-then-plain t c = search (rules, child_plain)

pub child-returns-in_default : goal.child-returns-in_default
child-returns-in_default t c = search (rules, child_lost)

pub child-overflow_add-end : goal.child-overflow_add-end
child-overflow_add-end t c = search (rules, child_end)

pub child-slice_bounds-value-end : goal.child-slice_bounds-value-end
child-slice_bounds-value-end t c = search (rules, child_in)

pub child-value-requires : goal.child-value-requires
child-value-requires t c = let asks = child_asks _ _ _ c.child_extent.ensures _ c.in-Some.is c.requires.1 in
    (omega (arith, c.decreases), (asks.0, asks.1))

pub child-returns : goal.child-returns
child-returns t c = search (rules, child_judged)

pub insides-loop-i-init : goal.insides-loop-i-init
insides-loop-i-init t c = search (rules, insides_start)

pub insides-child-requires : goal.insides-child-requires
insides-child-requires t c =
    (omega (arith, c.decreases), (next_there c.loop-i.invariant (omega arith) _ c.get-start.ensures.0, c.args.container.now.small))

pub insides-returns-then-not-child : goal.insides-returns-then-not-child
insides-returns-then-not-child t c = insides_bad c.loop-i.invariant (omega arith) _ c.get-start.ensures.0 _ c.child.ensures (ap not c.if-not-child.true)

pub insides-loop-i-preserved : goal.insides-loop-i-preserved
insides-loop-i-preserved t c = insides_next c.loop-i.invariant (omega arith) _ c.get-start.ensures.0 _ c.child.ensures (ap not c.if-not-child.false)

pub insides-returns : goal.insides-returns
insides-returns t c = search (rules, insides_done)

pub value-returns-then-levels-eq0 : goal.value-returns-then-levels-eq0
value-returns-then-levels-eq0 t c = search (rules, value_none)

pub value-bounds-s-0 : goal.value-bounds-s-0
value-bounds-s-0 t c = search (rules, whole_some)

pub value-primitive-requires : goal.value-primitive-requires
value-primitive-requires t c = fixed_asks _ c.requires.0 _ c.of.ensures _ _ c.in-Fixed.is

pub value-returns-in-Fixed : goal.value-returns-in-Fixed
value-returns-in-Fixed t c = search (rules, value_fixed)

pub value-returns-in-Prefixed : goal.value-returns-in-Prefixed
value-returns-in-Prefixed t c = search (rules, value_prefixed)

pub value-returns-in-Short : goal.value-returns-in-Short
value-returns-in-Short t c = search (rules, value_short)

pub value-returns-in-Nothing : goal.value-returns-in-Nothing
value-returns-in-Nothing t c = search (rules, value_nothing)

pub value-object-object-requires : goal.value-object-object-requires
value-object-object-requires t c = (object_container _ c.requires.0 _ c.of.ensures _ _ _ c.in-ObjectHead.is c.requires.1, object_id _ c.requires.0 _ c.of.ensures _ _ _ c.in-ObjectHead.is)

pub value-returns-then-not-object_lies : goal.value-returns-then-not-object_lies
value-returns-then-not-object_lies t c =
    let object = c.object-object.ensures in
    value_object_not _ _ _ c.if-levels-eq0.false c.requires.0 _ c.of.ensures _ _ _ c.in-ObjectHead.is c.requires.1 _
    (object_said _ c.args.s.now c.in-ObjectHead.count c.in-ObjectHead.id c.in-ObjectHead.offset object.ids object.starts object.area c.object_lies.ensures) (ap not c.if-not-object_lies.true)

pub value-insides-requires : goal.value-insides-requires
value-insides-requires t c =
    let object = c.object-object.ensures in
    let there = object_there c.args.dictionary.now.names _ _ _ _ _ (object_said _ c.args.s.now c.in-ObjectHead.count c.in-ObjectHead.id c.in-ObjectHead.offset object.ids object.starts object.area c.object_lies.ensures) (ap not c.if-not-object_lies.false) in
    (omega (arith, c.decreases), children_said c.args.s.now c.in-ObjectHead.count c.in-ObjectHead.id c.in-ObjectHead.offset object.starts object.area there)

pub value-array-array-requires : goal.value-array-array-requires
value-array-array-requires t c = array_container _ c.requires.0 _ c.of.ensures _ _ c.in-ArrayHead.is c.requires.1

pub value-returns-then-not-array_lies : goal.value-returns-then-not-array_lies
value-returns-then-not-array_lies t c =
    let array = c.array-array.ensures in
    value_array_not _ _ _ c.if-levels-eq0.false c.requires.0 _ c.of.ensures _ _ c.in-ArrayHead.is _ (array_said c.args.s.now c.in-ArrayHead.count 0 c.in-ArrayHead.offset array.starts array.area c.array_lies.ensures) (ap not c.if-not-array_lies.true)

pub value-insides-requires-in-ArrayHead : goal.value-insides-requires-in-ArrayHead
value-insides-requires-in-ArrayHead t c =
    let array = c.array-array.ensures in
    let there = array_there _ _ _ _ (array_said c.args.s.now c.in-ArrayHead.count 0 c.in-ArrayHead.offset array.starts array.area c.array_lies.ensures) (ap not c.if-not-array_lies.false) in
    (omega (arith, c.decreases), children_said c.args.s.now c.in-ArrayHead.count 0 c.in-ArrayHead.offset array.starts array.area there)

pub value-returns-else-not-object_lies : goal.value-returns-else-not-object_lies
value-returns-else-not-object_lies t c =
    let object = c.object-object.ensures in
    value_object _ _ _ c.if-levels-eq0.false c.requires.0 _ c.of.ensures _ _ _ c.in-ObjectHead.is c.requires.1 _
    (object_said _ c.args.s.now c.in-ObjectHead.count c.in-ObjectHead.id c.in-ObjectHead.offset object.ids object.starts object.area c.object_lies.ensures) (ap not c.if-not-object_lies.false) _
    (insides_said c.args.s.now c.in-ObjectHead.count c.in-ObjectHead.id c.in-ObjectHead.offset object.starts object.area _ c.insides.ensures)

pub value-returns-else-not-array_lies : goal.value-returns-else-not-array_lies
value-returns-else-not-array_lies t c =
    let array = c.array-array.ensures in
    value_array _ _ _ c.if-levels-eq0.false c.requires.0 _ c.of.ensures _ _ c.in-ArrayHead.is _
    (array_said c.args.s.now c.in-ArrayHead.count 0 c.in-ArrayHead.offset array.starts array.area c.array_lies.ensures) (ap not c.if-not-array_lies.false) _ (insides_said c.args.s.now c.in-ArrayHead.count 0 c.in-ArrayHead.offset array.starts array.area _ c.insides-in-ArrayHead.ensures)
