use native.Mathlib.Omega.{arith}
use borrow.Author.Rules.{rules}
use Rattle.schemas.proofs.WalkLaws.{next_forward}
use Rattle.fields.proofs.FillLaws.{scan_start, field_first, field_entry, scan_field, node_first, scan_node, scan_done}
use Rattle.fields.proofs.fill.Goals as goal

pub loop-place-init : goal.loop-place-init
loop-place-init c = search (rules, scan_start)

-- A field is entered, ..
pub note-requires : goal.note-requires
note-requires c = let pre = c.requires in
    let inside = c.loop-place-test.true in
    let tagged = c.if-schema-place-eq49.true in
    ((field_first c.loop-place.invariant inside tagged).named_in, field_entry c.loop-place.invariant inside tagged pre.1, pre.2, pre.3)

pub field_node-place-requires : goal.field_node-place-requires
field_node-place-requires c = (field_first c.loop-place.invariant c.loop-place-test.true c.if-schema-place-eq49.true).named_in

pub loop-place-preserved-then-schema-place-eq49 : goal.loop-place-preserved-then-schema-place-eq49
loop-place-preserved-then-schema-place-eq49 c = let pre = c.requires in
    rw c.field_node-place.ensures
    (scan_field c.loop-place.invariant c.loop-place-test.true c.if-schema-place-eq49.true pre.1 c.note.ensures)

-- .. another frame is passed over.
pub next_frame-place-requires : goal.next_frame-place-requires
next_frame-place-requires c = (node_first c.loop-place.invariant c.loop-place-test.true c.if-schema-place-eq49.false).room

pub loop-place-smaller : goal.loop-place-smaller
loop-place-smaller c = omega (arith, c.next_frame-place.ensures, next_forward c.args.schema.now c.loop-place.place)

pub loop-place-preserved : goal.loop-place-preserved
loop-place-preserved c = rw c.next_frame-place.ensures (scan_node c.loop-place.invariant c.loop-place-test.true c.if-schema-place-eq49.false)

pub shape_of-table : goal.shape_of-table
shape_of-table c = c.loop-place.invariant.size

pub returns : goal.returns
returns c = search (rules, scan_done)
