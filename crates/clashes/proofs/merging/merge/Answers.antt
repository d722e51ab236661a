use native.Mathlib.Omega.{arith}
use borrow.Author.Rules.{rules}
use Rattle.clashes.proofs.MergeLaws.{merge_start, ids_ended, fields_ended, name_there, frame_there, frame_falls, id_below, merge_less, merge_greater, merge_equal}
use Rattle.clashes.proofs.merging.merge.Goals as goal

pub loop-i-init : goal.loop-i-init
loop-i-init c = merge_start _ _ _ _ _ c.requires.ids_lawful.1

pub stands-requires : goal.stands-requires
stands-requires c = (
  id_below c.loop-i.invariant c.if-field-to.true (omega arith) _ c.input_id.ensures.0 c.requires.ids_lawful.0,
  name_there c.loop-i.invariant c.if-field-to.true c.requires.some_fields,
)

-- The name of the id comes first, ..
pub loop-i-preserved-in-Less : goal.loop-i-preserved-in-Less
loop-i-preserved-in-Less c =
    merge_less c.loop-i.invariant c.if-field-to.true (omega arith) _ c.input_id.ensures.0 _ c.stands.ensures c.in-Less.is

-- .. both are the same, ..
pub returns-in-Equal : goal.returns-in-Equal
returns-in-Equal c = merge_equal c.loop-i.invariant c.if-field-to.true (omega arith) _ c.input_id.ensures.0 _ c.stands.ensures c.in-Equal.is

pub frame_end-field-requires : goal.frame_end-field-requires
frame_end-field-requires c = frame_there c.loop-i.invariant c.if-field-to.true c.requires.some_fields

pub loop-i-smaller : goal.loop-i-smaller
loop-i-smaller c = search (rules, frame_falls)

-- .. or the name of the field comes first.
pub loop-i-preserved : goal.loop-i-preserved
loop-i-preserved c =
    merge_greater c.loop-i.invariant c.if-field-to.true (omega arith) _ c.input_id.ensures.0 _ c.stands.ensures c.in-Greater.is _ c.frame_end-field.ensures

-- The fields have ended, or the ids.
pub returns-else-field-to : goal.returns-else-field-to
returns-else-field-to c = fields_ended c.loop-i.invariant c.if-field-to.false

pub returns-after-loop-i : goal.returns-after-loop-i
returns-after-loop-i c = ids_ended c.loop-i.invariant (omega arith)
