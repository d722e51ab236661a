use mathlib.Core.Path.{refl}
use native.Mathlib.Omega.{arith}
use Rattle.lookup.proofs.OrderedLaws.{order_room, look_start, look_none, look_few, look_inside, look_below, look_found, look_less, look_greater}
use Rattle.lookup.proofs.look_up.Goals as goal

pub loop-low-init : goal.loop-low-init
loop-low-init c = look_start c.len-high.ensures.lent c.requires _ _ c.len-high.ensures.count

-- The middle is within the names, and so fits.
pub overflow_add-middle : goal.overflow_add-middle
overflow_add-middle c = let few = look_few c.len-high.ensures.lent c.requires _ c.loop-low.invariant in
    omega arith

pub ordered_id-id-requires : goal.ordered_id-id-requires
ordered_id-id-requires c = (look_inside c.len-high.ensures.lent c.requires _ c.loop-low.invariant _ (omega arith), order_room c.requires)

pub name-requires : goal.name-requires
name-requires c = look_below c.len-high.ensures.lent c.requires _ c.loop-low.invariant _ (omega arith) _ c.ordered_id-id.ensures

pub overflow_add-low : goal.overflow_add-low
overflow_add-low c = let few = look_few c.len-high.ensures.lent c.requires _ c.loop-low.invariant in
    omega arith

pub returns : goal.returns
returns c = look_none c.len-high.ensures.lent c.requires _ c.loop-low.invariant (omega arith)

-- The name at the middle comes before the name, ..
pub loop-low-preserved-in-Less : goal.loop-low-preserved-in-Less
loop-low-preserved-in-Less c = let stands = rw c.name.ensures at c.in-Less.ensures in
    look_less c.len-high.ensures.lent c.requires _ c.loop-low.invariant _ (omega arith) _ c.ordered_id-id.ensures _ stands refl (omega arith)

-- .. is it, ..
pub returns-in-Equal : goal.returns-in-Equal
returns-in-Equal c = let stands = rw c.name.ensures at c.in-Equal.ensures in
    look_found c.len-high.ensures.lent c.requires _ c.loop-low.invariant _ (omega arith) _ c.ordered_id-id.ensures _ stands refl

-- .. or comes after it.
pub loop-low-preserved : goal.loop-low-preserved
loop-low-preserved c = let stands = rw c.name.ensures at c.in-Greater.ensures in
    look_greater c.len-high.ensures.lent c.requires _ c.loop-low.invariant _ (omega arith) _ c.ordered_id-id.ensures _ stands refl (omega arith)
