use borrow.Author.Rules.{rules}
use Rattle.fields.proofs.NamesLaws.{lists_start, lists_inside, lists_next, lists_done}
use Rattle.fields.proofs.names_fields.Goals as goal

pub loop-place-init : goal.loop-place-init
loop-place-init c = search (rules, lists_start)

pub bounds-schema-place : goal.bounds-schema-place
bounds-schema-place c = search (rules, lists_inside)

pub overflow_add-place : goal.overflow_add-place
overflow_add-place c = search (rules, lists_inside)

pub loop-place-smaller : goal.loop-place-smaller
loop-place-smaller c = search (rules, lists_inside)

pub loop-place-preserved : goal.loop-place-preserved
loop-place-preserved c = search (rules, lists_next)

pub bounds-schema-place-2 : goal.bounds-schema-place-2
bounds-schema-place-2 c = search (rules, lists_inside)

pub returns : goal.returns
returns c = search (rules, lists_done)
