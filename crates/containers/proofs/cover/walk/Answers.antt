use borrow.Author.Rules.{rules}
use Rattle.containers.proofs.WalkLaws.{seen_start, seen_unmarked, seen_lost, seen_fits, seen_falls, seen_next, seen_ended}
use Rattle.containers.proofs.cover.walk.Goals as goal

pub loop-place-init : goal.loop-place-init
loop-place-init c = seen_start _ _

pub returns-then-not-bit_set : goal.returns-then-not-bit_set
returns-then-not-bit_set c = search (rules, seen_unmarked)

pub returns-in_default : goal.returns-in_default
returns-in_default c = search (rules, seen_lost)

pub overflow_add-place : goal.overflow_add-place
overflow_add-place c = search (rules, seen_fits)

pub loop-place-smaller : goal.loop-place-smaller
loop-place-smaller c = search (rules, seen_falls)

pub loop-place-preserved : goal.loop-place-preserved
loop-place-preserved c = search (rules, seen_next)

pub returns : goal.returns
returns c = search (rules, seen_ended)
