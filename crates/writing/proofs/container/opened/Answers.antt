-- `opened`: the count, then the first byte in front of it.
use Prim.Native.Nat.{◌≤◌}
use native.Mathlib.Omega.{arith}
use borrow.Author.Rules.{rules}
use Rattle.writing.proofs.OpeningLaws.{few_fits, many_fits, opened_few, opened_many}
use Rattle.writing.proofs.container.opened.Goals as goal

pub overflow_sub-start : goal.overflow_sub-start
overflow_sub-start c = few_fits _ c.requires.1 (omega arith)

pub write-requires : goal.write-requires
write-requires c = let least : 2 ≤ c.args.end = few_fits _ c.requires.1 (omega arith) in
    (omega arith, search rules, search rules)

pub returns-then-count-le255 : goal.returns-then-count-le255
returns-then-count-le255 c = let pre = c.requires in
    opened_few _ _ _ pre.0 pre.1 pre.2 (omega arith) c.write.ensures c.write-then-count-le255.ensures

pub overflow_sub-start-2 : goal.overflow_sub-start-2
overflow_sub-start-2 c = search (rules, many_fits)

pub write-requires-2 : goal.write-requires-2
write-requires-2 c = let least : 5 ≤ c.args.end = search (rules, many_fits) in
    (omega arith, search rules, search rules)

pub returns : goal.returns
returns c = search (rules, opened_many)
