-- `prefixed`: copied, or the text copied and a first byte in front.
use Prim.Native.Nat.{◌≤◌}
use native.Mathlib.Omega.{arith}
use borrow.Author.Rules.{rules}
use Rattle.writing.proofs.ScalarLaws.{kept_asks, short_asks, short_first, kept_ends, short_ends}
use Rattle.writing.proofs.scalars.prefixed.Goals as goal

pub copied-requires : goal.copied-requires
copied-requires c = (kept_asks c.args.code c.args.s.now c.requires.1 c.then-code-ne16.either, c.requires.2)

pub returns-then-code-ne16 : goal.returns-then-code-ne16
returns-then-code-ne16 c = kept_ends _ _ c.then-code-ne16.either c.copied.ensures

pub copied-start-requires : goal.copied-start-requires
copied-start-requires c = search (rules, short_asks)

pub overflow_sub-first : goal.overflow_sub-first
overflow_sub-first c = search (rules, short_first)

pub write-requires : goal.write-requires
write-requires c = let first : 1 ≤ c.copied-start.result = search (rules, short_first) in
    (omega arith, search rules, search rules)

pub returns : goal.returns
returns c = search (rules, short_ends, short_first)
