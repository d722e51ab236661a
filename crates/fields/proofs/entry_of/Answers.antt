-- `entry_of`: by the answer's case.
use native.Mathlib.Omega.{arith}
use borrow.Author.Rules.{rules}
use Rattle.fields.proofs.EntryLaws.{entry_at, entry_nowhere}
use Rattle.fields.proofs.entry_of.Goals as goal

pub overflow_add-result : goal.overflow_add-result
overflow_add-result c = let e = entry_at c.in-Some.is in omega arith

pub returns-in-Some : goal.returns-in-Some
returns-in-Some c = entry_at c.in-Some.is

pub returns-in-None : goal.returns-in-None
returns-in-None c = search (rules, entry_nowhere)
