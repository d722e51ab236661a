-- `judge`: what is read of lawful metadata, and what a contract sees of that.
use mathlib.Core.Path.{◌∙◌, sym}
use native.Mathlib.Omega.{arith}
use borrow.Author.Rules.{rules}
use Rattle.dictionary.proofs.DictionaryLaws.{opened}
use Rattle.dictionary.proofs.LentLaws.{opens_to, opens_not}
use Rattle.dictionary.proofs.lent.judge.Goals as goal

pub returns-in_err-names : goal.returns-in_err-names
returns-in_err-names c = let none = opens_not _ (sym c.judged.ensures ∙ c.in_err-names.was) in search (rules, none)

pub invariant_of-result : goal.invariant_of-result
invariant_of-result c = (opened (sym c.judged.ensures ∙ c.in_ok-names.was), λ i. omega (arith, c.type_inv.metadata i))

pub returns : goal.returns
returns c = sym (opens_to _ _ (opened (sym c.judged.ensures ∙ c.in_ok-names.was)))
