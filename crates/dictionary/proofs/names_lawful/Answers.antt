-- `names_lawful`: the tests in the order of the rules.
use mathlib.Core.Bool.{not}
use mathlib.Core.Path.{ap, sym, ◌∙◌}
use borrow.Author.Tests.{not-false}
use Rattle.dictionary.proofs.JudgeLaws.{offsets_bad, any_order, by_order}
use Rattle.dictionary.proofs.names_lawful.Goals as goal

pub returns-then-not-offsets_good : goal.returns-then-not-offsets_good
returns-then-not-offsets_good c = offsets_bad _ _ _ _ c.offsets_good.ensures (ap not c.if-not-offsets_good.true)

pub returns-then-not-sorted : goal.returns-then-not-sorted
returns-then-not-sorted c = any_order _ _ _ _ c.offsets_good.ensures (ap not c.if-not-offsets_good.false) (ap not c.if-not-sorted.true)

pub names_rise-requires : goal.names_rise-requires
names_rise-requires c = sym c.offsets_good.ensures ∙ not-false _ (ap not c.if-not-offsets_good.false)

pub returns : goal.returns
returns c = by_order _ _ _ _ c.offsets_good.ensures (ap not c.if-not-offsets_good.false) (ap not c.if-not-sorted.false) _ c.names_rise.ensures
