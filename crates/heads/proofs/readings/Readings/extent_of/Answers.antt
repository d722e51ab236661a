-- `extent_of`: by the reading of the first byte.
use mathlib.Core.Path.{sym, ◌∙◌}
use native.Mathlib.Omega.{arith}
use borrow.Author.Rules.{rules}
use Rattle.heads.proofs.ExtentLaws.{empty_told, fixed_told, short_told, nothing_told, length_missing, length_told, object_told, array_told}
use Rattle.heads.proofs.ReadingLaws.{fixed_sizes, short_sizes, object_sizes, array_sizes}
use Rattle.heads.proofs.readings.Readings.extent_of.Goals as goal

pub returns-then-s-eq0 : goal.returns-then-s-eq0
returns-then-s-eq0 c = search (rules, empty_told)

pub overflow_add-result : goal.overflow_add-result
overflow_add-result c = let told = fixed_sizes _ (sym c.of.ensures ∙ c.in-Fixed.is) in
    record { fits = omega arith }

pub overflow_add-result-in-Short : goal.overflow_add-result-in-Short
overflow_add-result-in-Short c = let told = short_sizes _ (sym c.of.ensures ∙ c.in-Short.is) in
    record { fits = omega (arith, c.type_inv.s 0) }

pub container_extent-requires : goal.container_extent-requires
container_extent-requires c = let told = object_sizes _ (sym c.of.ensures ∙ c.in-ObjectHead.is) in
    (told.0.0, told.0.1, told.1.1, told.2.0, told.2.1)

pub container_extent-requires-in-ArrayHead : goal.container_extent-requires-in-ArrayHead
container_extent-requires-in-ArrayHead c = let told = array_sizes _ (sym c.of.ensures ∙ c.in-ArrayHead.is) in
    (told.0.0, told.0.1, omega arith, told.1.0, told.1.1)

pub returns-in-Fixed : goal.returns-in-Fixed
returns-in-Fixed c = search (rules, fixed_told)

pub returns-then-s-lt5 : goal.returns-then-s-lt5
returns-then-s-lt5 c = search (rules, length_missing)

pub returns-else-s-lt5 : goal.returns-else-s-lt5
returns-else-s-lt5 c = search (rules, length_told)

pub returns-in-Short : goal.returns-in-Short
returns-in-Short c = search (rules, short_told)

pub returns-in-ObjectHead : goal.returns-in-ObjectHead
returns-in-ObjectHead c = c.container_extent.ensures ∙ search (rules, object_told)

pub returns-in-ArrayHead : goal.returns-in-ArrayHead
returns-in-ArrayHead c = c.container_extent-in-ArrayHead.ensures ∙ search (rules, array_told)

pub returns-in-Nothing : goal.returns-in-Nothing
returns-in-Nothing c = search (rules, nothing_told)
