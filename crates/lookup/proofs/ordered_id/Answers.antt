-- `ordered_id`: the place itself where the flag is set, else the table's entry.
use mathlib.Core.Path.{sym, ◌∙◌}
use native.Mathlib.Omega.{arith}
use Rattle.lookup.proofs.OrderedLaws.{at_flag, at_table}
use Rattle.lookup.proofs.ordered_id.Goals as goal

pub id_at-requires : goal.id_at-requires
id_at-requires c = let room = c.requires.1 (sym c.is_sorted.ensures.flag ∙ c.if-is_sorted.false) in omega arith

pub returns-then-is_sorted : goal.returns-then-is_sorted
returns-then-is_sorted c = at_flag _ _ _ c.requires.0 (sym c.is_sorted.ensures.flag ∙ c.if-is_sorted.true)

pub returns-else-is_sorted : goal.returns-else-is_sorted
returns-else-is_sorted c = at_table _ _ _ c.requires.0 (sym c.is_sorted.ensures.flag ∙ c.if-is_sorted.false) c.id_at.ensures.0
