-- `plainly_lawful`: the two answers `true` by their laws; to an answer `false` nothing is asked.
use mathlib.Core.Path.{◌∙◌}
use Rattle.rows.proofs.QuickLaws.{empty_lawful, code_there, code_good, cell_lawful}
use Rattle.rows.proofs.quick.plainly_lawful.Goals as goal

-- empty
pub returns-then-end-eq0 : goal.returns-then-end-eq0
returns-then-end-eq0 c = λ e. empty_lawful _ _ _ c.if-end-eq0.true

-- a column's code is there, and good
pub bounds-schema-node-2 : goal.bounds-schema-node-2
bounds-schema-node-2 c = code_there c.requires c.if-schema-node-ne16.false

pub good-requires : goal.good-requires
good-requires c = code_good c.requires c.if-schema-node-ne16.false

-- one cell, as good as its bytes are
pub returns : goal.returns
returns c =
    cell_lawful _ _ _ c.if-body-ne66.false c.if-end-lt3.false (c.if-end-read.false ∙ c.read.ensures.0)
    c.if-schema-node-ne16.false _ c.good.ensures
