-- `tanvelis_cell`: the word of what `cell` answers.
use mathlib.Core.Path.{ap, ◌∙◌}
use Rattle.words.specs.Boundary.{cell_word}
use Rattle.register_c.proofs.tanvelis_cell.Goals as goal

pub returns : goal.returns
returns c = c.cell_word.ensures ∙ ap cell_word c.cell.ensures
