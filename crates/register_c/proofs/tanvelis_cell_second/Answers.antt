-- `tanvelis_cell_second`: the second word of what `cell` answers.
use mathlib.Core.Path.{ap, ◌∙◌}
use Rattle.words.specs.CellParts.{second_word}
use Rattle.register_c.proofs.tanvelis_cell_second.Goals as goal

pub returns : goal.returns
returns c = c.second_word.ensures ∙ ap second_word c.cell.ensures
