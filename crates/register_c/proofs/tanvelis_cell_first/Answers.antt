-- `tanvelis_cell_first`: the first word of what `cell` answers, which is never a NaN taken for a number.
use mathlib.Core.Path.{ap, ◌∙◌}
use Rattle.words.specs.CellParts.{first_word, answer_has_bits}
use Rattle.words.proofs.BitsLaws.{answer_has_bits_lem}
use Rattle.register_c.proofs.tanvelis_cell_first.Goals as goal

pub first_word-requires : goal.first_word-requires
first_word-requires c = ap answer_has_bits c.cell.ensures ∙ answer_has_bits_lem _ _

pub returns : goal.returns
returns c = c.first_word.ensures ∙ ap first_word c.cell.ensures
