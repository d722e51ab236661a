-- `tanvelis_box`: the word of what `lot_box` answers.
use mathlib.Core.Path.{ap, ◌∙◌}
use Rattle.words.specs.Boundary.{box_word}
use Rattle.register_c.proofs.tanvelis_box.Goals as goal

pub returns : goal.returns
returns c = c.box_word.ensures ∙ ap box_word c.lot_box.ensures
