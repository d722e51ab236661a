-- `tanvelis_check`: the word of what `check` answers.
use mathlib.Core.Path.{ap, ◌∙◌}
use Rattle.words.specs.Boundary.{checked_word}
use Rattle.register_c.proofs.tanvelis_check.Goals as goal

pub returns : goal.returns
returns c = c.checked_word.ensures ∙ ap checked_word c.check.ensures
