-- `tanvelis_judge`: the word of what `judge` answers.
use mathlib.Core.Path.{ap, ◌∙◌}
use Rattle.words.specs.Boundary.{checked_word}
use Rattle.register_c.proofs.tanvelis_judge.Goals as goal

pub returns : goal.returns
returns c = c.checked_word.ensures ∙ ap checked_word c.judge.ensures
