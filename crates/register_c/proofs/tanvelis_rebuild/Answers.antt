-- `tanvelis_rebuild`: the word of what `rebuild_row` answers, whose lengths have room in it.
use mathlib.Core.Path.{ap, ◌∙◌}
use Rattle.words.specs.Boundary.{document_word}
use Rattle.register_c.proofs.tanvelis_rebuild.Goals as goal

pub returns : goal.returns
returns c = let answered = c.rebuild_row.ensures.0 in
    (c.document_word.ensures ∙ ap document_word answered.answer_is, answered.metadata_is, answered.value_is)
