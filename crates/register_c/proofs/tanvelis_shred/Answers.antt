-- `tanvelis_shred`: the word of what `shred` answers, whose length has room in it.
use mathlib.Core.Path.{ap, ◌∙◌}
use Rattle.words.specs.Boundary.{row_word}
use Rattle.register.proofs.ShredLaws.{row_fits}
use Rattle.register_c.proofs.tanvelis_shred.Goals as goal

pub row_word-requires : goal.row_word-requires
row_word-requires c = row_fits _ _ _ c.shred.ensures

pub returns : goal.returns
returns c = let answered = c.shred.ensures in
    (c.row_word.ensures ∙ ap row_word answered.answer_is, answered.row_is)
