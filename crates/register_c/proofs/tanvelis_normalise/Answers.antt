-- `tanvelis_normalise`: the word of what `normalise` answers, whose lengths have room in it.
use mathlib.Core.Path.{ap, ◌∙◌}
use native.Mathlib.Omega.{arith}
use Rattle.words.specs.Boundary.{document_word}
use Rattle.register.proofs.NormaliseLaws.{answer_fits}
use Rattle.register_c.proofs.tanvelis_normalise.Goals as goal

pub document_word-requires : goal.document_word-requires
document_word-requires c = answer_fits _ _ (λ i. omega (arith, c.type_inv.metadata i)) _ _ _ _ _ c.normalise.ensures

pub returns : goal.returns
returns c = let answered = c.normalise.ensures in
    (c.document_word.ensures ∙ ap document_word answered.answer_is, answered.metadata_is, answered.value_is)
