-- `tanvelis_find`: the word of what `find` answers, which lies inside the value.
use mathlib.Core.Path.{ap, ◌∙◌}
use Rattle.words.specs.Boundary.{found_word, found_has_room}
use Rattle.register.proofs.FoundLaws.{found_fits}
use Rattle.register_c.proofs.tanvelis_find.Goals as goal

pub found_word-requires : goal.found_word-requires
found_word-requires c = ap found_has_room c.find.ensures ∙ found_fits _ _ _

pub returns : goal.returns
returns c = c.found_word.ensures ∙ ap found_word c.find.ensures
