-- `tanvelis_box_east`: the side of what `lot_box` answers, which is no NaN.
use mathlib.Core.Path.{ap, ◌∙◌}
use Rattle.words.specs.BoxParts.{side_word, side_has_bits}
use Rattle.words.specs.declared.boxes.Side.TheVariants.{East}
use Rattle.words.proofs.BoxLaws.{side_has_bits_lem}
use Rattle.register_c.proofs.tanvelis_box_east.Goals as goal

pub side_word-requires : goal.side_word-requires
side_word-requires c = ap (side_has_bits East) c.lot_box.ensures ∙ side_has_bits_lem East _ _

pub returns : goal.returns
returns c = c.side_word.ensures ∙ ap (side_word East) c.lot_box.ensures
