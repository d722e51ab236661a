-- `tanvelis_box_north`: the side of what `lot_box` answers, which is no NaN.
use mathlib.Core.Path.{ap, ◌∙◌}
use Rattle.words.specs.BoxParts.{side_word, side_has_bits}
use Rattle.words.specs.declared.boxes.Side.TheVariants.{North}
use Rattle.words.proofs.BoxLaws.{side_has_bits_lem}
use Rattle.register_c.proofs.tanvelis_box_north.Goals as goal

pub side_word-requires : goal.side_word-requires
side_word-requires c = ap (side_has_bits North) c.lot_box.ensures ∙ side_has_bits_lem North _ _

pub returns : goal.returns
returns c = c.side_word.ensures ∙ ap (side_word North) c.lot_box.ensures
