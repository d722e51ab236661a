-- `read_signed`: the number read at its width, and its sign.
use mathlib.Core.Path.{◌∙◌}
use mir.Facts.{to_z-of_z}
use mir.Syntax.{w64}
use Rattle.signed.proofs.read_signed.Goals as goal

pub returns-then-width-eq8 : goal.returns-then-width-eq8
returns-then-width-eq8 c = let e = c.if-width-eq8.true in
    to_z-of_z {w = w64} (record { sfits = c.signed.type_inv }) ∙ c.signed.ensures ∙ rw (c.read8.ensures, e)

pub read-requires : goal.read-requires
read-requires c = (c.requires.0, c.requires.1.least, c.requires.1.none_between c.if-width-eq8.false)

pub returns : goal.returns
returns c = to_z-of_z {w = w64} (record { sfits = c.signed-2.type_inv }) ∙ c.signed-2.ensures ∙ rw c.read.ensures.0
